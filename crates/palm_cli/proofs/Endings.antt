-- The transcript of a run, as far as it is written, and what it leaves.
use Rattle.std.proofs.Common.{◌≡◌, ℕ, zero, ◌+◌, ◌≤◌, Bool, true, false, List, [], ◌++◌, Option, refl, sym, ap, subst, ◌∙◌, arith}
use Rattle.std.specs.Io.KnownBytes.{Appends}
use Rattle.std.proofs.KnownBytes.{Appends-trans}
use Rattle.std.proofs.lemmas.List.{append-nil}
use Rattle.palm_base.specs.Tree.{Tree}
use Rattle.palm_script.specs.Transcript.{Progress, Section, begin, come_to, after_run, after_sections, sections_text, text_of, final_of, ending}
use Rattle.palm_script.specs.declared.dump.DumpWhen.{DumpWhen}
use Rattle.palm_cli.specs.Costs.{sections_cost, run_cost}
use Rattle.palm_cli.specs.Streams.{AppendsFront, text_to}
use Rattle.palm_cli.proofs.Fronts.{front_longer, front_more}

-- The empty tree, after no call, is where every transcript begins.
begun : (tree : Tree) → tree ≡ (zero, []) → come_to 0 tree ≡ begin
begun tree is = ap (come_to 0) is

-- Where the sections of a run come to from the empty tree.
run_comes_to : (tree after : Tree) (run : List Section) (calls : ℕ) → tree ≡ (zero, []) → after_sections (come_to 0 tree) run ≡ come_to calls after
    → after_run run ≡ come_to calls after
run_comes_to tree after run calls is came = ap (λ (at : Progress). after_sections at run) (sym (begun tree is)) ∙ came

-- They leave the tree that the run leaves.
pub run_leaves : (tree after : Tree) (run : List Section) (calls : ℕ) → tree ≡ (zero, []) → after_sections (come_to 0 tree) run ≡ come_to calls after
    → after ≡ (after_run run).tree
run_leaves tree after run calls is came = sym (ap (λ (at : Progress). at.tree) (run_comes_to tree after run calls is came))

-- The text of its sections is that of the run.
pub run_text : (dump : DumpWhen) (tree : Tree) (run : List Section) (a b : Option (List ℕ))
    → tree ≡ (zero, []) → Appends a b (sections_text dump (come_to 0 tree) run) → Appends a b (text_of dump run)
run_text dump tree run a b is took = subst (λ (at : Progress). Appends a b (sections_text dump at run)) (begun tree is) took

-- So is a front of it.
pub run_front : (dump : DumpWhen) (tree : Tree) (run : List Section) (a b : Option (List ℕ))
    → tree ≡ (zero, []) → AppendsFront a b (sections_text dump (come_to 0 tree) run) → AppendsFront a b (text_of dump run)
run_front dump tree run a b is took = subst (λ (at : Progress). AppendsFront a b (sections_text dump at run)) (begun tree is) took

-- A front of it begins the transcript, with what stands at the end or without.
pub text_front : (dump : DumpWhen) (ends : Bool) (run : List Section) (a b : Option (List ℕ)) → AppendsFront a b (text_of dump run) → AppendsFront a b (text_to dump ends run)
text_front dump true run a b took = front_longer a b (text_of dump run) (ending dump (after_run run)) (final_of dump run) took refl
text_front dump false run a b took = took

-- What the sections of a run may take from the empty tree is what the run may.
pub cost_of_run : (tree : Tree) (run : List Section) (before now : ℕ) → tree ≡ (zero, []) → now ≤ before + sections_cost tree run → now ≤ before + run_cost run
cost_of_run tree run before now is few = omega (arith, few, ap (λ (t : Tree). sections_cost t run) is)

-- ---- the end of the transcript, behind the sections

-- What stands at the end is that of the tree that they leave, after as many calls.
same_ending : (dump : DumpWhen) (tree after : Tree) (run : List Section) (calls many : ℕ) → tree ≡ (zero, []) → after_sections (come_to 0 tree) run ≡ come_to calls after
    → calls ≡ many → ending dump (come_to many after) ≡ ending dump (after_run run)
same_ending dump tree after run calls many is came size =
    ap (ending dump) (sym (run_comes_to tree after run calls is came ∙ ap (λ (n : ℕ). come_to n after) size))

-- It was written.
pub text_ended : (dump : DumpWhen) (tree after : Tree) (run : List Section) (calls many : ℕ) (a b c : Option (List ℕ)) → tree ≡ (zero, [])
    → after_sections (come_to 0 tree) run ≡ come_to calls after → calls ≡ many → Appends a b (sections_text dump (come_to 0 tree) run)
    → Appends b c (ending dump (come_to many after)) → Appends a c (final_of dump run)
text_ended dump tree after run calls many a b c is came size text took =
    Appends-trans a b c (text_of dump run) (ending dump (after_run run)) (run_text dump tree run a b is text)
    (subst (Appends b c) (same_ending dump tree after run calls many is came size) took)

-- A front of it was written.
pub end_front : (dump : DumpWhen) (tree after : Tree) (run : List Section) (calls many : ℕ) (a b c : Option (List ℕ)) → tree ≡ (zero, [])
    → after_sections (come_to 0 tree) run ≡ come_to calls after → calls ≡ many → Appends a b (sections_text dump (come_to 0 tree) run)
    → AppendsFront b c (ending dump (come_to many after)) → AppendsFront a c (final_of dump run)
end_front dump tree after run calls many a b c is came size text took =
    let last = ending dump (after_run run) in
    let more : AppendsFront b c last = subst (AppendsFront b c) (same_ending dump tree after run calls many is came size) took in
    front_more a b c (text_of dump run) last [] (final_of dump run) (run_text dump tree run a b is text) more (ap (λ (l : List ℕ). text_of dump run ++ l) (append-nil last))
