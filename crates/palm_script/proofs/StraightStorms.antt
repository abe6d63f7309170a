-- The run in the order of the lines is stormy.
use Rattle.std.proofs.Common.{◌≡◌, ℕ, zero, suc, ◌+◌, ◌≤◌, ◌<◌, Bool, true, false, cond, eqb, List, [], ◌∷◌, ◌++◌, length, take, drop, slice_index, slice_index_or, refl, sym, ap, subst, append_assoc, append-nil, arith, ◌∙◌, All, eqb-true}
use Rattle.std.specs.List.{AllByRecursion}
use Rattle.std.proofs.lemmas.List.Elements.{All-from_recursion}
use Rattle.palm_base.specs.declared.call.Entry.{Entry}
use Rattle.palm_base.specs.History.{KeepsOrder, calls_of, entries_of, numbered}
use Rattle.palm_base.proofs.Every.{every_take, every_drop}
use Rattle.palm_script.specs.Laws.{StraightIsStormy}
use Rattle.palm_script.specs.Line.{LineFits}
use Rattle.palm_script.specs.Script.{next_entry, entries_from, ends_from}
use Rattle.palm_script.specs.Storms.{IsStormySection, IsStormyFrom, places_after, calls_by_caller}
use Rattle.palm_script.specs.Transcript.{section_by, sections_by}
use Rattle.palm_script.specs.declared.line.Line.{Line}
use Rattle.palm_script.specs.declared.line.Line.TheVariants.{Skip, Made, Cut, Dump}
use Rattle.palm_script.specs.declared.script.SectionEnd.{SectionEnd}
use Rattle.palm_script.proofs.Callers.{each_caller, at_caller}
use Rattle.palm_script.proofs.Cuts.{cuts}
use Rattle.palm_script.proofs.Orders.{count_of, count_of-more}

abbrev AreBelow : List Entry → Type 0
AreBelow entries = AllByRecursion (λ (entry : Entry). entry.caller < 64) entries

-- Each entry has the place that its caller comes to there.
abbrev ArePlaced : List Entry → List Entry → Type 0
ArePlaced before [] = Unit {0}
ArePlaced before (entry ∷ entries) = (entry.place ≡ count_of entry.caller before) × ArePlaced (before ++ entry ∷ []) entries

items_place : (before : List Entry) (items : List Line) → ArePlaced before (entries_from before items)
items_place before [] = tt
items_place before (Skip ∷ items) = items_place before items
items_place before (Made caller call ∷ items) = (refl, items_place (before ++ next_entry before caller call ∷ []) items)
items_place before (Cut ∷ items) = items_place before items
items_place before (Dump ∷ items) = items_place before items

items_fit : (before : List Entry) (items : List Line) → AllByRecursion LineFits items → AreBelow (entries_from before items)
items_fit before [] fit = tt
items_fit before (Skip ∷ items) fit = items_fit before items fit.1
items_fit before (Made caller call ∷ items) fit = (omega (arith, fit.0), items_fit (before ++ next_entry before caller call ∷ []) items fit.1)
items_fit before (Cut ∷ items) fit = items_fit before items fit.1
items_fit before (Dump ∷ items) fit = items_fit before items fit.1

-- The first entries are placed, and so are the others after them.
first_placed : (n : ℕ) (before entries : List Entry) → ArePlaced before entries → ArePlaced before (take n entries)
first_placed zero before entries placed = tt
first_placed (suc n) before [] placed = tt
first_placed (suc n) before (entry ∷ entries) placed = (placed.0, first_placed n (before ++ entry ∷ []) entries placed.1)

others_placed : (n : ℕ) (before entries : List Entry) → ArePlaced before entries → ArePlaced (before ++ take n entries) (drop n entries)
others_placed zero before entries placed = subst (λ (all : List Entry). ArePlaced all entries) (sym (append-nil before)) placed
others_placed (suc n) before [] placed = tt
others_placed (suc n) before (entry ∷ entries) placed =
    subst (λ (all : List Entry). ArePlaced all (drop n entries)) (append_assoc before (entry ∷ []) (take n entries))
    (others_placed n (before ++ entry ∷ []) entries placed.1)

-- Placed entries are each caller's calls, numbered from the place that it had come to.
placed_in_order : (before entries : List Entry) → ArePlaced before entries → (caller : ℕ)
    → entries_of caller entries ≡ numbered caller (count_of caller before) (calls_of (entries_of caller entries))
placed_in_order before [] placed caller = refl
placed_in_order before (entry ∷ entries) placed caller = by (eqb entry.caller caller) refl (placed_in_order (before ++ entry ∷ []) entries placed.1 caller)
  where
    own : List Entry
    own = entries_of caller entries

    count : ℕ
    count = count_of caller before

    by : (b : Bool) → eqb entry.caller caller ≡ b → own ≡ numbered caller (count_of caller (before ++ entry ∷ [])) (calls_of own)
        → cond b (entry ∷ own) own ≡ numbered caller count (calls_of (cond b (entry ∷ own) own))
    by true e rest =
        let whose : entry.caller ≡ caller = eqb-true entry.caller caller e in
        let more : count_of caller (before ++ entry ∷ []) ≡ count + 1 = count_of-more before entry caller ∙ ap (λ (b : Bool). count + cond b 1 0) e in
        let place : entry.place ≡ count = placed.0 ∙ ap (λ (who : ℕ). count_of who before) whose in
        let others : own ≡ numbered caller (count + 1) (calls_of own) = rest ∙ ap (λ (n : ℕ). numbered caller n (calls_of own)) more in
        λ i. record { caller = whose i; place = place i; call = entry.call } ∷ others i
    by false e rest =
        let more : count_of caller (before ++ entry ∷ []) ≡ count = count_of-more before entry caller ∙ ap (λ (b : Bool). count + cond b 1 0) e ∙ omega arith in
        rest ∙ ap (λ (n : ℕ). numbered caller n (calls_of own)) more

placed_keep_order : (before entries : List Entry) → AreBelow entries → ArePlaced before entries
    → KeepsOrder (places_after before) (calls_by_caller entries) entries
placed_keep_order before entries below placed =
    let calls = λ (caller : ℕ). calls_of (entries_of caller entries) in
    let many : length (calls_by_caller entries) ≡ 64 = each_caller calls in
    record {
      callers = subst (λ (n : ℕ). All (λ (entry : Entry). entry.caller < n) entries) (sym many) (All-from_recursion (λ (entry : Entry). entry.caller < 64) entries below);
      calls = λ caller among.
          let small : caller < 64 = omega (arith, many, among) in
          let place : slice_index (places_after before) caller ≡ count_of caller before = at_caller (λ (who : ℕ). count_of who before) 0 caller small in
          let list : slice_index_or (calls_by_caller entries) caller [] ≡ calls caller = at_caller calls [] caller small in
          placed_in_order before entries placed caller ∙ (λ i. numbered caller (sym place i) (sym list i));
    }

section_is_stormy : (most : ℕ) (before entries : List Entry) (dumps : Bool) → 1 ≤ most → AreBelow entries → ArePlaced before entries
    → IsStormySection most before (section_by most entries dumps) (section_by most entries dumps)
section_is_stormy most before entries dumps some below placed =
    let cutting = cuts entries most some in
    record { keeps = placed_keep_order before entries below placed; cuts = cutting.0; few = cutting.1; dumps = refl }

sections_are_stormy : (most : ℕ) (before entries : List Entry) (ends : List SectionEnd) → 1 ≤ most → AreBelow entries → ArePlaced before entries
    → IsStormyFrom most before (sections_by most entries ends) (sections_by most entries ends)
sections_are_stormy most before entries [] some below placed = (section_is_stormy most before entries false some below placed, tt)
sections_are_stormy most before entries (end ∷ ends) some below placed = (
  section_is_stormy most before (take end.calls entries) end.dumps some
      (every_take (λ (entry : Entry). entry.caller < 64) end.calls entries below) (first_placed end.calls before entries placed),
  sections_are_stormy most (before ++ take end.calls entries) (drop end.calls entries) ends some
      (every_drop (λ (entry : Entry). entry.caller < 64) end.calls entries below) (others_placed end.calls before entries placed),
)

pub straight_is_stormy : StraightIsStormy
straight_is_stormy items most some fit =
    sections_are_stormy most [] (entries_from [] items) (ends_from 0 items) some (items_fit [] items fit) (items_place [] items)
