-- A transcript determines its run among the stormy runs of a script.
use Rattle.std.proofs.Common.{◌≡◌, ℕ, ◌+◌, ◌≤◌, ◌<◌, List, [], ◌∷◌, ◌++◌, length, take, drop, sum, decimal, refl, sym, ap, subst, arith, ◌∙◌, All}
use Rattle.std.specs.Prelude.{codes}
use Rattle.std.specs.List.{AllByRecursion}
use Rattle.std.proofs.lemmas.List.{append_cancel_left, length-take, length-drop, take-append-drop, nil_from_length}
use Rattle.std.proofs.lemmas.List.Elements.{recursion_from_All}
use Rattle.std.proofs.lemmas.List.Sums.{sum_by-cons}
use Rattle.palm_base.specs.declared.call.Entry.{Entry}
use Rattle.palm_base.specs.History.{IsCutting, calls_of, entries_of, replies_to}
use Rattle.palm_base.specs.Pass.{batch_tree, tree_after}
use Rattle.palm_script.specs.Laws.{TextShowsRun}
use Rattle.palm_script.specs.Storms.{IsStormySection, IsStormyFrom, calls_by_caller}
use Rattle.palm_script.specs.Transcript.{Progress, Section, after_batch, after_section, batch_text, batches_text, dump_text, dumps_batches, section_text, sections_text, reply_lines, begin, straight}
use Rattle.palm_script.specs.declared.dump.DumpWhen.{DumpWhen}
use Rattle.palm_script.proofs.Callers.{each_caller}
use Rattle.palm_script.proofs.ReplyLines.{AreOneBatch, lines_show_batch, parted}
use Rattle.palm_script.proofs.Shuffles.{AreShuffles, shuffles_turned, none_is_left}

-- ---- a batch

-- The texts of two batches from one place on that begin one text are of one batch.
text_shows_batch : (dump : DumpWhen) (at : Progress) (xs ys ps qs : List Entry) (v w : List ℕ) → AreShuffles (xs ++ ps) (ys ++ qs)
    → batch_text dump at xs ++ v ≡ batch_text dump at ys ++ w → AreOneBatch xs ys ps qs v w
text_shows_batch dump at xs ys ps qs v w shuffles e =
    let lines = λ (batch : List Entry). reply_lines at.calls batch (replies_to at.rows batch) in
    let others = λ (batch : List Entry). (32 ∷ (decimal (length batch) ++ codes "\n")) ++ dump_text (dumps_batches dump) (batch_tree at.tree (calls_of batch)) in
    let text = parted (lines xs) (61 ∷ others xs) v (lines ys) (61 ∷ others ys) w e in
    let found = lines_show_batch at.calls at.rows xs ys ps qs (others xs ++ v) (others ys ++ w) shuffles text in
    let rest = append_cancel_left (others xs) v w (found.text ∙ ap (λ (batch : List Entry). others batch ++ w) (sym found.batch)) in
    record { batch = found.batch; text = rest; rest = found.rest }

-- ---- the batches of a section

-- What two sections' batches were found to be: the same histories, cut in the same way, with the same text after them.
record AreOneHistory (left right : List Entry) (left_cutting right_cutting after_left after_right : List ℕ) : Type 0 where
  history : left ≡ right
  cutting : left_cutting ≡ right_cutting
  text : after_left ≡ after_right

rest_is_cut : (history : List Entry) (k : ℕ) (lengths : List ℕ) → IsCutting history (k ∷ lengths) → (k ≤ length history) × IsCutting (drop k history) lengths
rest_is_cut history k lengths cutting =
    let total : sum (k ∷ lengths) ≡ k + sum lengths = sum_by-cons (λ n. n) k lengths in
    let rest : IsCutting (drop k history) lengths = record { some = cutting.some.1; whole = omega (arith, total, cutting.whole, length-drop k history) } in
    (omega (arith, total, cutting.whole), rest)

nothing_is_cut : (history : List Entry) → IsCutting history [] → history ≡ []
nothing_is_cut history cutting = nil_from_length history (sym cutting.whole)

-- Where one history is used up, the other has no batch.
no_more_batches : (left right : List Entry) (k : ℕ) (lengths : List ℕ) → AreShuffles left right → IsCutting left [] → IsCutting right (k ∷ lengths) → ⊥
no_more_batches left right k lengths shuffles ends goes_on =
    let none : AreShuffles [] right = subst (λ (history : List Entry). AreShuffles history right) (nothing_is_cut left ends) shuffles in
    let empty : length right ≡ 0 = ap length (none_is_left right none) in
    omega (arith, empty, (rest_is_cut right k lengths goes_on).0, goes_on.some.0)

batches_show_history : (dump : DumpWhen) (at : Progress) (left right : List Entry) (left_cutting right_cutting : List ℕ) (v w : List ℕ)
    → AreShuffles left right → IsCutting left left_cutting → IsCutting right right_cutting
    → batches_text dump at left left_cutting ++ v ≡ batches_text dump at right right_cutting ++ w
    → AreOneHistory left right left_cutting right_cutting v w
batches_show_history dump at left right [] [] v w shuffles cut-left cut-right e =
    record { history = nothing_is_cut left cut-left ∙ sym (nothing_is_cut right cut-right); cutting = refl; text = e }
batches_show_history dump at left right [] (n ∷ ns) v w shuffles cut-left cut-right e =
    absurd (no_more_batches left right n ns shuffles cut-left cut-right)
batches_show_history dump at left right (m ∷ ms) [] v w shuffles cut-left cut-right e =
    absurd (no_more_batches right left m ms (shuffles_turned left right shuffles) cut-right cut-left)
batches_show_history dump at left right (m ∷ ms) (n ∷ ns) v w shuffles cut-left cut-right e =
    let xs = take m left in
    let ys = take n right in
    let ps = drop m left in
    let qs = drop n right in
    let others-left = λ (batch : List Entry). batches_text dump (after_batch at batch) ps ms in
    let others-right = λ (batch : List Entry). batches_text dump (after_batch at batch) qs ns in
    let batch = batch_text dump at in
    let text = parted (batch xs) (others-left xs) v (batch ys) (others-right ys) w e in
    let whole : AreShuffles (xs ++ ps) (ys ++ qs) = rw (take-append-drop m left, take-append-drop n right) shuffles in
    let first = text_shows_batch dump at xs ys ps qs (others-left xs ++ v) (others-right ys ++ w) whole text in
    let text-rest = first.text ∙ ap (λ (batch : List Entry). others-right batch ++ w) (sym first.batch) in
    let left-rest = rest_is_cut left m ms cut-left in
    let right-rest = rest_is_cut right n ns cut-right in
    let rest = batches_show_history dump (after_batch at xs) ps qs ms ns v w first.rest left-rest.1 right-rest.1 text-rest in
    let length-is : m ≡ n = omega (arith, length-take m left, length-take n right, ap length first.batch, left-rest.0, right-rest.0) in
    record {
      history = sym (take-append-drop m left) ∙ (λ i. first.batch i ++ rest.history i) ∙ take-append-drop n right;
      cutting = λ i. length-is i ∷ rest.cutting i;
      text = rest.text;
    }

-- ---- sections

-- The callers are those of a script.
callers_are_below : (calls history : List Entry) → All (λ (entry : Entry). entry.caller < length (calls_by_caller calls)) history
    → AllByRecursion (λ (entry : Entry). entry.caller < 64) history
callers_are_below calls history below =
    let many = each_caller (λ (caller : ℕ). calls_of (entries_of caller calls)) in
    recursion_from_All (λ (entry : Entry). entry.caller < 64) history (subst (λ (n : ℕ). All (λ (entry : Entry). entry.caller < n) history) many below)

-- Two sections that may stand in place of one section have each caller's entries in its order.
sections_are_shuffles : (most : ℕ) (before : List Entry) (own section other : Section)
    → IsStormySection most before own section → IsStormySection most before own other → AreShuffles section.history other.history
sections_are_shuffles most before own section other stormy stormy-other = record {
  lefts = callers_are_below own.history section.history stormy.keeps.callers;
  rights = callers_are_below own.history other.history stormy-other.keeps.callers;
  same = λ caller small.
      let many = each_caller (λ (caller : ℕ). calls_of (entries_of caller own.history)) in
      let among : caller < length (calls_by_caller own.history) = omega (arith, many, small) in
      stormy.keeps.calls caller among ∙ sym (stormy-other.keeps.calls caller among);
}

text_shows_section : (dump : DumpWhen) (at : Progress) (most : ℕ) (before : List Entry) (own section other : Section) (v w : List ℕ)
    → IsStormySection most before own section → IsStormySection most before own other
    → section_text dump at section ++ v ≡ section_text dump at other ++ w → (section ≡ other) × (v ≡ w)
text_shows_section dump at most before own section other v w stormy stormy-other e =
    let batches = λ (which : Section). batches_text dump at which.history which.cutting in
    let shape = λ (which : Section). dump_text which.dumps (tree_after at.tree which.history which.cutting) in
    let text = parted (batches section) (shape section) v (batches other) (shape other) w e in
    let shuffles = sections_are_shuffles most before own section other stormy stormy-other in
    let left-rest = shape section ++ v in
    let right-rest = shape other ++ w in
    let found = batches_show_history dump at section.history other.history section.cutting other.cutting left-rest right-rest shuffles stormy.cuts stormy-other.cuts text in
    let dumps = stormy.dumps ∙ sym stormy-other.dumps in
    let same : section ≡ other = λ i. record { history = found.history i; cutting = found.cutting i; dumps = dumps i } in
    (same, append_cancel_left (shape section) v w (found.text ∙ ap (λ (which : Section). shape which ++ w) (sym same)))

text_shows_sections : (dump : DumpWhen) (at : Progress) (most : ℕ) (before : List Entry) (owns run other : List Section)
    → IsStormyFrom most before owns run → IsStormyFrom most before owns other
    → sections_text dump at run ≡ sections_text dump at other → run ≡ other
text_shows_sections dump at most before [] [] [] stormy stormy-other e = refl
text_shows_sections dump at most before [] [] (section ∷ sections) stormy stormy-other e = absurd stormy-other
text_shows_sections dump at most before [] (section ∷ sections) other stormy stormy-other e = absurd stormy
text_shows_sections dump at most before (own ∷ owns) [] other stormy stormy-other e = absurd stormy
text_shows_sections dump at most before (own ∷ owns) (section ∷ sections) [] stormy stormy-other e = absurd stormy-other
text_shows_sections dump at most before (own ∷ owns) (section ∷ sections) (first ∷ others) stormy stormy-other e =
    let at-next = after_section at section in
    let text = λ (which : Section). sections_text dump (after_section at which) others in
    let found = text_shows_section dump at most before own section first (sections_text dump at-next sections) (text first) stormy.0 stormy-other.0 e in
    let text-rest = found.1 ∙ ap text (sym found.0) in
    let rest = text_shows_sections dump at-next most (before ++ own.history) owns sections others stormy.1 stormy-other.1 text-rest in
    λ i. found.0 i ∷ rest i

pub text_shows_run : TextShowsRun
text_shows_run items most dump run other stormy stormy-other e =
    text_shows_sections dump begin most [] (straight items most) run other stormy stormy-other e
