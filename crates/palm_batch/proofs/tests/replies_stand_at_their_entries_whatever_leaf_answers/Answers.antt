use Rattle.std.proofs.Common.{◌≡◌, ℕ, ◌<◌, List, [], ◌∷◌, ◌++◌, None, Some, refl, sym, ap, subst, ◌∙◌, arith}
use Rattle.std.proofs.lemmas.Bool.{lt-ltb, le-ltb, lt-leb, le-leb, eq-eqb}
use Rattle.palm_base.specs.Key.{key}
use Rattle.palm_base.specs.Prefix.{IsPrefix}
use Rattle.palm_base.proofs.Keys.{digits_of-key}
use Rattle.palm_base.specs.declared.call.Call.TheVariants.{Set, Get}
use Rattle.palm_base.specs.declared.call.Entry.{Entry}
use Rattle.palm_arena.specs.Leaves.{LeafPlace}
use Rattle.palm_route.specs.declared.part.Ask.{Ask}
use Rattle.palm_route.specs.declared.part.Ask.TheVariants as ask
use Rattle.palm_leaf.specs.declared.answer.LeafAnswer.TheVariants.{Old}
use Rattle.palm_leaf.specs.declared.answer.PartAnswer.{PartAnswer}
use Rattle.std.specs.Prelude.{Option}
use Rattle.palm_batch.specs.Replies.{AreAnswers}
use Rattle.palm_batch.proofs.tests.replies_stand_at_their_entries_whatever_leaf_answers.Goals as goal

abbrev answer : ℕ → ℕ → Ask → Option ℕ → PartAnswer
answer entry k what rate = record { part = record { entry = entry; number = 0; key = k; ask = what }; answer = Old rate }

-- A leaf right below the root.
abbrev leaf : ℕ → ℕ → LeafPlace
leaf place low = record { leaf = record { place = place }; path = []; low = low }

-- On no rows, the higher prefix's leaf answers the first call and the last.
two_leaves : (low high : List ℕ) (rate : ℕ) (e f g : Entry) (x y z : PartAnswer) → IsPrefix high → key low < key high
    → e.call ≡ Set high rate → f.call ≡ Get low → g.call ≡ Get high
    → x ≡ answer 1 (key low) ask.Look None → y ≡ answer 0 (key high) (ask.Set rate) None → z ≡ answer 2 (key high) ask.Look (Some rate)
    → AreAnswers (leaf 0 0 ∷ leaf 1 (key high) ∷ []) (key high ∷ []) [] (e ∷ f ∷ g ∷ []) (x ∷ y ∷ z ∷ [])
two_leaves low high rate e f g x y z is less p q r u v w = record {
  begin = refl;
  rise = ((omega (arith, less), tt), (tt, tt));
  table = tt;
  prefixes = tt;
  are = rw (
    u,
    v,
    w,
    p,
    q,
    r,
    digits_of-key high is,
    lt-ltb (key low) (key high) less,
    lt-leb (key high) (key low) less,
    le-ltb (key high) (key high) (omega arith),
    le-leb (key high) (key high) (omega arith),
    eq-eqb (key high) (key high) refl,
  ) refl;
}

-- The answers that are put behind none.
three_pushed : (none a b all : List PartAnswer) (x y z : PartAnswer) → none ≡ [] → a ≡ none ++ x ∷ [] → b ≡ a ++ y ∷ [] → all ≡ b ++ z ∷ [] → all ≡ x ∷ y ∷ z ∷ []
three_pushed none a b all x y z p q r s = s ∙ ap (λ l. l ++ z ∷ []) (r ∙ ap (λ l. l ++ y ∷ []) (q ∙ ap (λ l. l ++ x ∷ []) p))

pub join_answers-requires-clause-answers : goal.join_answers-requires-clause-answers
join_answers-requires-clause-answers g c = (
  leaf 0 0 ∷ leaf 1 (key c.digits-high.result) ∷ [],
  key c.digits-high.result ∷ [],
  [],
  subst (AreAnswers (leaf 0 0 ∷ leaf 1 (key c.digits-high.result) ∷ []) (key c.digits-high.result ∷ []) [] (c.entry.result ∷ c.entry-2.result ∷ c.entry-3.result ∷ []))
      (sym (three_pushed c.new-answers.result c.push.new.self c.push-2.new.self c.push-3.new.self c.part_answer.result c.part_answer-2.result c.part_answer-3.result c.new-answers.ensures c.in_ok-push.ensures.ok c.in_ok-push-2.ensures.ok c.in_ok-push-3.ensures.ok))
      (two_leaves c.digits-low.result c.digits-high.result c.amount-rate.result c.entry.result c.entry-2.result c.entry-3.result c.part_answer.result c.part_answer-2.result c.part_answer-3.result c.key-2.ensures.prefix c.assert_before.ensures
      (ap (λ (e : Entry). e.call) c.entry.ensures) (ap (λ (e : Entry). e.call) c.entry-2.ensures) (ap (λ (e : Entry). e.call) c.entry-3.ensures)
      (c.part_answer.ensures ∙ ap (λ k. answer 1 k ask.Look None) c.key.ensures.key) (c.part_answer-2.ensures ∙ ap (λ k. answer 0 k (ask.Set c.amount-rate.result) None) c.key-2.ensures.key) (c.part_answer-3.ensures ∙ ap (λ k. answer 2 k ask.Look (Some c.amount-rate.result)) c.key-3.ensures.key)),
)
