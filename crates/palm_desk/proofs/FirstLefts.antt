-- The look for the first call that is left, one caller after another.
use Rattle.std.proofs.Common.{◌≡◌, ℕ, zero, suc, ◌+◌, ◌*◌, ◌<◌, ◌≤◌, true, false, nat_lt, if◌then◌else◌, List, [], ◌∷◌, slice_index, sym, refl, ap, ◌∙◌, subst, arith, Some, None}
use mathlib.Core.Option.{some, some-injective, some-ne-none}
use Rattle.std.proofs.lemmas.Bool.Decides.{nat_tests}
use mathlib.Core.Logic.{dite}
use native.Mathlib.Decide.{ℕ_discrete, dec_le}
use lib.ListN.{get_elem?}
use Rattle.std.specs.Prelude.{Option}
use Rattle.palm_base.specs.declared.call.Call.{Call}
use Rattle.palm_desk.specs.Rule.{Begins, words_at}
use Rattle.palm_desk.specs.Words.{spell, first_word, second_word, third_word}
use Rattle.palm_desk.specs.Leftovers.{HasLeft, number_at, IsFirstLeft, FindsFirst, earlier_of}

-- A word that was read.
pub word_is : (l : List ℕ) (i a : ℕ) → get_elem? l i ≡ some a → slice_index l i ≡ a
word_is [] i a at = absurd (some-ne-none a (sym at))
word_is (x ∷ l) zero a at = some-injective x a at
word_is (x ∷ l) (suc i) a at = word_is l i a at

lt_true : (a b : ℕ) → a < b → nat_lt a b ≡ true
lt_true a b lt = grind (arith, nat_tests)

lt_false : (a b : ℕ) → b ≤ a → nat_lt a b ≡ false
lt_false a b le = grind (arith, nat_tests)

module _ (words : List ℕ) (window : ℕ) (got made : List ℕ) where
  pub none_yet : FindsFirst words window got made 0 None
  none_yet d lt = absurd (omega arith)

  -- a caller of which nothing is left
  pub skipped : (found : Option (ℕ × ℕ)) (c : ℕ) → slice_index made c ≤ slice_index got c → FindsFirst words window got made c found → FindsFirst words window got made (c + 1) found
  skipped None c le all = λ d lt. dite (ℕ_discrete d c) (λ is. subst (λ i. slice_index made i ≤ slice_index got i) (sym is) le) (λ ne. all d (omega arith))
  skipped (Some f) c le first = record {
    inside = (let i = first.inside in omega arith);
    left = first.left;
    number = first.number;
    least = λ d lt has. dite (ℕ_discrete d c) (λ is. absurd (let h = subst (HasLeft got made) is has in omega arith)) (λ ne. first.least d (omega arith) has);
  }

  new_first : (c n : ℕ) → HasLeft got made c → n ≡ number_at words window got c → ((d : ℕ) → d < c → HasLeft got made d → n ≤ number_at words window got d) → IsFirstLeft words window got made (c + 1) c n
  new_first c n has n_is least = record {
    inside = omega arith;
    left = has;
    number = n_is;
    least = λ d lt has'. dite (ℕ_discrete d c)
        (λ is. subst (λ i. n ≤ number_at words window got i) (sym is) (let g : n ≤ number_at words window got c = omega arith in g))
        (λ ne. least d (omega arith) has');
  }

  -- a caller of which a call is left
  pub compared : (found : Option (ℕ × ℕ)) (c n : ℕ) → HasLeft got made c → n ≡ number_at words window got c → FindsFirst words window got made c found → FindsFirst words window got made (c + 1) (earlier_of found c n)
  compared None c n has n_is all = new_first c n has n_is (λ d lt has'. absurd (let le = all d lt in omega arith))
  compared (Some f) c n has n_is first = dite (dec_le (suc n) f.1)
      (λ lt. subst (λ b. FindsFirst words window got made (c + 1) (if b then Some (c, n) else Some f)) (sym (lt_true n f.1 (omega arith)))
      (new_first c n has n_is (λ d lt' has'. let le = first.least d lt' has' in omega arith)))
      (λ no. subst (λ b. FindsFirst words window got made (c + 1) (if b then Some (c, n) else Some f)) (sym (lt_false n f.1 (omega arith)))
      record {
        inside = (let i = first.inside in omega arith);
        left = first.left;
        number = first.number;
        least = λ d lt' has'. dite (ℕ_discrete d c)
            (λ is. subst (λ i. f.1 ≤ number_at words window got i) (sym is) (let g : f.1 ≤ number_at words window got c = omega arith in g))
            (λ ne. first.least d (omega arith) has');
      })

-- The three words of a cell that spells a call.
pub spelled_by : (words : List ℕ) (q : ℕ) (call : Call) (a b d : ℕ) → Begins words (words_at q) (spell call) → slice_index words (4 * q + 3) ≡ a → slice_index words (4 * q + 4) ≡ b → slice_index words (4 * q + 5) ≡ d
    → spell call ≡ a ∷ b ∷ d ∷ []
spelled_by words q call a b d begun a_is b_is d_is =
    let first : first_word call ≡ a = sym (begun 0 (first_word call) refl) ∙ ap (slice_index words) (let g : 4 * q + 3 + 0 ≡ 4 * q + 3 = omega arith in g) ∙ a_is in
    let second : second_word call ≡ b = sym (begun 1 (second_word call) refl) ∙ ap (slice_index words) (let g : 4 * q + 3 + 1 ≡ 4 * q + 4 = omega arith in g) ∙ b_is in
    let third : third_word call ≡ d = sym (begun 2 (third_word call) refl) ∙ ap (slice_index words) (let g : 4 * q + 3 + 2 ≡ 4 * q + 5 = omega arith in g) ∙ d_is in
    λ t. first t ∷ second t ∷ third t ∷ []
