-- Keys stand in the order of their prefixes.
use Rattle.std.proofs.Common.{◌≡◌, ℕ, zero, suc, ◌+◌, ◌*◌, ◌^◌, ◌<◌, ◌≤◌, Bool, true, false, List, [], ◌∷◌, length, refl, sym, arith, ◌⊎◌, inl, inr}
use Rattle.std.specs.Bool.{MatchBool, Decides}
use Rattle.std.proofs.lemmas.Bool.{cases_order, lt-ltb, le-ltb, eq-eqb, ne_eqb, false≢true, false_from_ne_true}
use Rattle.std.proofs.Math.Nat.{mul-le-mul_right}
use Rattle.palm_base.specs.Prefix.{AreDigits, comes_before}
use Rattle.palm_base.specs.Key.{packed, key}
use Rattle.palm_base.specs.Laws.{KeysKeepOrder, KeysAreDistinct}
use Rattle.palm_base.proofs.Keys.{packed-room}

-- the key from the group k down
abbrev key_from : ℕ → List ℕ → ℕ
key_from k ds = packed k ds * 16 + length ds

-- the answer of a test of order is that of the keys
abbrev Ordered : ℕ → List ℕ → List ℕ → Bool → Type 0
Ordered k p q answer = MatchBool answer (key_from k p < key_from k q) (key_from k q ≤ key_from k p)

below_first : (k d e : ℕ) (ds es : List ℕ) → AreDigits ds → length ds ≤ k → d < e → key_from (suc k) (d ∷ ds) < key_from (suc k) (e ∷ es)
below_first k d e ds es a l h =
    let room = packed-room k ds a l in
    let more : suc d * 16 ^ k ≤ e * 16 ^ k = mul-le-mul_right (16 ^ k) h in
    omega arith

same_first : (k d : ℕ) (ds es : List ℕ) (answer : Bool) → Ordered k ds es answer → Ordered (suc k) (d ∷ ds) (d ∷ es) answer
same_first k d ds es true h = omega arith
same_first k d ds es false h = omega arith

ordered : (k : ℕ) (p q : List ℕ) → AreDigits p → AreDigits q → length p ≤ k → length q ≤ k → Ordered k p q (comes_before p q)
ordered k [] [] a b l m = omega arith
ordered k [] (e ∷ es) a b l m = omega arith
ordered k (d ∷ ds) [] a b l m = omega arith
ordered zero (d ∷ ds) (e ∷ es) a b l m = absurd (omega arith)
ordered (suc k) (d ∷ ds) (e ∷ es) a b l m = by_first (ordered k ds es a.1 b.1 (omega arith) (omega arith)) (cases_order d e)
  where
    by_first : Ordered k ds es (comes_before ds es) → (d ≡ e) ⊎ ((d < e) ⊎ (e < d)) → Ordered (suc k) (d ∷ ds) (e ∷ es) (comes_before (d ∷ ds) (e ∷ es))
    by_first rest (inl h) = rw (← h, le-ltb d d (omega arith), eq-eqb d d refl) (same_first k d ds es (comes_before ds es) rest)
    by_first rest (inr (inl h)) = rw (lt-ltb d e h) (below_first k d e ds es a.1 (omega arith) h)
    by_first rest (inr (inr h)) =
        let lt = below_first k e d es ds b.1 (omega arith) h in
        rw (le-ltb d e (omega arith), ne_eqb d e (λ s. omega arith)) (omega arith)

pub keys_keep_order : KeysKeepOrder
keys_keep_order p q a b = decided (comes_before p q) (ordered 15 p q a.small b.small a.few b.few)
  where
    decided : (answer : Bool) → MatchBool answer (key p < key q) (key q ≤ key p) → Decides answer (key p < key q)
    decided true h = (λ _. h, λ _. refl)
    decided false h = (λ e. absurd (false≢true e), λ l. absurd (omega arith))

-- Of two lists neither of which stands before the other, each is the other.
same_from_neither : (p q : List ℕ) → comes_before p q ≡ false → comes_before q p ≡ false → p ≡ q
same_from_neither [] [] h i = refl
same_from_neither [] (e ∷ es) h i = cc
same_from_neither (d ∷ ds) [] h i = cc
same_from_neither (d ∷ ds) (e ∷ es) h i = by (same_from_neither ds es) (cases_order d e)
  where
    by : (comes_before ds es ≡ false → comes_before es ds ≡ false → ds ≡ es) → (d ≡ e) ⊎ ((d < e) ⊎ (e < d)) → d ∷ ds ≡ e ∷ es
    by rest (inl s) =
        let before = rw (← s, le-ltb d d (omega arith), eq-eqb d d refl) at h in
        let behind = rw (← s, le-ltb d d (omega arith), eq-eqb d d refl) at i in
        let same = rest before behind in
        cc
    by rest (inr (inl s)) = let before = rw (lt-ltb d e s) at h in absurd (false≢true (sym before))
    by rest (inr (inr s)) = let behind = rw (lt-ltb e d s) at i in absurd (false≢true (sym behind))

pub keys_are_distinct : KeysAreDistinct
keys_are_distinct p q a b e =
    same_from_neither p q
    (false_from_ne_true (comes_before p q) (λ t. let l = (keys_keep_order p q a b).0 t in absurd (omega arith)))
    (false_from_ne_true (comes_before q p) (λ t. let l = (keys_keep_order q p b a).0 t in absurd (omega arith)))
