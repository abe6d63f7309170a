-- A jump from a number's front to a shorter one: where no row lies from a bound on to the front, no front that lies there is one.
use Rattle.std.proofs.Common.{◌≡◌, ℕ, zero, suc, ◌-◌, ◌<◌, ◌≤◌, true, false, List, [], ◌∷◌, length, take, length-take, length-take-le, Some, None, refl, sym, ap, ◌∙◌, arith, ◌⊎◌, inl, inr}
use Rattle.std.proofs.lemmas.Bool.{cases_lt, cases_order, lt-ltb, le-ltb, eq-eqb, ne_eqb, false≢true, false_from_ne_true}
use Rattle.palm_base.specs.Prefix.{IsPrefix, begins, comes_before}
use Rattle.palm_base.specs.Key.{key}
use Rattle.palm_base.specs.Table.{row_key, rate_at}
use Rattle.palm_base.specs.Fronts.{first_front}
use Rattle.palm_base.specs.declared.row.Row.{Row}
use Rattle.palm_base.proofs.KeyOrder.{keys_keep_order, keys_are_distinct}
use Rattle.palm_base.proofs.Fronts.{front-is_prefix, begins-take, fronts_rise}
use Rattle.palm_tree.specs.Floors.{NoneWithin, IsLast, IsLowest, shared_below}
use Rattle.palm_tree.proofs.FrontRates.{front_found, front_missed}

-- ---- the order of fronts

-- Nothing stands before no digits.
none_first : (ds : List ℕ) → comes_before ds [] ≡ false
none_first [] = refl
none_first (d ∷ ds) = refl

-- Where a list doesn't stand before a bound whose first digit is another, no list with its first digit does.
first_decides : (d e : ℕ) (bound number other : List ℕ) → (d < e) ⊎ (e < d) → comes_before (e ∷ number) (d ∷ bound) ≡ false → comes_before (e ∷ other) (d ∷ bound) ≡ false
first_decides d e bound number other (inl less) behind = rw (le-ltb e d (omega arith), ne_eqb e d (λ s. omega arith)) refl
first_decides d e bound number other (inr more) behind = absurd (false≢true (sym (rw (lt-ltb e d more) at behind)))

-- Where a front doesn't stand before a bound, it is longer than what the number shares with the bound,
shared_less : (n d : ℕ) (bound number : List ℕ) → n ≤ length number → comes_before (take n number) (d ∷ bound) ≡ false → shared_below (d ∷ bound) number < n
shared_less zero d bound number few behind = absurd (false≢true (sym behind))
shared_less (suc n) d bound [] few behind = absurd (omega arith)
shared_less (suc n) d [] (e ∷ number) few behind = omega arith
shared_less (suc n) d (next ∷ bound) (e ∷ number) few behind = by (shared_less n next bound number (omega arith)) (cases_order d e)
  where
    by : (comes_before (take n number) (next ∷ bound) ≡ false → shared_below (next ∷ bound) number < n) → (d ≡ e) ⊎ ((d < e) ⊎ (e < d))
        → shared_below (d ∷ next ∷ bound) (e ∷ number) < suc n
    by rest (inl same) =
        let later = rest (rw (← same, le-ltb d d (omega arith), eq-eqb d d refl) at behind) in
        rw (eq-eqb d e same) (omega (arith, later))
    by rest (inr apart) = rw (ne_eqb d e (λ s. omega arith)) (omega arith)

-- and no front that is longer than that stands before the bound.
shared_past : (m n d : ℕ) (bound number : List ℕ) → m ≤ length number → n ≤ length number → comes_before (take n number) (d ∷ bound) ≡ false
    → shared_below (d ∷ bound) number < m → comes_before (take m number) (d ∷ bound) ≡ false
shared_past zero n d bound number short few behind past = absurd (omega arith)
shared_past (suc m) zero d bound number short few behind past = absurd (false≢true (sym behind))
shared_past (suc m) (suc n) d bound [] short few behind past = absurd (omega arith)
shared_past (suc m) (suc n) d [] (e ∷ number) short few behind past = by (cases_order d e)
  where
    by : (d ≡ e) ⊎ ((d < e) ⊎ (e < d)) → comes_before (e ∷ take m number) (d ∷ []) ≡ false
    by (inl same) = rw (← same, le-ltb d d (omega arith), eq-eqb d d refl) (none_first (take m number))
    by (inr apart) = first_decides d e [] (take n number) (take m number) apart behind
shared_past (suc m) (suc n) d (next ∷ bound) (e ∷ number) short few behind past =
    by (shared_past m n next bound number (omega arith) (omega arith)) (cases_order d e)
  where
    by : (comes_before (take n number) (next ∷ bound) ≡ false → shared_below (next ∷ bound) number < m → comes_before (take m number) (next ∷ bound) ≡ false)
        → (d ≡ e) ⊎ ((d < e) ⊎ (e < d)) → comes_before (e ∷ take m number) (d ∷ next ∷ bound) ≡ false
    by rest (inl same) =
        let own = rw (← same, le-ltb d d (omega arith), eq-eqb d d refl) at behind in
        let more = rw (eq-eqb d e same) at past in
        rw (← same, le-ltb d d (omega arith), eq-eqb d d refl) (rest own (omega (arith, more)))
    by rest (inr apart) = first_decides d e (next ∷ bound) (take n number) (take m number) apart behind

-- ---- the same by keys

pub front_keys_rise : (m n : ℕ) (number : List ℕ) → IsPrefix number → 1 ≤ m → m < n → n ≤ length number → key (take m number) < key (take n number)
front_keys_rise m n number is some less few =
    (keys_keep_order (take m number) (take n number) (front-is_prefix m number is some (omega arith)) (front-is_prefix n number is (omega arith) few)).0
    (fronts_rise m n number less few)

front_keys_le : (m n : ℕ) (number : List ℕ) → IsPrefix number → 1 ≤ m → m ≤ n → n ≤ length number → key (take m number) ≤ key (take n number)
front_keys_le m n number is some le few = by (cases_lt m n)
  where
    by : (m < n) ⊎ (n ≤ m) → key (take m number) ≤ key (take n number)
    by (inl less) = omega (arith, front_keys_rise m n number is some less few)
    by (inr same) = let e : m ≡ n = omega arith in omega (arith, ap (λ (k : ℕ). key (take k number)) e)

not_before : (p q : List ℕ) → IsPrefix p → IsPrefix q → key q ≤ key p → comes_before p q ≡ false
not_before p q a b least = false_from_ne_true _ (λ e. omega (arith, (keys_keep_order p q a b).0 e))

from_not_before : (p q : List ℕ) → IsPrefix p → IsPrefix q → comes_before p q ≡ false → key q ≤ key p
from_not_before p q a b behind = by (cases_lt (key p) (key q))
  where
    by : (key p < key q) ⊎ (key q ≤ key p) → key q ≤ key p
    by (inl less) = absurd (false≢true (sym behind ∙ (keys_keep_order p q a b).1 less))
    by (inr least) = least

-- A front at or behind a bound is longer than what the number shares with it.
jump_is_shorter : (n : ℕ) (bound number : List ℕ) → IsPrefix bound → IsPrefix number → 1 ≤ n → n ≤ length number → key bound ≤ key (take n number)
    → shared_below bound number < n
jump_is_shorter n [] number b is some few least = absurd (omega (arith, b.some))
jump_is_shorter n (d ∷ bound) number b is some few least =
    shared_less n d bound number few (not_before (take n number) (d ∷ bound) (front-is_prefix n number is some few) b least)

-- And no front between them stands before the bound.
fronts_behind : (m n : ℕ) (bound number : List ℕ) → IsPrefix bound → IsPrefix number → 1 ≤ n → n ≤ length number → key bound ≤ key (take n number)
    → shared_below bound number < m → m ≤ length number → key bound ≤ key (take m number)
fronts_behind m n [] number b is some few least past short = absurd (omega (arith, b.some))
fronts_behind m n (d ∷ bound) number b is some few least past short =
    from_not_before (take m number) (d ∷ bound) (front-is_prefix m number is (omega arith) short) b
    (shared_past m n d bound number short few (not_before (take n number) (d ∷ bound) (front-is_prefix n number is some few) b least) past)

-- ---- jumps

-- Fronts that have no rate leave the shorter ones.
fronts_skipped : (n c : ℕ) (number : List ℕ) (rows : List Row) → c ≤ n → ((m : ℕ) → c < m → m ≤ n → rate_at (key (take m number)) rows ≡ None)
    → first_front n number rows ≡ first_front c number rows
fronts_skipped zero c number rows le none = let same : 0 ≡ c = omega arith in ap (λ (k : ℕ). first_front k number rows) same
fronts_skipped (suc n) c number rows le none =
    by (λ less. fronts_skipped n c number rows (omega (arith, less)) (λ m past within. none m past (omega (arith, within)))) (cases_lt c (suc n))
  where
    by : (c < suc n → first_front n number rows ≡ first_front c number rows) → (c < suc n) ⊎ (suc n ≤ c) → first_front (suc n) number rows ≡ first_front c number rows
    by rest (inl less) =
        let back : suc n - 1 ≡ n = omega arith in
        front_missed (suc n) number rows (omega arith) (none (suc n) less (omega arith)) ∙ ap (λ (k : ℕ). first_front k number rows) back ∙ rest less
    by rest (inr past) = let same : suc n ≡ c = omega arith in ap (λ (k : ℕ). first_front k number rows) same

-- No row lies at or before a front: none is found.
pub jump_to_none : (n : ℕ) (number : List ℕ) (rows : List Row) → IsPrefix number → n ≤ length number → NoneWithin 0 (key (take n number)) rows
    → first_front n number rows ≡ None
jump_to_none n number rows is few none =
    fronts_skipped n 0 number rows (omega arith) (λ m past within. none (key (take m number)) (omega arith) (front_keys_le m n number is past within few))

-- A jump from a front to a shorter one, which finds the same row.
pub record Jumps (n c : ℕ) (number : List ℕ) (rows : List Row) : Type 0 where
  pub shorter : c < n
  pub same : first_front n number rows ≡ first_front c number rows

-- No row lies from a bound on to a front: the search goes on from what the number shares with the bound.
pub jump_from_low : (n : ℕ) (low number : List ℕ) (rows : List Row) → IsPrefix number → 1 ≤ n → n ≤ length number → IsLowest rows (key (take n number)) low
    → Jumps n (shared_below low number) number rows
jump_from_low n low number rows is some few lowest =
    let less : shared_below low number < n = jump_is_shorter n low number lowest.prefix is some few lowest.within in
    record {
      shorter = less;
      same = fronts_skipped n (shared_below low number) number rows (omega arith)
          (λ m past within. lowest.none (key (take m number)) (fronts_behind m n low number lowest.prefix is some few lowest.within past (omega arith)) (front_keys_le m n number is (omega arith) within few));
    }

front_begins : (m : ℕ) (prefix number : List ℕ) → m ≤ length number → prefix ≡ take m number → begins prefix number ≡ true
front_begins m prefix number short same =
    let long : length prefix ≡ m = ap length same ∙ length-take-le m number short in
    (begins-take prefix number).1 (rw long same)

-- The last row at or before a front doesn't begin the number: the same.
pub jump_from_row : (n : ℕ) (row : Row) (number : List ℕ) (rows : List Row) → IsPrefix number → 1 ≤ n → n ≤ length number → IsLast rows (key (take n number)) row
    → begins row.prefix number ≡ false → Jumps n (shared_below row.prefix number) number rows
jump_from_row n row number rows is some few last not =
    let less : shared_below row.prefix number < n = jump_is_shorter n row.prefix number last.prefix is some few last.within in
    record {
      shorter = less;
      same = fronts_skipped n (shared_below row.prefix number) number rows (omega arith)
          (λ m past within.
          let least : row_key row ≤ key (take m number) = fronts_behind m n row.prefix number last.prefix is some few last.within past (omega arith) in
          let apart : row_key row ≡ key (take m number) → ⊥ =
          (λ same. let front = keys_are_distinct row.prefix (take m number) last.prefix (front-is_prefix m number is (omega arith) (omega arith)) same in
          absurd (false≢true (sym not ∙ front_begins m row.prefix number (omega arith) front))) in
          last.later (key (take m number)) (omega arith) (front_keys_le m n number is (omega arith) within few));
    }

-- It begins the number: it is found.
pub jump_to_row : (n : ℕ) (row : Row) (number : List ℕ) (rows : List Row) → IsPrefix number → 1 ≤ n → n ≤ length number → IsLast rows (key (take n number)) row
    → begins row.prefix number ≡ true → Some row ≡ first_front n number rows
jump_to_row n row number rows is some few last begun = by (cases_lt n (length row.prefix))
  where
    front : row.prefix ≡ take (length row.prefix) number
    front = (begins-take row.prefix number).0 begun

    by : (n < length row.prefix) ⊎ (length row.prefix ≤ n) → Some row ≡ first_front n number rows
    by (inl past) =
        let short : length row.prefix ≤ length number = omega (arith, ap length front, length-take (length row.prefix) number) in
        let rise = front_keys_rise n (length row.prefix) number is some past short in
        absurd (omega (arith, rise, ap key front, last.within))
    by (inr within) =
        let rated : rate_at (key (take (length row.prefix) number)) rows ≡ Some row.rate = ap (λ (p : List ℕ). rate_at (key p) rows) (sym front) ∙ last.rated in
        let found = front_found (length row.prefix) row.rate number rows (omega (arith, last.prefix.some)) rated in
        let own : Some row ≡ Some (record { prefix = take (length row.prefix) number; rate = row.rate }) = ap (λ (p : List ℕ). Some (record { prefix = p; rate = row.rate })) front in
        own ∙ found
        ∙ sym (fronts_skipped n (length row.prefix) number rows within
        (λ m past short. last.later (key (take m number))
        (let rise = front_keys_rise (length row.prefix) m number is last.prefix.some past (omega arith) in omega (arith, rise, ap key front)) (front_keys_le m n number is (omega arith) short few)))
