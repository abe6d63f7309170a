-- Of a list spread over leaves the items that pass a test stay in their order, where their keys never fall: so do the parts of
-- one call, which go by rising keys.
use Rattle.std.proofs.Common.{◌≡◌, ℕ, ◌≤◌, Bool, true, false, cond, ltb, leb, List, [], ◌∷◌, ◌++◌, refl, sym, ap, ◌∙◌, subst, arith, inl, inr}
use Rattle.std.specs.List.{filter, AllByRecursion}
use Rattle.std.proofs.lemmas.Bool.{cases_lt, lt-ltb, le-ltb, lt-leb, le-leb}
use Rattle.std.proofs.lemmas.List.Elements.{filter-append}
use Rattle.palm_base.proofs.Every.{every_filter}
use Rattle.palm_route.proofs.Routings.{filter_twice}
use Rattle.palm_leaf.specs.Spread.{spread}

-- The keys never fall. So 3, 3, 5 don't, and 5, 3 do.
abbrev pub NeverFall : {X : Type 0} → (X → ℕ) → List X → Type 0
NeverFall k [] = Unit {0}
NeverFall k (x ∷ xs) = AllByRecursion (λ later. k x ≤ k later) xs × NeverFall k xs

fall_filter : {X : Type 0} (k : X → ℕ) (p : X → Bool) (xs : List X) → NeverFall k xs → NeverFall k (filter p xs)
fall_filter k p [] never = tt
fall_filter {X} k p (x ∷ xs) never = by (p x) (fall_filter k p xs never.1)
  where
    by : (b : Bool) → NeverFall k (filter p xs) → NeverFall k (cond b (x ∷ filter p xs) (filter p xs))
    by true rest = (every_filter (λ later. k x ≤ k later) (λ later. k x ≤ k later) p (λ later above passes. above) xs never.0, rest)
    by false rest = rest

-- From a low on nothing is below it, and all is there.
all_from : {X : Type 0} (k : X → ℕ) (low : ℕ) (xs : List X) → AllByRecursion (λ x. low ≤ k x) xs → filter (λ x. ltb (k x) low) xs ++ filter (λ x. leb low (k x)) xs ≡ xs
all_from k low [] from = refl
all_from {X} k low (x ∷ xs) from = rw (le-ltb (k x) low from.0, le-leb low (k x) from.0, none xs from.1) (ap (λ (l : List X). x ∷ l) (ap (λ l. l ++ filter (λ x. leb low (k x)) xs) (sym (none xs from.1)) ∙ all_from k low xs from.1))
  where
    none : (xs : List X) → AllByRecursion (λ x. low ≤ k x) xs → filter (λ x. ltb (k x) low) xs ≡ []
    none [] from = refl
    none (x ∷ xs) from = rw (le-ltb (k x) low from.0) (none xs from.1)

all_past : {X : Type 0} (k : X → ℕ) (low high : ℕ) (xs : List X) → low ≤ high → AllByRecursion (λ x. high ≤ k x) xs → AllByRecursion (λ x. low ≤ k x) xs
all_past k low high [] h all = tt
all_past k low high (x ∷ xs) h all = ((let a = all.0 in omega arith), all_past k low high xs h all.1)

-- Keys that never fall are those below a low and then those from it on.
parted : {X : Type 0} (k : X → ℕ) (low : ℕ) (xs : List X) → NeverFall k xs → filter (λ x. ltb (k x) low) xs ++ filter (λ x. leb low (k x)) xs ≡ xs
parted k low [] never = refl
parted {X} k low (x ∷ xs) never = elim (cases_lt (k x) low) [
  | inl less ↦ rw (lt-ltb (k x) low less, lt-leb low (k x) less) (ap (λ (l : List X). x ∷ l) (parted k low xs never.1))
  | inr least ↦ all_from k low (x ∷ xs) (least, all_past k low (k x) xs least never.0)
]

pub filter_spread : {X : Type 0} (p : X → Bool) (k : X → ℕ) (lows : List ℕ) (xs : List X) → NeverFall k (filter p xs) → filter p (spread k lows xs) ≡ filter p xs
filter_spread p k [] xs never = refl
filter_spread p k (low ∷ lows) xs never =
    filter-append p (filter (λ x. ltb (k x) low) xs) (spread k lows (filter (λ x. leb low (k x)) xs))
    ∙ ap (λ l. filter p (filter (λ x. ltb (k x) low) xs) ++ l)
    (filter_spread p k lows (filter (λ x. leb low (k x)) xs) (subst (NeverFall k) (filter_twice (λ x. leb low (k x)) p xs) (fall_filter k (λ x. leb low (k x)) (filter p xs) never)))
    ∙ ap (λ l. l ++ filter p (filter (λ x. leb low (k x)) xs)) (filter_twice p (λ x. ltb (k x) low) xs)
    ∙ ap (λ l. filter (λ x. ltb (k x) low) (filter p xs) ++ l) (filter_twice p (λ x. leb low (k x)) xs)
    ∙ parted k low (filter p xs) never
