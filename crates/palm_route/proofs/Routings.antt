-- Parts that are routed to leaves whose lows rise: those left of the second leaf are at the first.
use Rattle.std.proofs.Common.{◌≡◌, ℕ, ◌<◌, ◌≤◌, Bool, true, false, ltb, leb, eqb, cond, List, [], ◌∷◌, map, filter, Some, refl, sym, ap, subst, arith, ◌∙◌, ◌⊎◌, inl, inr}
use Rattle.std.specs.List.{AllByRecursion}
use Rattle.std.proofs.lemmas.Bool.{cases_lt, lt-ltb, le-ltb, lt-leb, le-leb, eq-eqb, ne_eqb, leb-true}
use Rattle.std.proofs.lemmas.Option.{same_Some}
use Rattle.palm_arena.specs.Leaves.{LeafPlace, leaf_for}
use Rattle.palm_base.proofs.Every.{every_filter}
use Rattle.palm_route.specs.declared.part.Routed.{Routed}
use Rattle.palm_route.specs.Groups.{place_of, IsRoutedTo, LowsRise}

-- The leaf that a key goes to begins above what all leaves begin above.
low_above : (k l : ℕ) (places : List LeafPlace) (place : LeafPlace) → leaf_for k places ≡ Some place → AllByRecursion (λ (other : LeafPlace). l < other.low) places → l < place.low
low_above k l [] place is above = absurd cc
low_above k l (first ∷ []) place is above = subst (λ (p : LeafPlace). l < p.low) (same_Some first place is) above.0
low_above k l (first ∷ next ∷ places) place is above = by (leb next.low k) (λ e. low_above k l (next ∷ places) place e above.1) is
  where
    by : (b : Bool) → (leaf_for k (next ∷ places) ≡ Some place → l < place.low) → cond b (leaf_for k (next ∷ places)) (Some first) ≡ Some place → l < place.low
    by true later e = later e
    by false later e = subst (λ (p : LeafPlace). l < p.low) (same_Some first place e) above.0

-- Where a part stands beside the second leaf's low.
pub at_first : (first next : LeafPlace) (places : List LeafPlace) (routed : Routed) → IsRoutedTo (first ∷ next ∷ places) routed → routed.part.key < next.low → first ≡ place_of routed
at_first first next places routed is less = same_Some first (place_of routed) (by (lt-leb next.low routed.part.key less) is)
  where
    by : leb next.low routed.part.key ≡ false → cond (leb next.low routed.part.key) (leaf_for routed.part.key (next ∷ places)) (Some first) ≡ Some (place_of routed) → Some first ≡ Some (place_of routed)
    by e is = (rw e at is)

pub at_later : (first next : LeafPlace) (places : List LeafPlace) (routed : Routed) → IsRoutedTo (first ∷ next ∷ places) routed → next.low ≤ routed.part.key → IsRoutedTo (next ∷ places) routed
at_later first next places routed is least = by (le-leb next.low routed.part.key least) is
  where
    by : leb next.low routed.part.key ≡ true → cond (leb next.low routed.part.key) (leaf_for routed.part.key (next ∷ places)) (Some first) ≡ Some (place_of routed) → IsRoutedTo (next ∷ places) routed
    by e is = (rw e at is)

pub above_first : (first next : LeafPlace) (places : List LeafPlace) (routed : Routed) → LowsRise (first ∷ next ∷ places) → IsRoutedTo (first ∷ next ∷ places) routed → next.low ≤ routed.part.key → first.low < routed.low
above_first first next places routed up is least = low_above routed.part.key first.low (next ∷ places) (place_of routed) (at_later first next places routed is least) up.0

-- ---- the two sides as tests

-- Left of the second leaf's low are the parts at the first leaf.
pub left_test : (first next : LeafPlace) (places : List LeafPlace) → LowsRise (first ∷ next ∷ places) → (routed : Routed) → IsRoutedTo (first ∷ next ∷ places) routed
    → ltb routed.part.key next.low ≡ eqb routed.low first.low
left_test first next places up routed is = by (cases_lt routed.part.key next.low)
  where
    by : (routed.part.key < next.low) ⊎ (next.low ≤ routed.part.key) → ltb routed.part.key next.low ≡ eqb routed.low first.low
    by (inl less) =
        let same : routed.low ≡ first.low = sym (ap (λ (p : LeafPlace). p.low) (at_first first next places routed is less)) in
        lt-ltb routed.part.key next.low less ∙ sym (eq-eqb routed.low first.low same)
    by (inr least) =
        let above = above_first first next places routed up is least in
        le-ltb routed.part.key next.low least ∙ sym (ne_eqb routed.low first.low (λ e. omega (arith, e, above)))

pub all_later : (first next : LeafPlace) (places : List LeafPlace) (parts : List Routed) → AllByRecursion (IsRoutedTo (first ∷ next ∷ places)) parts
    → AllByRecursion (IsRoutedTo (next ∷ places)) (filter (λ (routed : Routed). leb next.low routed.part.key) parts)
all_later first next places parts all =
    every_filter (IsRoutedTo (first ∷ next ∷ places)) (IsRoutedTo (next ∷ places)) (λ (routed : Routed). leb next.low routed.part.key)
    (λ routed is passes. at_later first next places routed is (leb-true next.low routed.part.key passes)) parts all

-- ---- filters

pub filter_on : {X : Type 0} (p q : X → Bool) (xs : List X) → AllByRecursion (λ x. p x ≡ q x) xs → filter p xs ≡ filter q xs
filter_on p q [] same = refl
filter_on p q (x ∷ xs) same = by (p x) (q x) same.0 (filter_on p q xs same.1)
  where
    by : (a b : Bool) → a ≡ b → filter p xs ≡ filter q xs → cond a (x ∷ filter p xs) (filter p xs) ≡ cond b (x ∷ filter q xs) (filter q xs)
    by true true e rest = ap (λ (l : List _). x ∷ l) rest
    by true false e rest = absurd cc
    by false true e rest = absurd cc
    by false false e rest = rest

pub filter_map : {X Y : Type 0} (f : X → Y) (p : Y → Bool) (xs : List X) → filter p (map f xs) ≡ map f (filter (λ x. p (f x)) xs)
filter_map f p [] = refl
filter_map f p (x ∷ xs) = by (p (f x)) (filter_map f p xs)
  where
    by : (b : Bool) → filter p (map f xs) ≡ map f (filter (λ x. p (f x)) xs) → cond b (f x ∷ filter p (map f xs)) (filter p (map f xs)) ≡ map f (cond b (x ∷ filter (λ x. p (f x)) xs) (filter (λ x. p (f x)) xs))
    by true rest = ap (λ (l : List _). f x ∷ l) rest
    by false rest = rest

-- Two filters may be exchanged.
pub filter_twice : {X : Type 0} (p q : X → Bool) (xs : List X) → filter p (filter q xs) ≡ filter q (filter p xs)
filter_twice p q [] = refl
filter_twice p q (x ∷ xs) = by (p x) refl (q x) refl (filter_twice p q xs)
  where
    by : (a : Bool) → p x ≡ a → (b : Bool) → q x ≡ b → filter p (filter q xs) ≡ filter q (filter p xs)
        → filter p (cond b (x ∷ filter q xs) (filter q xs)) ≡ filter q (cond a (x ∷ filter p xs) (filter p xs))
    by true e true f rest = rw (e, f) (ap (λ (l : List _). x ∷ l) rest)
    by true e false f rest = rw f rest
    by false e true f rest = rw e rest
    by false e false f rest = rest

pub filter_all : {X : Type 0} (p : X → Bool) (xs : List X) → AllByRecursion (λ x. p x ≡ true) xs → filter p xs ≡ xs
filter_all p [] all = refl
filter_all p (x ∷ xs) all = rw all.0 (ap (λ (l : List _). x ∷ l) (filter_all p xs all.1))

pub filter_none : {X : Type 0} (p : X → Bool) (xs : List X) → AllByRecursion (λ x. p x ≡ false) xs → filter p xs ≡ []
filter_none p [] all = refl
filter_none p (x ∷ xs) all = rw all.0 (filter_none p xs all.1)
