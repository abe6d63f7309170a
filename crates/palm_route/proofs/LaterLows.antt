-- The lows of leaves that lie above one key and not above another: child by child of an inner node.
use Rattle.std.proofs.Common.{◌≡◌, ℕ, zero, suc, ◌+◌, ◌<◌, ◌≤◌, ltb, List, [], ◌∷◌, ◌++◌, length, map, get_or, drop, filter, Option, refl, sym, ap, arith, ◌∙◌, ◌⊎◌, inl, inr}
use Rattle.std.specs.List.{AllByRecursion}
use Rattle.std.proofs.Math.Bool.{and-false}
use Rattle.std.proofs.lemmas.Bool.{cases_lt, le-ltb, lt-leb}
use Rattle.std.proofs.lemmas.List.{map-append}
use Rattle.std.proofs.lemmas.List.Elements.{filter-append}
use Rattle.palm_base.specs.Tree.{Subtree}
use Rattle.palm_base.specs.Lawful.{InOrder}
use Rattle.palm_node.specs.declared.id.NodeId.{NodeId}
use Rattle.palm_node.specs.declared.node.Node.{Node}
use Rattle.palm_arena.specs.Leaves.{LeafPlace, leaves_of_children, leaves_under}
use Rattle.palm_arena.specs.Reads.{reads}
use Rattle.palm_arena.specs.Routes.{route_of}
use Rattle.palm_arena.proofs.RouteSteps.{route_past, route_none}
use Rattle.palm_route.specs.Parts.{lows_of, is_later}
use Rattle.palm_route.specs.Ranges.{HasRange}
use Rattle.palm_route.proofs.Ascents.{Ascends, each_within}
use Rattle.palm_route.proofs.LeavesUnder.{AreRead, sound_range, all_ascend, children_ascend}

-- Of these leaves, the lows that are later.
abbrev pub later_lows : ℕ → ℕ → List LeafPlace → List ℕ
later_lows from to places = filter (is_later from to) (lows_of places)

pub later_append : (from to : ℕ) (left right : List LeafPlace) → later_lows from to (left ++ right) ≡ later_lows from to left ++ later_lows from to right
later_append from to left right =
    ap (filter (is_later from to)) (map-append (λ (place : LeafPlace). place.low) left right) ∙ filter-append (is_later from to) (lows_of left) (lows_of right)

none_when : (from to : ℕ) (places : List LeafPlace) → AllByRecursion (λ (place : LeafPlace). (place.low ≤ from) ⊎ (to < place.low)) places → later_lows from to places ≡ []
none_when from to [] all = refl
none_when from to (place ∷ places) all = by all.0 (none_when from to places all.1)
  where
    by : (place.low ≤ from) ⊎ (to < place.low) → later_lows from to places ≡ [] → later_lows from to (place ∷ places) ≡ []
    by (inl least) rest = rw (le-ltb from place.low least) rest
    by (inr past) rest = rw (lt-leb place.low to past, and-false (ltb from place.low)) rest

within_when : (from to low high : ℕ) (places : List LeafPlace) → (high ≤ from) ⊎ (to < low) → AllByRecursion (λ (place : LeafPlace). (low ≤ place.low) × (place.low < high)) places
    → AllByRecursion (λ (place : LeafPlace). (place.low ≤ from) ⊎ (to < place.low)) places
within_when from to low high [] outside all = tt
within_when from to low high (place ∷ places) outside all = (by outside, within_when from to low high places outside all.1)
  where
    by : (high ≤ from) ⊎ (to < low) → (place.low ≤ from) ⊎ (to < place.low)
    by (inl left) = inl (omega (arith, left, all.0.1))
    by (inr right) = inr (omega (arith, right, all.0.0))

-- Leaves of a range that ends at or below the first key, or begins above the last, have none.
pub none_outside : (from to low high : ℕ) (places : List LeafPlace) → Ascends low high places → (high ≤ from) ⊎ (to < low) → later_lows from to places ≡ []
none_outside from to low high places up outside =
    none_when from to places (within_when from to low high places outside (each_within low high places up low (omega arith)))

-- ---- the leaves under children

module _ (nodes : NodeId → Option Node) (n : ℕ) (path : List (NodeId × ℕ)) (id : NodeId) (from to : ℕ) where
  -- Those under the children from one place on.
  abbrev pub later_from : ℕ → List ℕ → List NodeId → List ℕ
  later_from i lows ids = later_lows from to (leaves_of_children (leaves_under nodes n) path id i (drop i lows) (drop i ids))

  abbrev later_at : ℕ → List ℕ → List NodeId → List ℕ
  later_at p lows ids = later_lows from to (leaves_of_children (leaves_under nodes n) path id p lows ids)

  -- Left of the child where the keys begin is none.
  pub begins : (p low high : ℕ) (ids : List NodeId) (child : ℕ × Subtree n) (children : List (ℕ × Subtree n)) → AreRead (reads nodes n) ids (child ∷ children) → InOrder n low high (child ∷ children)
      → (j : ℕ) → j ≡ route_of from (map (λ c. c.0) children) → (q : ℕ) → q ≡ p + j
      → later_at p (low ∷ map (λ c. c.0) children) ids ≡ later_at q (drop j (low ∷ map (λ c. c.0) children)) (drop j ids)
  begins p low high ids child [] read order j at q is = rw (at, is) (ap (λ m. later_at m (low ∷ []) ids) (omega arith))
  begins p low high [] child (next ∷ children) read order j at q is = absurd read
  begins p low high (own ∷ ids) child (next ∷ children) read order j at q is =
      by (cases_lt from next.0) (begins (suc p) next.0 high ids next children read.1 order.1)
    where
      left : Ascends low next.0 (leaves_under nodes n (path ++ (id, p) ∷ []) low own)
      left = all_ascend nodes n (path ++ (id, p) ∷ []) low next.0 own child.1 read.0 (sound_range n low next.0 child.1 order.0.0 order.0.1)

      by : (from < next.0) ⊎ (next.0 ≤ from)
          → ((j' : ℕ) → j' ≡ route_of from (map (λ c. c.0) children) → (q' : ℕ) → q' ≡ suc p + j'
          → later_at (suc p) (next.0 ∷ map (λ c. c.0) children) ids ≡ later_at q' (drop j' (next.0 ∷ map (λ c. c.0) children)) (drop j' ids))
          → later_at p (low ∷ next.0 ∷ map (λ c. c.0) children) (own ∷ ids) ≡ later_at q (drop j (low ∷ next.0 ∷ map (λ c. c.0) children)) (drop j (own ∷ ids))
      by (inl less) rest =
          let none : j ≡ 0 = at ∙ route_none n from high next children less order.1 in
          let same : q ≡ p = omega (arith, is, none) in
          rw (none, same) refl
      by (inr least) rest =
          let more : j ≡ suc (route_of from (map (λ c. c.0) children)) = at ∙ route_past from next.0 (map (λ c. c.0) children) least in
          let same : q ≡ suc p + route_of from (map (λ c. c.0) children) = omega (arith, is, more) in
          let first = none_outside from to low next.0 (leaves_under nodes n (path ++ (id, p) ∷ []) low own) left (inl least) in
          later_append from to (leaves_under nodes n (path ++ (id, p) ∷ []) low own) (leaves_of_children (leaves_under nodes n) path id (suc p) (next.0 ∷ map (λ c. c.0) children) ids)
          ∙ ap (λ (l : List ℕ). l ++ later_at (suc p) (next.0 ∷ map (λ c. c.0) children) ids) first
          ∙ rest (route_of from (map (λ c. c.0) children)) refl q same
          ∙ ap (λ i. later_at q (drop i (low ∷ next.0 ∷ map (λ c. c.0) children)) (drop i (own ∷ ids))) (sym more)

  -- Where the range begins above the last key is none, from any child on.
  none_behind : (q m low high : ℕ) (ids : List NodeId) (child : ℕ × Subtree n) (children : List (ℕ × Subtree n)) → AreRead (reads nodes n) ids (child ∷ children) → InOrder n low high (child ∷ children)
      → to < low → later_at q (drop m (low ∷ map (λ c. c.0) children)) (drop m ids) ≡ []
  none_behind q zero low high ids child children read order past =
      none_outside from to low high _ (children_ascend nodes n (all_ascend nodes n) path id q low high ids child children read order) (inr past)
  none_behind q (suc m) low high [] child children read order past = absurd read
  none_behind q (suc m) low high (own ∷ []) child [] read order past = by m
    where
      by : (i : ℕ) → later_at q (drop i []) (drop i []) ≡ []
      by zero = refl
      by (suc i) = refl
  none_behind q (suc m) low high (own ∷ other ∷ ids) child [] read order past = absurd read.1
  none_behind q (suc m) low high (own ∷ ids) child (next ∷ children) read order past =
      none_behind q m next.0 high ids next children read.1 order.1 (omega (arith, past, order.0.0))

  -- Right of the child where the keys end is none.
  pub ends : (q i low high : ℕ) (ids : List NodeId) (child : ℕ × Subtree n) (children : List (ℕ × Subtree n)) → AreRead (reads nodes n) ids (child ∷ children) → InOrder n low high (child ∷ children)
      → route_of to (map (λ c. c.0) children) < i → later_at q (drop i (low ∷ map (λ c. c.0) children)) (drop i ids) ≡ []
  ends q zero low high ids child children read order past = absurd (omega (arith, past))
  ends q (suc i) low high [] child children read order past = absurd read
  ends q (suc i) low high (own ∷ []) child [] read order past = by i
    where
      by : (m : ℕ) → later_at q (drop m []) (drop m []) ≡ []
      by zero = refl
      by (suc m) = refl
  ends q (suc i) low high (own ∷ other ∷ ids) child [] read order past = absurd read.1
  ends q (suc i) low high (own ∷ ids) child (next ∷ children) read order past =
      by (cases_lt to next.0) (ends q i next.0 high ids next children read.1 order.1)
    where
      by : (to < next.0) ⊎ (next.0 ≤ to) → (route_of to (map (λ c. c.0) children) < i → later_at q (drop i (next.0 ∷ map (λ c. c.0) children)) (drop i ids) ≡ [])
          → later_at q (drop i (next.0 ∷ map (λ c. c.0) children)) (drop i ids) ≡ []
      by (inl less) rest = none_behind q i next.0 high ids next children read.1 order.1 less
      by (inr least) rest = rest (omega (arith, past, route_past to next.0 (map (λ c. c.0) children) least))

-- ---- the nodes at the children

pub child_range : (nodes : NodeId → Option Node) (n low high : ℕ) (ids : List NodeId) (child : ℕ × Subtree n) (children : List (ℕ × Subtree n)) → AreRead (reads nodes n) ids (child ∷ children) → InOrder n low high (child ∷ children)
    → (i : ℕ) (d : NodeId) → i < length ids → HasRange nodes n (get_or (low ∷ map (λ c. c.0) children) i 0) (get_or ids i d)
child_range nodes n low high [] child children read order i d lt = absurd read
child_range nodes n low high (own ∷ []) child [] read order zero d lt = record { node = child.1; reads-as = read.0; high = high; range = sound_range n low high child.1 order.0.0 order.0.1 }
child_range nodes n low high (own ∷ []) child [] read order (suc i) d lt = absurd (omega (arith, lt))
child_range nodes n low high (own ∷ other ∷ ids) child [] read order i d lt = absurd read.1
child_range nodes n low high (own ∷ ids) child (next ∷ children) read order zero d lt = record { node = child.1; reads-as = read.0; high = next.0; range = sound_range n low next.0 child.1 order.0.0 order.0.1 }
child_range nodes n low high (own ∷ ids) child (next ∷ children) read order (suc i) d lt = child_range nodes n next.0 high ids next children read.1 order.1 i d (omega (arith, lt))
