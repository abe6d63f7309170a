-- What a map reads as, with the ids of its nodes: the tree is owned where no id is met twice and each live id is met.
use Rattle.std.proofs.Common.{◌≡◌, ◌≢◌, ℕ, zero, suc, true, false, List, [], ◌∷◌, ◌++◌, map, drop, Option, Some, None, IsSome, refl, sym, ap, subst, ◌∙◌, arith, ◌⊎◌, inl, inr}
use Rattle.std.specs.List.{flat_map, AllByRecursion, Contains, IsDistinct}
use Rattle.std.proofs.lemmas.Bool.{eq-eqb}
use Rattle.std.proofs.lemmas.Bool.Decides.{eqb_tells}
use mathlib.Core.List.{map-append}
use Rattle.palm_base.specs.Tree.{Subtree}
use Rattle.palm_base.specs.declared.row.Row.{Row}
use Rattle.palm_base.proofs.Every.{every_append}
use Rattle.palm_node.specs.InnerNode.{InnerNode}
use Rattle.palm_node.specs.declared.id.NodeId.{NodeId}
use Rattle.palm_node.specs.declared.node.Node.{Node}
use Rattle.palm_node.specs.declared.node.Node.TheVariants.{Leaf, Inner}
use Rattle.palm_arena.specs.Reads.{same_place, with_child, children_at, leaf_in, inner_in, children_in, reads, child_ids, ids_under}
use Rattle.palm_arena.specs.Cells.{Cell, Nothing, both, found, found_if, found_at, Owns}
use Rattle.palm_arena.specs.Placed.{Body, Placed, value_in, values, cells_of, cells_under, node_of, ids_of_children}
use Rattle.palm_arena.specs.Routes.{separators_of}
use Rattle.palm_arena.proofs.Keeping.{same_id}

-- ---- the ids of a tree that reads

-- Each cell stands in the map.
abbrev pub Holds : (NodeId → Option Node) → List Cell → Type 0
Holds nodes cells = AllByRecursion (λ cell. nodes cell.0 ≡ Some cell.1) cells

-- The ids of cells.
abbrev pub ids_in : List Cell → List NodeId
ids_in cells = map (λ cell. cell.0) cells

-- A node that reads, with its ids.
pub record PlacedAt (nodes : NodeId → Option Node) (n : ℕ) (id : NodeId) (value : Subtree n) : Type 0 where
  pub body : Body n
  pub value-is : value_in n body ≡ value
  pub held : Holds nodes (cells_of n (id, body))
  pub ids : ids_in (cells_of n (id, body)) ≡ ids_under nodes n id

-- Children that read, with their ids.
record ChildrenAt (nodes : NodeId → Option Node) (n : ℕ) (lows : List ℕ) (ids : List NodeId) (children : List (ℕ × Subtree n)) : Type 0 where
  bodies : List (ℕ × Placed n)
  values-are : values n bodies ≡ children
  lows-are : map (λ child. child.0) bodies ≡ lows
  ids-are : ids_of_children bodies ≡ ids
  held : Holds nodes (cells_under n bodies)
  under : ids_in (cells_under n bodies) ≡ flat_map (ids_under nodes n) ids

-- Children that read: the first does, and so do the others.
pub first_child : {T : Type 0} (low : ℕ) (first : Option T) (rest : Option (List (ℕ × T))) (children : List (ℕ × T)) → with_child low first rest ≡ Some children
    → (child : T) × (later : List (ℕ × T)) × (first ≡ Some child) × (rest ≡ Some later) × (children ≡ (low, child) ∷ later)
first_child low None rest children e = absurd cc
first_child low (Some child) None children e = absurd cc
first_child low (Some child) (Some later) children e = (child, later, refl, refl, cc)

children_placed : (nodes : NodeId → Option Node) (n : ℕ) → ((id : NodeId) (value : Subtree n) → reads nodes n id ≡ Some value → PlacedAt nodes n id value)
    → (lows : List ℕ) (ids : List NodeId) (children : List (ℕ × Subtree n)) → children_at (reads nodes n) lows ids ≡ Some children → ChildrenAt nodes n lows ids children
children_placed nodes n ih [] [] [] e = record { bodies = []; values-are = refl; lows-are = refl; ids-are = refl; held = tt; under = refl }
children_placed nodes n ih [] [] (child ∷ children) e = absurd cc
children_placed nodes n ih (low ∷ lows) [] children e = absurd cc
children_placed nodes n ih [] (id ∷ ids) children e = absurd cc
children_placed nodes n ih (low ∷ lows) (id ∷ ids) children e =
    let split = first_child low (reads nodes n id) (children_at (reads nodes n) lows ids) children e in
    let first = ih id split.0 split.2 in
    let rest = children_placed nodes n ih lows ids split.1 split.3 in
    record {
      bodies = (low, (id, first.body)) ∷ rest.bodies;
      values-are = ap (λ (v : Subtree n). (low, v) ∷ values n rest.bodies) first.value-is ∙ ap (λ (vs : List (ℕ × Subtree n)). (low, split.0) ∷ vs) rest.values-are ∙ sym split.4;
      lows-are = ap (λ ls. low ∷ ls) rest.lows-are;
      ids-are = ap (λ is. id ∷ is) rest.ids-are;
      held = every_append (λ cell. nodes cell.0 ≡ Some cell.1) (cells_of n (id, first.body)) (cells_under n rest.bodies) first.held rest.held;
      under = map-append (λ (cell : Cell). cell.0) (cells_of n (id, first.body)) (cells_under n rest.bodies) ∙ ap (λ is. is ++ ids_in (cells_under n rest.bodies)) first.ids ∙ ap (λ is. ids_under nodes n id ++ is) rest.under;
    }

-- What stands at an id that reads as an inner node.
read_inner : (at : Option Node) {T : Type 0} (read : NodeId → Option T) (children : List (ℕ × T)) → children_in read (inner_in at) ≡ Some children
    → (inner : InnerNode) × (at ≡ Some (Inner inner)) × (children_at read (0 ∷ inner.separators) inner.children ≡ Some children)
read_inner None read children e = absurd cc
read_inner (Some (Leaf rows)) read children e = absurd cc
read_inner (Some (Inner inner)) read children e = (inner, refl, e)

read_leaf : (at : Option Node) (rows : List Row) → leaf_in at ≡ Some rows → at ≡ Some (Leaf rows)
read_leaf None rows e = absurd cc
read_leaf (Some (Leaf own)) rows e = ap (λ (r : List Row). Some (Leaf r)) cc
read_leaf (Some (Inner inner)) rows e = absurd cc

later_lows : {X : Type 0} (children : List (ℕ × X)) → separators_of children ≡ drop 1 (map (λ child. child.0) children)
later_lows [] = refl
later_lows (child ∷ children) = refl

pub placed_at : (nodes : NodeId → Option Node) (n : ℕ) (id : NodeId) (value : Subtree n) → reads nodes n id ≡ Some value → PlacedAt nodes n id value
placed_at nodes zero id rows e = record { body = rows; value-is = refl; held = (read_leaf (nodes id) rows e, tt); ids = refl }
placed_at nodes (suc n) id children e =
    let here = read_inner (nodes id) (reads nodes n) children e in
    let inner = here.0 in
    let below = children_placed nodes n (placed_at nodes n) (0 ∷ inner.separators) inner.children children here.2 in
    let node : node_of (suc n) below.bodies ≡ Inner inner =
    ap (λ (ids : List NodeId). Inner (record { children = ids; separators = separators_of below.bodies })) below.ids-are
    ∙ ap (λ (lows : List ℕ). Inner (record { children = inner.children; separators = lows })) (later_lows below.bodies ∙ ap (drop 1) below.lows-are) in
    record {
      body = below.bodies;
      value-is = below.values-are;
      held = (here.1 ∙ ap Some (sym node), below.held);
      ids = ap (λ is. id ∷ is) (below.under ∙ ap (λ (at : Option Node). flat_map (ids_under nodes n) (child_ids (inner_in at))) (sym here.1));
    }

-- ---- cells of distinct ids

pub apart_turned : (id other : NodeId) → same_place id other ≡ false → same_place other id ≡ false
apart_turned id other apart = elim (eqb_tells other.place id.place) [
  | inl same ↦ absurd (let t = eq-eqb id.place other.place (sym same.1) in cc)
  | inr other ↦ other.0
]

none_at : (id : NodeId) (cells : List Cell) → AllByRecursion (λ other. same_place id other ≡ false) (ids_in cells) → found_at id cells ≡ Nothing
none_at id [] apart = refl
none_at id (cell ∷ cells) apart = rw (apart_turned id cell.0 apart.0) (none_at id cells apart.1)

-- An id isn't among those of cells, and nothing is found there, or its node is.
found_or_not : (nodes : NodeId → Option Node) (cells : List Cell) (id : NodeId) → Holds nodes cells → IsDistinct same_place (ids_in cells)
    → ((found_at id cells ≡ Nothing) × AllByRecursion (λ cell. same_place cell.0 id ≡ false) cells) ⊎ (found_at id cells ≡ found (nodes id))
unfolding IsDistinct
found_or_not nodes [] id held distinct = inl (refl, tt)
found_or_not nodes (cell ∷ cells) id held distinct = by (eqb_tells cell.0.place id.place) (found_or_not nodes cells id held.1 distinct.1)
  where
    by : ((same_place cell.0 id ≡ true) × (cell.0.place ≡ id.place)) ⊎ ((same_place cell.0 id ≡ false) × (cell.0.place ≢ id.place))
        → ((found_at id cells ≡ Nothing) × AllByRecursion (λ cell. same_place cell.0 id ≡ false) cells) ⊎ (found_at id cells ≡ found (nodes id))
        → ((both (found_if (same_place cell.0 id) cell.1) (found_at id cells) ≡ Nothing) × ((same_place cell.0 id ≡ false) × AllByRecursion (λ cell. same_place cell.0 id ≡ false) cells)) ⊎ (both (found_if (same_place cell.0 id) cell.1) (found_at id cells) ≡ found (nodes id))
    by (inl same) rest =
        let own = same_id cell.0 id same.1 in
        let none : found_at id cells ≡ Nothing = subst (λ k. found_at k cells ≡ Nothing) own (none_at cell.0 cells distinct.0) in
        inr (rw (same.0, none) (ap found (sym (sym (ap nodes own) ∙ held.0))))
    by (inr apart) (inl rest) = inl (rw apart.0 rest.0, (apart.0, rest.1))
    by (inr apart) (inr rest) = inr (rw apart.0 rest)

not_contained : (cells : List Cell) (id : NodeId) → AllByRecursion (λ cell. same_place cell.0 id ≡ false) cells → Contains (ids_in cells) id → ⊥
not_contained [] id apart (i, inside, at) = absurd (omega arith)
not_contained (cell ∷ cells) id apart (zero, inside, at) = let t = eq-eqb cell.0.place id.place (ap (λ (k : NodeId). k.place) at) in let f = apart.0 in absurd cc
not_contained (cell ∷ cells) id apart (suc i, inside, at) = not_contained cells id apart.1 (i, omega arith, at)

-- Cells that the map has, of distinct ids, among which each live id is, are owned.
pub distinct_owned : (nodes : NodeId → Option Node) (cells : List Cell) → Holds nodes cells → IsDistinct same_place (ids_in cells) → ((id : NodeId) → IsSome (nodes id) → Contains (ids_in cells) id) → Owns nodes cells
distinct_owned nodes cells held distinct met id = elim (found_or_not nodes cells id held distinct) [
  | inl none ↦ by (nodes id) refl none
  | inr is ↦ is
]
  where
    by : (at : Option Node) → nodes id ≡ at → (found_at id cells ≡ Nothing) × AllByRecursion (λ cell. same_place cell.0 id ≡ false) cells → found_at id cells ≡ found at
    by None e none = none.0
    by (Some node) e none = absurd (not_contained cells id none.1 (met id (subst IsSome (sym e) refl)))
