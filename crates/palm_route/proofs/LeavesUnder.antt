-- The leaves under a node: their ranges begin one after another within the node's, and a key goes to one under the child that
-- the node routes it to.
use Rattle.std.proofs.Common.{◌≡◌, ℕ, zero, suc, ◌+◌, ◌<◌, ◌≤◌, List, [], ◌∷◌, ◌++◌, length, map, get_or, Option, Some, refl, ap, arith, ◌∙◌, ◌⊎◌, inl, inr}
use Rattle.std.proofs.lemmas.Bool.{cases_lt}
use Rattle.std.proofs.lemmas.List.{append-nil}
use Rattle.palm_base.specs.Tree.{Subtree}
use Rattle.palm_base.specs.Lawful.{Sound, InOrder}
use Rattle.palm_base.specs.declared.bounds.TheConstants.{MOST_CHILDREN}
use Rattle.palm_node.specs.InnerNode.{InnerNode}
use Rattle.palm_node.specs.declared.id.NodeId.{NodeId}
use Rattle.palm_node.specs.declared.node.Node.{Node}
use Rattle.palm_node.specs.declared.node.Node.TheVariants.{Inner}
use Rattle.palm_arena.specs.Leaves.{leaf_for, leaves_of_node, leaves_of_children, leaves_under}
use Rattle.palm_arena.specs.Reads.{inner_in, reads}
use Rattle.palm_arena.specs.Routes.{route_of}
use Rattle.palm_arena.proofs.Readings.{inner_reads}
use Rattle.palm_arena.proofs.RouteSteps.{route_past, route_none}
use Rattle.palm_route.specs.Ranges.{IsRange, HasRange}
use Rattle.palm_route.proofs.Ascents.{Ascends, join, goes_left, goes_right}

pub sound_range : (n low high : ℕ) (node : Subtree n) → low < high → Sound n low high node → IsRange n low high node
sound_range zero low high rows less sound = less
sound_range (suc n) low high children less sound = ((omega (arith, sound.0.0), sound.0.1), sound.2)

-- The children read at their ids, one by one.
abbrev pub AreRead : {X : Type 0} → (NodeId → Option X) → List NodeId → List (ℕ × X) → Type 0
AreRead at [] [] = Unit {0}
AreRead at [] (child ∷ children) = ⊥
AreRead at (id ∷ ids) [] = ⊥
AreRead at (id ∷ ids) (child ∷ children) = (at id ≡ Some child.1) × AreRead at ids children

pub are_read : {X : Type 0} (at : NodeId → Option X) (ids : List NodeId) (children : List (ℕ × X)) → length ids ≡ length children
    → ((i : ℕ) (id : NodeId) (child : ℕ × X) → i < length children → at (get_or ids i id) ≡ Some (get_or children i child).1) → AreRead at ids children
are_read at [] [] count each = tt
are_read at [] (child ∷ children) count each = absurd (omega (arith, count))
are_read at (id ∷ ids) [] count each = absurd (omega (arith, count))
are_read at (id ∷ ids) (child ∷ children) count each =
    (each 0 id child (omega arith), are_read at ids children (omega (arith, count)) (λ i d c lt. each (suc i) d c (omega (arith, lt))))

-- ---- what an inner node is

-- An inner node stands at the id, and its children, of which there is one, read there and are in order from `low` on.
pub record IsOver (nodes : NodeId → Option Node) (n low high : ℕ) (id : NodeId) (inner : InnerNode) : Type 0 where
  pub here : nodes id ≡ Some (Inner inner)
  pub first : ℕ × Subtree n
  pub later : List (ℕ × Subtree n)
  pub separators : inner.separators ≡ map (λ child. child.0) later
  pub read : AreRead (reads nodes n) inner.children (first ∷ later)
  pub order : InOrder n low high (first ∷ later)
  pub few : length inner.children ≤ MOST_CHILDREN

pub is_over : (nodes : NodeId → Option Node) (n low high : ℕ) (id : NodeId) (node : Subtree (suc n)) → reads nodes (suc n) id ≡ Some node
    → IsRange (suc n) low high node → (inner : InnerNode) × IsOver nodes n low high id inner
is_over nodes n low high id [] e range = absurd (omega (arith, range.0.0))
is_over nodes n low high id (first ∷ later) e range =
    let known = inner_reads nodes n id (first ∷ later) e in
    let over = known.2 in (
      known.0,
      record {
        here = known.1;
        first = first;
        later = later;
        separators = over.separators;
        read = are_read (reads nodes n) known.0.children (first ∷ later) over.count over.each;
        order = range.1;
        few = omega (arith, over.count, range.0.1);
      },
    )

pub leaves_are : (nodes : NodeId → Option Node) (n : ℕ) (path : List (NodeId × ℕ)) (low : ℕ) (id : NodeId) (inner : InnerNode) → nodes id ≡ Some (Inner inner)
    → leaves_under nodes (suc n) path low id ≡ leaves_of_children (leaves_under nodes n) path id 0 (low ∷ inner.separators) inner.children
leaves_are nodes n path low id inner here = ap (λ (at : Option Node). leaves_of_node (leaves_under nodes n) path low id (inner_in at)) here

-- ---- the leaves rise

-- The leaves under any node of this level ascend within its range.
abbrev AllAscend : (NodeId → Option Node) → ℕ → Type 0
AllAscend nodes n =
    (path : List (NodeId × ℕ)) (low high : ℕ) (id : NodeId) (node : Subtree n) → reads nodes n id ≡ Some node → IsRange n low high node
    → Ascends low high (leaves_under nodes n path low id)

pub children_ascend : (nodes : NodeId → Option Node) (n : ℕ) → AllAscend nodes n → (path : List (NodeId × ℕ)) (id : NodeId) (i low high : ℕ) (ids : List NodeId) (child : ℕ × Subtree n) (children : List (ℕ × Subtree n))
    → AreRead (reads nodes n) ids (child ∷ children) → InOrder n low high (child ∷ children)
    → Ascends low high (leaves_of_children (leaves_under nodes n) path id i (low ∷ map (λ c. c.0) children) ids)
children_ascend nodes n all path id i low high [] child children read order = absurd read
children_ascend nodes n all path id i low high (own ∷ []) child [] read order =
    rw (append-nil (leaves_under nodes n (path ++ (id, i) ∷ []) low own))
    (all (path ++ (id, i) ∷ []) low high own child.1 read.0 (sound_range n low high child.1 order.0.0 order.0.1))
children_ascend nodes n all path id i low high (own ∷ other ∷ ids) child [] read order = absurd read.1
children_ascend nodes n all path id i low high (own ∷ ids) child (next ∷ children) read order =
    join low next.0 high _ _ (all (path ++ (id, i) ∷ []) low next.0 own child.1 read.0 (sound_range n low next.0 child.1 order.0.0 order.0.1))
    (children_ascend nodes n all path id (suc i) next.0 high ids next children read.1 order.1)

pub all_ascend : (nodes : NodeId → Option Node) (n : ℕ) → AllAscend nodes n
all_ascend nodes zero path low high id rows e range = (refl, range)
all_ascend nodes (suc n) path low high id node e range =
    let known = is_over nodes n low high id node e range in
    let over = known.1 in
    rw (leaves_are nodes n path low id known.0 over.here, over.separators)
    (children_ascend nodes n (all_ascend nodes n) path id 0 low high known.0.children over.first over.later over.read over.order)

-- ---- one step down

-- The child at this place: a node with a range stands there, and the key's leaf is under it.
pub record Turns (nodes : NodeId → Option Node) (n k : ℕ) (path : List (NodeId × ℕ)) (id : NodeId) (i : ℕ) (lows : List ℕ) (ids : List NodeId) (j : ℕ) : Type 0 where
  pub range : (d : NodeId) → HasRange nodes n (get_or lows j 0) (get_or ids j d)
  pub same : (d : NodeId) (p : ℕ) → p ≡ i + j
      → leaf_for k (leaves_of_children (leaves_under nodes n) path id i lows ids) ≡ leaf_for k (leaves_under nodes n (path ++ (id, p) ∷ []) (get_or lows j 0) (get_or ids j d))

pub turns : (nodes : NodeId → Option Node) (n k : ℕ) (path : List (NodeId × ℕ)) (id : NodeId) (i low high : ℕ) (ids : List NodeId) (child : ℕ × Subtree n) (children : List (ℕ × Subtree n))
    → AreRead (reads nodes n) ids (child ∷ children) → InOrder n low high (child ∷ children)
    → Turns nodes n k path id i (low ∷ map (λ c. c.0) children) ids (route_of k (map (λ c. c.0) children))
turns nodes n k path id i low high [] child children read order = absurd read
turns nodes n k path id i low high (own ∷ other ∷ ids) child [] read order = absurd read.1
turns nodes n k path id i low high (own ∷ []) child [] read order = record {
  range = λ d. record { node = child.1; reads-as = read.0; high = high; range = sound_range n low high child.1 order.0.0 order.0.1 };
  same = λ d p e. let at : p ≡ i = omega (arith, e) in rw (append-nil (leaves_under nodes n (path ++ (id, i) ∷ []) low own), at) refl;
}
turns nodes n k path id i low high (own ∷ ids) child (next ∷ children) read order =
    by (turns nodes n k path id (suc i) next.0 high ids next children read.1 order.1) (cases_lt k next.0)
  where
    left : Ascends low next.0 (leaves_under nodes n (path ++ (id, i) ∷ []) low own)
    left = all_ascend nodes n (path ++ (id, i) ∷ []) low next.0 own child.1 read.0 (sound_range n low next.0 child.1 order.0.0 order.0.1)

    right : Ascends next.0 high (leaves_of_children (leaves_under nodes n) path id (suc i) (next.0 ∷ map (λ c. c.0) children) ids)
    right = children_ascend nodes n (all_ascend nodes n) path id (suc i) next.0 high ids next children read.1 order.1

    by : Turns nodes n k path id (suc i) (next.0 ∷ map (λ c. c.0) children) ids (route_of k (map (λ c. c.0) children)) → (k < next.0) ⊎ (next.0 ≤ k)
        → Turns nodes n k path id i (low ∷ next.0 ∷ map (λ c. c.0) children) (own ∷ ids) (route_of k (next.0 ∷ map (λ c. c.0) children))
    by rest (inl less) =
        let none : route_of k (next.0 ∷ map (λ c. c.0) children) ≡ 0 = route_none n k high next children less order.1 in
        rw none (record {
          range = λ d. record { node = child.1; reads-as = read.0; high = next.0; range = sound_range n low next.0 child.1 order.0.0 order.0.1 };
          same = λ d p e. let at : p ≡ i = omega (arith, e) in rw at (goes_left k low next.0 high _ _ left right less);
        })
    by rest (inr least) =
        let more : route_of k (next.0 ∷ map (λ c. c.0) children) ≡ suc (route_of k (map (λ c. c.0) children)) = route_past k next.0 (map (λ c. c.0) children) least in
        rw more (record {
          range = λ d. rest.range d;
          same = λ d p e. goes_right k low next.0 high _ _ left right least ∙ rest.same d p (omega (arith, e));
        })
