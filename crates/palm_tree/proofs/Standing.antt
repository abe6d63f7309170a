-- Where a look-up stands: at a node that reads, so many levels down, among whose rows the key has the rate that it has in
-- the tree.
use Rattle.std.proofs.Common.{◌≡◌, ℕ, zero, suc, ◌+◌, ◌<◌, ◌≤◌, List, [], ◌∷◌, get_or, slice_get, count_by, nat_le, Option, Some, refl, sym, ap, subst, arith, ◌∙◌}
use Rattle.std.proofs.lemmas.Option.{get_or_from_slice_get}
use Rattle.palm_base.specs.Table.{rate_at}
use Rattle.palm_base.specs.Tree.{Subtree, Tree, rows_in, rows_of}
use Rattle.palm_base.specs.Lawful.{Sound, Root}
use Rattle.palm_base.specs.declared.row.Row.{Row}
use Rattle.palm_node.specs.InnerNode.{InnerNode}
use Rattle.palm_node.specs.declared.id.NodeId.{NodeId}
use Rattle.palm_node.specs.declared.node.Node.{Node}
use Rattle.palm_node.specs.declared.node.Node.TheVariants.{Leaf, Inner}
use Rattle.palm_node.proofs.SameNodes.{inner_same}
use Rattle.palm_arena.specs.ArenaState.{ArenaState}
use Rattle.palm_arena.specs.Reads.{map_of, reads}
use Rattle.palm_arena.specs.declared.shape.Shape.{Shape}
use Rattle.palm_tree.specs.Below.{IsOrdered}
use Rattle.palm_arena.specs.Routes.{separators_of, route_of}
use Rattle.palm_tree.specs.TreeValue.{tree_of, HoldsTree}
use Rattle.palm_tree.proofs.Descents.{Leads, leads}
use Rattle.palm_arena.proofs.Readings.{ReadsOver, inner_reads, leaf_reads}
use Rattle.palm_tree.proofs.Values.{value_reads}

pub root_ordered : (n high : ℕ) (node : Subtree n) → Root n high node → IsOrdered n node
root_ordered zero high rows root = tt
root_ordered (suc n) high children root = ((omega (arith, root.0.0), root.0.1), (0, high, root.2))

pub sound_ordered : (n low high : ℕ) (node : Subtree n) → Sound n low high node → IsOrdered n node
sound_ordered zero low high rows sound = tt
sound_ordered (suc n) low high children sound = ((omega (arith, sound.0.0), sound.0.1), (low, high, sound.2))

record NodeAt (nodes : NodeId → Option Node) (k : ℕ) (rate : Option ℕ) (id : NodeId) (n : ℕ) (node : Subtree n) : Type 0 where
  reads-as : reads nodes n id ≡ Some node
  ordered : IsOrdered n node
  rated : rate_at k (rows_in n node) ≡ rate

-- `level` of `levels` levels are reached at this id, counted from 1 at the root.
pub Stands : (NodeId → Option Node) → ℕ → Option ℕ → ℕ → ℕ → NodeId → Type 0
Stands nodes k rate levels level id = (n : ℕ) × (n + level ≡ levels) × ((node : Subtree n) × NodeAt nodes k rate id n node)

pub stands_first : (arena : ArenaState) (shape : Shape) (rows k : ℕ) → HoldsTree arena shape rows
    → Stands (map_of arena.places) k (rate_at k (rows_of (tree_of arena.places shape))) shape.levels 1 shape.root
unfolding Stands
stands_first arena shape rows k holds =
    let tree : Tree = tree_of arena.places shape in
    let r = value_reads arena shape rows holds in
    (tree.0, omega (arith, r.0), (tree.1, record { reads-as = r.1; ordered = root_ordered tree.0 holds.lawful.0 tree.1 holds.lawful.1; rated = refl }))

-- above the last level stands an inner node
pub stands_inner : (nodes : NodeId → Option Node) (k : ℕ) (rate : Option ℕ) (levels level : ℕ) (id : NodeId) → Stands nodes k rate levels level id → level < levels
    → (node : InnerNode) × (nodes id ≡ Some (Inner node))
unfolding Stands
stands_inner nodes k rate levels level id (zero, at, (node, s)) less = absurd (omega arith)
stands_inner nodes k rate levels level id (suc n, at, (children, s)) less =
    let inner = inner_reads nodes n id children s.reads-as in (inner.0, inner.1)

-- and at the last level a leaf, in which the key has its rate
pub stands_leaf : (nodes : NodeId → Option Node) (k : ℕ) (rate : Option ℕ) (levels level : ℕ) (id : NodeId) → Stands nodes k rate levels level id → levels ≤ level
    → (rows : List Row) × (nodes id ≡ Some (Leaf rows)) × (rate_at k rows ≡ rate)
unfolding Stands
stands_leaf nodes k rate levels level id (zero, at, (rows, s)) last = (rows, leaf_reads nodes id rows s.reads-as, s.rated)
stands_leaf nodes k rate levels level id (suc n, at, (children, s)) last = absurd (omega arith)

-- The child that a key is routed to stands one level down.
pub stands_next : (nodes : NodeId → Option Node) (k : ℕ) (rate : Option ℕ) (levels level : ℕ) (id child : NodeId) (inner : InnerNode)
    → Stands nodes k rate levels level id → level < levels → nodes id ≡ Some (Inner inner)
    → slice_get inner.children (count_by (λ s. nat_le s k) inner.separators) ≡ Some child
    → Stands nodes k rate levels (level + 1) child
unfolding Stands
stands_next nodes k rate levels level id child inner (zero, at, (node, s)) less here got = absurd (omega arith)
stands_next nodes k rate levels level id child inner (suc n, at, ([], s)) less here got = absurd (omega (arith, s.ordered.0.0))
stands_next nodes k rate levels level id child inner (suc n, at, (first ∷ children, s)) less here got =
    let known = inner_reads nodes n id (first ∷ children) s.reads-as in
    let same : known.0 ≡ inner = inner_same known.0 inner (nodes id) known.1 here in
    let over : ReadsOver n nodes (first ∷ children) inner = subst (ReadsOver n nodes (first ∷ children)) same known.2 in
    let order = s.ordered.1 in
    let lead : Leads n k (first ∷ children) (route_of k (separators_of (first ∷ children))) = leads n k order.0 order.1 first children order.2 in
    let i : ℕ = route_of k (separators_of (first ∷ children)) in
    let place : slice_get inner.children i ≡ Some child = subst (λ (l : List ℕ). slice_get inner.children (route_of k l) ≡ Some child) over.separators got in
    let own : reads nodes n (get_or inner.children i child) ≡ Some (get_or (first ∷ children) i first).1 = over.each i child first lead.inside in (
      n,
      omega arith,
      (
        (get_or (first ∷ children) i first).1,
        record {
          reads-as = ap (reads nodes n) (sym (get_or_from_slice_get inner.children i child child place)) ∙ own;
          ordered = sound_ordered n lead.low lead.high (get_or (first ∷ children) i first).1 (lead.sound first);
          rated = sym (lead.rate first) ∙ s.rated;
        },
      ),
    )
