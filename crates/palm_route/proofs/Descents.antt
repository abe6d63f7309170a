-- Where a part stands on its way down: at a node with a range, under which the leaf of its key is.
use Rattle.std.proofs.Common.{◌≡◌, ℕ, zero, suc, ◌+◌, ◌-◌, ◌<◌, ◌≤◌, List, [], ◌∷◌, ◌++◌, length, get_or, slice_get, Option, Some, refl, sym, ap, subst, arith, ◌∙◌}
use Rattle.std.proofs.lemmas.List.{length-append}
use Rattle.std.proofs.lemmas.Option.{get_or_from_slice_get}
use Rattle.palm_base.specs.Tree.{Subtree, Tree}
use Rattle.palm_base.specs.Lawful.{Root}
use Rattle.palm_base.specs.declared.bounds.TheConstants.{MOST_LEVELS}
use Rattle.palm_base.proofs.LevelCounts.{lawful_trees_are_low}
use Rattle.palm_base.proofs.Lows.{prefixes_in}
use Rattle.palm_node.specs.InnerNode.{InnerNode}
use Rattle.palm_node.specs.declared.id.NodeId.{NodeId}
use Rattle.palm_node.specs.declared.node.Node.{Node}
use Rattle.palm_node.specs.declared.node.Node.TheVariants.{Inner}
use Rattle.palm_node.proofs.SameNodes.{inner_same}
use Rattle.palm_arena.specs.Leaves.{LeafPlace, leaf_for, leaves_under, leaves_at}
use Rattle.palm_arena.specs.Reads.{HasTree}
use Rattle.palm_arena.specs.Routes.{route_of}
use Rattle.palm_arena.specs.declared.shape.Shape.{Shape}
use Rattle.palm_route.specs.Ranges.{IsRange, HasRange}
use Rattle.palm_route.specs.Laws.{LeavesRise, LeavesAreThere}
use Rattle.palm_route.proofs.Ascents.{Ascends, rise}
use Rattle.palm_route.proofs.LeavesUnder.{all_ascend, IsOver, is_over, leaves_are, Turns, turns}

-- ---- the root

root_range : (n high : ℕ) (node : Subtree n) → Root n high node → (h : ℕ) × IsRange n 0 h node
root_range zero high rows root = (1, omega arith)
root_range (suc n) high children root = (high, ((omega (arith, root.0.0), root.0.1), root.2))

-- The root of a tree has a range that begins at 0.
pub tree_range : (nodes : NodeId → Option Node) (shape : Shape) → HasTree nodes shape → HasRange nodes (shape.levels - 1) 0 shape.root
tree_range nodes shape has =
    let tree : Tree = has.tree in
    let below : tree.0 ≡ shape.levels - 1 = omega (arith, has.reads-as.0) in
    let range = root_range tree.0 has.lawful.0 tree.1 has.lawful.1 in
    subst (λ n. HasRange nodes n 0 shape.root) below (record { node = tree.1; reads-as = has.reads-as.1; high = range.0; range = range.1 })

-- It has a level at least, and few.
pub tree_levels : (nodes : NodeId → Option Node) (shape : Shape) → HasTree nodes shape → (1 ≤ shape.levels) × (shape.levels ≤ MOST_LEVELS)
tree_levels nodes shape has =
    let tree : Tree = has.tree in
    let low = lawful_trees_are_low tree has.lawful (prefixes_in tree.0 tree.1 has.lows) in
    (omega (arith, has.reads-as.0), omega (arith, has.reads-as.0, low))

-- ---- the way down

-- `level` of `levels` levels are reached, counted from 1 at the root.
pub record Stands (nodes : NodeId → Option Node) (k levels level : ℕ) (path : List (NodeId × ℕ)) (low : ℕ) (id : NodeId) (places : List LeafPlace) : Type 0 where
  pub below : ℕ
  pub reached : below + level ≡ levels
  pub steps : length path + 1 ≡ level
  pub range : HasRange nodes below low id
  pub same : leaf_for k places ≡ leaf_for k (leaves_under nodes below path low id)

pub stands_first : (nodes : NodeId → Option Node) (shape : Shape) (k : ℕ) → HasTree nodes shape → Stands nodes k shape.levels 1 [] 0 shape.root (leaves_at nodes shape)
stands_first nodes shape k has = record {
  below = shape.levels - 1;
  reached = omega (arith, (tree_levels nodes shape has).0);
  steps = refl;
  range = tree_range nodes shape has;
  same = refl;
}

range_inner : (nodes : NodeId → Option Node) (n low : ℕ) (id : NodeId) → 1 ≤ n → HasRange nodes n low id → (inner : InnerNode) × (nodes id ≡ Some (Inner inner))
range_inner nodes zero low id some has = absurd (omega arith)
range_inner nodes (suc n) low id some has = let known = is_over nodes n low has.high id has.node has.reads-as has.range in (known.0, known.1.here)

-- Above the last level stands an inner node.
pub stands_inner : (nodes : NodeId → Option Node) (k levels level : ℕ) (path : List (NodeId × ℕ)) (low : ℕ) (id : NodeId) (places : List LeafPlace)
    → Stands nodes k levels level path low id places → level < levels → (inner : InnerNode) × (nodes id ≡ Some (Inner inner))
stands_inner nodes k levels level path low id places s less = range_inner nodes s.below low id (omega (arith, s.reached)) s.range

-- At the last level the key's leaf is found.
pub stands_leaf : (nodes : NodeId → Option Node) (k levels level : ℕ) (path : List (NodeId × ℕ)) (low : ℕ) (id : NodeId) (places : List LeafPlace)
    → Stands nodes k levels level path low id places → levels ≤ level → leaf_for k places ≡ Some (record { leaf = id; path = path; low = low })
stands_leaf nodes k levels level path low id places s last =
    let none : s.below ≡ 0 = omega (arith, s.reached) in
    s.same ∙ ap (λ n. leaf_for k (leaves_under nodes n path low id)) none

-- The node over which `inner` stands, as it reads.
pub over_of : (nodes : NodeId → Option Node) (n low : ℕ) (id : NodeId) (inner : InnerNode) → (has : HasRange nodes (suc n) low id) → nodes id ≡ Some (Inner inner)
    → IsOver nodes n low has.high id inner
over_of nodes n low id inner has here =
    let known = is_over nodes n low has.high id has.node has.reads-as has.range in
    subst (IsOver nodes n low has.high id) (inner_same known.0 inner (nodes id) known.1.here here) known.1

turned : (nodes : NodeId → Option Node) (n k low : ℕ) (path : List (NodeId × ℕ)) (id : NodeId) (inner : InnerNode) → HasRange nodes (suc n) low id → nodes id ≡ Some (Inner inner)
    → Turns nodes n k path id 0 (low ∷ inner.separators) inner.children (route_of k inner.separators)
turned nodes n k low path id inner has here =
    let over = over_of nodes n low id inner has here in
    rw over.separators (turns nodes n k path id 0 low has.high inner.children over.first over.later over.read over.order)

record Next (nodes : NodeId → Option Node) (k below : ℕ) (path : List (NodeId × ℕ)) (low : ℕ) (id : NodeId) (i low' : ℕ) (child : NodeId) : Type 0 where
  n : ℕ
  less : n + 1 ≡ below
  range : HasRange nodes n low' child
  same : leaf_for k (leaves_under nodes below path low id) ≡ leaf_for k (leaves_under nodes n (path ++ (id, i) ∷ []) low' child)

next_of : (nodes : NodeId → Option Node) (k below : ℕ) (path : List (NodeId × ℕ)) (low : ℕ) (id : NodeId) (inner : InnerNode) (i low' : ℕ) (child : NodeId)
    → 1 ≤ below → HasRange nodes below low id → nodes id ≡ Some (Inner inner) → i ≡ route_of k inner.separators
    → slice_get inner.children i ≡ Some child → slice_get (low ∷ inner.separators) i ≡ Some low' → Next nodes k below path low id i low' child
next_of nodes k zero path low id inner i low' child some has here at got begins = absurd (omega arith)
next_of nodes k (suc n) path low id inner i low' child some has here at got begins =
    let turn : Turns nodes n k path id 0 (low ∷ inner.separators) inner.children i = subst (Turns nodes n k path id 0 (low ∷ inner.separators) inner.children) (sym at) (turned nodes n k low path id inner has here) in
    let own : get_or inner.children i child ≡ child = get_or_from_slice_get inner.children i child child got in
    let first : get_or (low ∷ inner.separators) i 0 ≡ low' = get_or_from_slice_get (low ∷ inner.separators) i low' 0 begins in
    record {
      n = n;
      less = omega arith;
      range = subst (λ l. HasRange nodes n l child) first (subst (HasRange nodes n (get_or (low ∷ inner.separators) i 0)) own (turn.range child));
      same = ap (leaf_for k) (leaves_are nodes n path low id inner here) ∙ turn.same child i (omega arith)
          ∙ ap (λ l. leaf_for k (leaves_under nodes n (path ++ (id, i) ∷ []) l (get_or inner.children i child))) first
          ∙ ap (λ c. leaf_for k (leaves_under nodes n (path ++ (id, i) ∷ []) low' c)) own;
    }

-- The child that the key is routed to stands one level down.
pub stands_next : (nodes : NodeId → Option Node) (k levels level : ℕ) (path : List (NodeId × ℕ)) (low : ℕ) (id : NodeId) (places : List LeafPlace) (inner : InnerNode) (i low' : ℕ) (child : NodeId)
    → Stands nodes k levels level path low id places → level < levels → nodes id ≡ Some (Inner inner) → i ≡ route_of k inner.separators
    → slice_get inner.children i ≡ Some child → slice_get (low ∷ inner.separators) i ≡ Some low'
    → Stands nodes k levels (level + 1) (path ++ (id, i) ∷ []) low' child places
stands_next nodes k levels level path low id places inner i low' child s less here at got begins =
    let next = next_of nodes k s.below path low id inner i low' child (omega (arith, s.reached)) s.range here at got begins in
    record {
      below = next.n;
      reached = omega (arith, s.reached, next.less);
      steps = omega (arith, s.steps, length-append path ((id, i) ∷ []));
      range = next.range;
      same = s.same ∙ next.same;
    }

-- ---- the leaves of a tree

pub tree_ascends : (nodes : NodeId → Option Node) (shape : Shape) → HasTree nodes shape → (high : ℕ) × Ascends 0 high (leaves_at nodes shape)
tree_ascends nodes shape has =
    let range = tree_range nodes shape has in
    (range.high, all_ascend nodes (shape.levels - 1) [] 0 range.high shape.root range.node range.reads-as range.range)

pub leaves_rise : LeavesRise
leaves_rise nodes shape has = let up = tree_ascends nodes shape has in rise 0 up.0 (leaves_at nodes shape) up.1

some_there : (low high : ℕ) (places : List LeafPlace) → Ascends low high places → 1 ≤ length places
some_there low high [] up = absurd up
some_there low high (place ∷ places) up = omega arith

pub leaves_are_there : LeavesAreThere
leaves_are_there nodes shape has = let up = tree_ascends nodes shape has in some_there 0 up.0 (leaves_at nodes shape) up.1
