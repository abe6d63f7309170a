-- What stands below the children of an inner node: its rows are theirs, each is a node in order, and those of a key are
-- below the child that it is routed to.
use Rattle.std.proofs.Common.{◌≡◌, ℕ, zero, suc, ◌+◌, ◌-◌, ◌<◌, ◌≤◌, List, [], ◌∷◌, ◌++◌, length, get_or, slice_get, take, drop, Option, None, Some, IsSome, refl, sym, ap, subst, arith, ◌∙◌}
use Rattle.std.specs.List.{flat_map}
use Rattle.std.proofs.lemmas.Option.{slice_get_within, get_or_from_slice_get}
use Rattle.palm_base.specs.Tree.{Subtree, Tree, rows_in, rows_of}
use Rattle.palm_base.specs.Pass.{rows_under}
use Rattle.palm_base.specs.Lawful.{InOrder}
use Rattle.palm_base.proofs.TableSplits.{Under, From}
use Rattle.palm_base.specs.declared.bounds.TheConstants.{MOST_CHILDREN}
use Rattle.palm_base.specs.declared.row.Row.{Row}
use Rattle.palm_node.specs.InnerNode.{InnerNode}
use Rattle.palm_node.specs.declared.id.NodeId.{NodeId}
use Rattle.palm_node.specs.declared.node.Node.{Node}
use Rattle.palm_node.specs.declared.node.Node.TheVariants.{Leaf, Inner}
use Rattle.palm_node.proofs.SameNodes.{inner_same}
use Rattle.palm_arena.specs.ArenaState.{ArenaState}
use Rattle.palm_arena.specs.declared.shape.Shape.{Shape}
use Rattle.palm_arena.specs.Reads.{map_of, reads, leaf_in}
use Rattle.palm_arena.specs.declared.place.Place.{Place}
use Rattle.palm_tree.specs.Below.{IsOrdered, HasNodeBelow, rows_read, rows_below}
use Rattle.palm_tree.specs.TreeValue.{tree_over, tree_of, HoldsTree}
use Rattle.palm_arena.specs.Routes.{separators_of, route_of}
use Rattle.palm_tree.proofs.Descents.{leads}
use Rattle.palm_arena.proofs.Readings.{ReadsOver, inner_reads, leaf_reads}
use Rattle.palm_tree.proofs.Standing.{root_ordered, sound_ordered}
use Rattle.palm_tree.proofs.Values.{value_reads}

-- ---- the rows of ids, where each has those of the child at its place

-- The ids have the rows of the children, one by one.
record HasRowsOf (n : ℕ) (rows_at : NodeId → List Row) (ids : List NodeId) (children : List (ℕ × Subtree n)) : Type 0 where
  count : length ids ≡ length children
  each : (i : ℕ) (id : NodeId) (child : ℕ × Subtree n) → i < length children → rows_at (get_or ids i id) ≡ rows_in n (get_or children i child).1

later : (n : ℕ) (rows_at : NodeId → List Row) (id : NodeId) (ids : List NodeId) (child : ℕ × Subtree n) (children : List (ℕ × Subtree n))
    → HasRowsOf n rows_at (id ∷ ids) (child ∷ children) → HasRowsOf n rows_at ids children
later n rows_at id ids child children has = record { count = omega (arith, has.count); each = λ i d c lt. has.each (suc i) d c (omega (arith, lt)) }

joined : (rows_at : NodeId → List Row) (n : ℕ) (id : NodeId) (child : ℕ × Subtree n) (a b : List Row) → rows_at id ≡ rows_in n child.1 → a ≡ b → rows_at id ++ a ≡ rows_in n child.1 ++ b
joined rows_at n id child a b first rest = rw (first, rest) refl

all_same : (n : ℕ) (rows_at : NodeId → List Row) (ids : List NodeId) (children : List (ℕ × Subtree n)) → HasRowsOf n rows_at ids children
    → flat_map rows_at ids ≡ rows_under n children
all_same n rows_at [] [] has = refl
all_same n rows_at [] (child ∷ children) has = absurd (omega (arith, has.count))
all_same n rows_at (id ∷ ids) [] has = absurd (omega (arith, has.count))
all_same n rows_at (id ∷ ids) (child ∷ children) has =
    joined rows_at n id child _ _ (has.each 0 id child (omega arith)) (all_same n rows_at ids children (later n rows_at id ids child children has))

left_same : (n : ℕ) (rows_at : NodeId → List Row) (i : ℕ) (ids : List NodeId) (children : List (ℕ × Subtree n)) → HasRowsOf n rows_at ids children
    → flat_map rows_at (take i ids) ≡ rows_under n (take i children)
left_same n rows_at zero ids children has = refl
left_same n rows_at (suc i) [] [] has = refl
left_same n rows_at (suc i) [] (child ∷ children) has = absurd (omega (arith, has.count))
left_same n rows_at (suc i) (id ∷ ids) [] has = absurd (omega (arith, has.count))
left_same n rows_at (suc i) (id ∷ ids) (child ∷ children) has =
    joined rows_at n id child _ _ (has.each 0 id child (omega arith)) (left_same n rows_at i ids children (later n rows_at id ids child children has))

right_same : (n : ℕ) (rows_at : NodeId → List Row) (i : ℕ) (ids : List NodeId) (children : List (ℕ × Subtree n)) → HasRowsOf n rows_at ids children
    → flat_map rows_at (drop i ids) ≡ rows_under n (drop i children)
right_same n rows_at zero ids children has = all_same n rows_at ids children has
right_same n rows_at (suc i) [] [] has = refl
right_same n rows_at (suc i) [] (child ∷ children) has = absurd (omega (arith, has.count))
right_same n rows_at (suc i) (id ∷ ids) [] has = absurd (omega (arith, has.count))
right_same n rows_at (suc i) (id ∷ ids) (child ∷ children) has = right_same n rows_at i ids children (later n rows_at id ids child children has)

-- ---- what stands at an id

child_ordered : (n low high : ℕ) (children : List (ℕ × Subtree n)) (i : ℕ) (d : ℕ × Subtree n) → InOrder n low high children → i < length children
    → IsOrdered n (get_or children i d).1
child_ordered n low high [] i d order lt = absurd (omega arith)
child_ordered n low high (child ∷ []) zero d order lt = sound_ordered n low high child.1 order.0.1
child_ordered n low high (child ∷ next ∷ children) zero d order lt = sound_ordered n low next.0 child.1 order.0.1
child_ordered n low high (child ∷ []) (suc i) d order lt = absurd (omega arith)
child_ordered n low high (child ∷ next ∷ children) (suc i) d order lt = child_ordered n next.0 high (next ∷ children) i d order.1 (omega (arith, lt))

pub node_held : (places : List Place) (below : ℕ) (id : NodeId) → HasNodeBelow places below id → IsSome (map_of places id)
node_held places zero id has = subst IsSome (sym (leaf_reads (map_of places) id has.node has.reads-as)) refl
node_held places (suc n) id has = let inner = inner_reads (map_of places) n id has.node has.reads-as in subst IsSome (sym inner.1) refl

-- Where a leaf stands, its rows stand below.
pub leaf_below : (places : List Place) (below : ℕ) (id : NodeId) (node : Node) (rows : List Row) → HasNodeBelow places below id
    → map_of places id ≡ Some node → node ≡ Leaf rows → rows_below places below id ≡ rows
leaf_below places zero id node rows has here is = ap (λ (at : Option Node). rows_read zero (leaf_in at)) (here ∙ ap Some is)
leaf_below places (suc n) id node rows has here is = let inner = inner_reads (map_of places) n id has.node has.reads-as in let same = inner.1 in absurd cc

-- Where an inner node stands, `n` is one level less than stand below it: its rows are those below its children, which are
-- nodes in order. Those left of the child that a key is routed to have keys below it, and those right of it keys above.
pub record HasChildren (places : List Place) (below n : ℕ) (id : NodeId) (inner : InnerNode) : Type 0 where
  pub one_less : n + 1 ≡ below
  pub few : length inner.children ≤ MOST_CHILDREN
  pub rows : rows_below places below id ≡ flat_map (rows_below places n) inner.children
  pub each : (i : ℕ) (d : NodeId) → i < length inner.children → HasNodeBelow places n (get_or inner.children i d)
  pub before : (k : ℕ) → Under k (flat_map (rows_below places n) (take (route_of k inner.separators) inner.children))
  pub behind : (k : ℕ) → From (suc k) (flat_map (rows_below places n) (drop (suc (route_of k inner.separators)) inner.children))

reads_rows : (places : List Place) (n : ℕ) (id : NodeId) (node : Subtree n) → reads (map_of places) n id ≡ Some node → rows_below places n id ≡ rows_in n node
reads_rows places n id node e = ap (rows_read n) e

inner_over : (places : List Place) (n : ℕ) (id : NodeId) (inner : InnerNode) (children : Subtree (suc n)) → reads (map_of places) (suc n) id ≡ Some children
    → map_of places id ≡ Some (Inner inner) → ReadsOver n (map_of places) children inner
inner_over places n id inner children e here =
    let known = inner_reads (map_of places) n id children e in
    subst (ReadsOver n (map_of places) children) (inner_same known.0 inner (map_of places id) known.1 here) known.2

has_children : (places : List Place) (n : ℕ) (id : NodeId) (inner : InnerNode) (children : Subtree (suc n)) → reads (map_of places) (suc n) id ≡ Some children
    → IsOrdered (suc n) children → map_of places id ≡ Some (Inner inner) → HasChildren places (suc n) n id inner
has_children places n id inner [] e ordered here = absurd (omega (arith, ordered.0.0))
has_children places n id inner (first ∷ children) e ordered here =
    let over = inner_over places n id inner (first ∷ children) e here in
    let order = ordered.1 in
    let has : HasRowsOf n (rows_below places n) inner.children (first ∷ children) = record {
      count = over.count;
      each = λ i d child lt. reads_rows places n (get_or inner.children i d) (get_or (first ∷ children) i child).1 (over.each i d child lt);
    } in
    let lead = λ (k : ℕ). leads n k order.0 order.1 first children order.2 in
    record {
      one_less = omega arith;
      few = rw over.count ordered.0.1;
      rows = reads_rows places (suc n) id (first ∷ children) e ∙ sym (all_same n (rows_below places n) inner.children (first ∷ children) has);
      each = λ i d lt. record {
        node = (get_or (first ∷ children) i first).1;
        reads-as = over.each i d first (omega (arith, lt, over.count));
        ordered = child_ordered n order.0 order.1 (first ∷ children) i first order.2 (omega (arith, lt, over.count));
      };
      before = λ k. rw (over.separators, left_same n (rows_below places n) (route_of k (separators_of (first ∷ children))) inner.children (first ∷ children) has) (lead k).before;
      behind = λ k. rw (over.separators, right_same n (rows_below places n) (suc (route_of k (separators_of (first ∷ children)))) inner.children (first ∷ children) has) (lead k).behind;
    }

pub children_below : (places : List Place) (below : ℕ) (id : NodeId) (node : Node) (inner : InnerNode) → HasNodeBelow places below id
    → map_of places id ≡ Some node → node ≡ Inner inner → HasChildren places below (below - 1) id inner
children_below places zero id node inner has here is = let leaf = leaf_reads (map_of places) id has.node has.reads-as in absurd cc
children_below places (suc n) id node inner has here is =
    let less : n ≡ suc n - 1 = omega arith in
    subst (λ m. HasChildren places (suc n) m id inner) less (has_children places n id inner has.node has.reads-as has.ordered (here ∙ ap Some is))

-- So a node in order stands at each child.
pub child_stands : (places : List Place) (below n : ℕ) (id : NodeId) (inner : InnerNode) (i : ℕ) (child : NodeId) → HasChildren places below n id inner
    → slice_get inner.children i ≡ Some child → HasNodeBelow places n child
child_stands places below n id inner i child has got =
    subst (HasNodeBelow places n) (get_or_from_slice_get inner.children i child child got) (has.each i child (slice_get_within inner.children i child got))

-- ---- the root

over_rows : (n : ℕ) (root : Option (Subtree n)) → rows_read n root ≡ rows_of (tree_over n root)
over_rows n None = refl
over_rows n (Some root) = refl

-- What stands below the root, as many levels down as there are below it, are the rows of the tree.
pub rows_below_root : (places : List Place) (shape : Shape) → rows_below places (shape.levels - 1) shape.root ≡ rows_of (tree_of places shape)
rows_below_root places shape = over_rows (shape.levels - 1) (reads (map_of places) (shape.levels - 1) shape.root)

-- And the root is a node in order.
pub root_below : (arena : ArenaState) (shape : Shape) (rows : ℕ) → HoldsTree arena shape rows → HasNodeBelow arena.places (shape.levels - 1) shape.root
root_below arena shape rows holds =
    let tree : Tree = tree_of arena.places shape in
    let r = value_reads arena shape rows holds in
    let levels : tree.0 ≡ shape.levels - 1 = omega (arith, r.0) in
    subst (λ n. HasNodeBelow arena.places n shape.root) levels (record { node = tree.1; reads-as = r.1; ordered = root_ordered tree.0 holds.lawful.0 tree.1 holds.lawful.1 })
