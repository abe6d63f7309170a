-- An arena of an empty leaf alone holds the empty tree.
use Rattle.std.proofs.Common.{◌≡◌, zero, List, [], ◌∷◌, length, Option, Some, None, IsSome, refl, sym, ap, subst, arith}
use mathlib.Core.Logic.{dite}
use native.Mathlib.Decide.{ℕ_discrete}
use Rattle.std.specs.List.{Contains, IsDistinct}
use Rattle.palm_base.specs.Tree.{Tree, rows_of}
use Rattle.palm_base.specs.Lows.{LowsAreKeys}
use Rattle.palm_base.specs.declared.row.Row.{Row}
use Rattle.palm_base.proofs.EmptyTree.{empty_is_lawful}
use Rattle.palm_node.specs.declared.id.NodeId.{NodeId}
use Rattle.palm_node.specs.declared.node.Node.{Node}
use Rattle.palm_node.specs.declared.node.Node.TheVariants.{Leaf}
use Rattle.palm_arena.specs.declared.place.Place.{Place}
use Rattle.palm_arena.specs.declared.place.Place.TheVariants.{Holds}
use Rattle.palm_arena.specs.declared.shape.Shape.{Shape}
use Rattle.palm_arena.specs.ArenaState.{ArenaState, node_in, with_place, NoneLent}
use Rattle.palm_arena.specs.Reads.{map_of, leaf_in, ReadsAs, IsWhole}
use Rattle.palm_arena.proofs.Keeping.{same_id}
use Rattle.palm_arena.proofs.Standing.{put_stands, others_stay, none_lent_after_put}
use Rattle.palm_tree.specs.TreeValue.{tree_of, leaf_alone, HoldsTree}
use Rattle.palm_tree.proofs.Values.{tree_reads}

alone_shape : NodeId → Shape
alone_shape id = record { root = id; levels = 1 }

empty_tree : Tree
empty_tree = (zero, [])

node_alone : (id : NodeId) → map_of (leaf_alone id) id ≡ Some (Leaf [])
node_alone id = ap node_in (put_stands [] id (Holds (Leaf [])))

reads_empty : (id : NodeId) → ReadsAs (map_of (leaf_alone id)) (alone_shape id) empty_tree
unfolding alone_shape empty_tree
reads_empty id = (refl, ap leaf_in (node_alone id))

none_there : Option Node
none_there = None

met_alone : (id other : NodeId) → IsSome (map_of (leaf_alone id) other) → Contains (id ∷ []) other
unfolding none_there
met_alone id other held = dite (ℕ_discrete other.place id.place)
    (λ same. (0, omega arith, sym (same_id other id same)))
    (λ apart.
    let none : map_of (leaf_alone id) other ≡ None = ap node_in (others_stay [] id other (Holds (Leaf [])) (λ e. apart (ap (λ (k : NodeId). k.place) e))) in
    let no : IsSome none_there = subst IsSome none held in
    absurd cc)

whole_alone : (id : NodeId) → IsWhole (map_of (leaf_alone id)) (alone_shape id)
unfolding alone_shape IsDistinct
whole_alone id = record { tree = (empty_tree, reads_empty id); once = (tt, tt); met = met_alone id }

none_lent_alone : (id : NodeId) → NoneLent (leaf_alone id)
none_lent_alone id = none_lent_after_put [] id (Holds (Leaf [])) (λ lent. absurd cc) (λ other lent. absurd cc)

-- so does the arena in which it was put
pub taken_alone : (new begun taken : ArenaState) (id : NodeId) (rows : List Row) (moved : List NodeId) → new ≡ record { places = []; begun = None; moved = [] }
    → begun ≡ record { places = new.places; begun = Some new.places; moved = [] } → rows ≡ []
    → taken ≡ record begun { places = with_place begun.places id (Holds (Leaf rows)); moved = moved }
    → taken.places ≡ leaf_alone id
taken_alone new begun taken id rows moved a b r t = rw (t, b, a, r) refl

pub none_lent_taken : (id : NodeId) (places : List Place) → places ≡ leaf_alone id → NoneLent places
none_lent_taken id places e = subst NoneLent (sym e) (none_lent_alone id)

pub holds_empty : (id : NodeId) (arena : ArenaState) → arena.begun ≡ None → arena.places ≡ leaf_alone id → HoldsTree arena (record { root = id; levels = 1 }) 0
unfolding alone_shape empty_tree
holds_empty id arena idle e =
    let value : tree_of (leaf_alone id) (record { root = id; levels = 1 }) ≡ empty_tree = tree_reads (leaf_alone id) (alone_shape id) empty_tree (reads_empty id) in
    record {
      idle = idle;
      none_lent = rw e (none_lent_alone id);
      whole = rw e (whole_alone id);
      lawful = rw e (empty_is_lawful (tree_of (leaf_alone id) (record { root = id; levels = 1 })) value);
      lows = rw e (subst LowsAreKeys (sym value) tt);
      count = rw e (ap (λ (tree : Tree). length (rows_of tree)) value);
    }

pub value_empty : (id : NodeId) (places : List Place) → places ≡ leaf_alone id → tree_of places (record { root = id; levels = 1 }) ≡ (zero, [])
unfolding alone_shape empty_tree
value_empty id places e = rw e (tree_reads (leaf_alone id) (alone_shape id) empty_tree (reads_empty id))
