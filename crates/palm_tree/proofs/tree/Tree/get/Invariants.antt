use Rattle.palm_base.specs.Table.{rate_at}
use Rattle.palm_base.specs.Tree.{rows_of}
use Rattle.palm_arena.specs.Reads.{map_of}
use Rattle.palm_tree.specs.TreeValue.{tree_of}
use Rattle.palm_tree.proofs.Standing.{Stands}
use Rattle.palm_tree.proofs.tree.Tree.get.Given as goal

-- the key has its rate among the rows of the node that is reached
abbrev pub invariant-loop-level : goal.invariant-loop-level
invariant-loop-level l =
    let tree = l.self-inside in
    Stands (map_of tree.arena.places) l.key (rate_at l.key (rows_of (tree_of tree.arena.places tree.shape))) tree.shape.levels l._level l.id
