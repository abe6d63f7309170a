use Rattle.palm_tree.proofs.EmptyTree.{holds_empty, value_empty}
use Rattle.palm_tree.proofs.tree.Tree.new.Goals as goal

pub invariant_of-result : goal.invariant_of-result
invariant_of-result c = holds_empty c.in_ok-arena.root c.in_ok-arena.arena c.in_ok-arena.ensures.0 c.in_ok-arena.ensures.1

pub returns : goal.returns
returns c = value_empty c.in_ok-arena.root c.in_ok-arena.arena.places c.in_ok-arena.ensures.1
