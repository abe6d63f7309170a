use Rattle.palm_arena.specs.Reads.{map_of}
use Rattle.palm_tree.specs.TreeValue.{tree_in}
use Rattle.palm_batch.specs.Passing.{parts_at}
use Rattle.palm_batch.proofs.PassedTrees.{tree_there, pass_of, pass_in, pass_routed, leaves_done}
use Rattle.palm_batch.proofs.stage_tests.staged.Goals as goal

pub route-requires-clause-tree : goal.route-requires-clause-tree
route-requires-clause-tree g c κs within = tree_there (tree_in c.args.tree) (map_of c.begun-arena.result.0.places) c.begun-arena.result.1 c.begun-arena.ensures.tree

pub change_leaves-requires-clause-pass : goal.change_leaves-requires-clause-pass
change_leaves-requires-clause-pass g c κs within =
    let nodes = map_of c.begun-arena.result.0.places in
    let shape = c.begun-arena.result.1 in
    let tree = tree_in c.args.tree in
    let over = pass_of tree c.args.batch.now nodes shape c.begun-arena.ensures.tree c.in_ok-groups.ensures.prefixes in
    (pass_in tree c.args.batch.now nodes shape over, parts_at nodes shape c.args.batch.now, over.begins, pass_routed tree c.args.batch.now nodes shape c.in_ok-groups.groups over c.in_ok-groups.ensures.groups)

pub change_levels-requires-clause-stands : goal.change_levels-requires-clause-stands
change_levels-requires-clause-stands g c κs within =
    let nodes = map_of c.begun-arena.result.0.places in
    let shape = c.begun-arena.result.1 in
    let tree = tree_in c.args.tree in
    let over = pass_of tree c.args.batch.now nodes shape c.begun-arena.ensures.tree c.in_ok-groups.ensures.prefixes in
    (pass_in tree c.args.batch.now nodes shape over, over.begins.levels, leaves_done tree c.args.batch.now nodes (map_of c.change_leaves.new.arena.places) shape c.in_ok-groups.groups c.in_ok-answers.field-0.changes over c.in_ok-groups.ensures.groups c.in_ok-answers.ensures.stands)
