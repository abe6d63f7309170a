use Rattle.std.proofs.Common.{length, ap, arith, ◌∙◌}
use Rattle.std.specs.List.{flat_map}
use Rattle.palm_arena.specs.Reads.{map_of}
use Rattle.palm_leaf.specs.Answers.{answers_in, rows_at}
use Rattle.palm_leaf.specs.Routed.{parts_in}
use Rattle.palm_batch.specs.Passing.{parts_at}
use Rattle.palm_batch.proofs.PassedTrees.{tree_there, pass_of, pass_in, pass_routed, leaves_done, levels_done, removed_there, tree_passed, orphans_passed, some_levels, few_parts, pass_ticks}
use Rattle.palm_batch.proofs.pass.run_pass.Goals as goal

pub route-requires-clause-tree : goal.route-requires-clause-tree
route-requires-clause-tree g c κs within = tree_there c.requires.tree.0 (map_of c.args.arena.now.places) c.args.shape c.requires.tree.1

pub change_leaves-requires-clause-pass : goal.change_leaves-requires-clause-pass
change_leaves-requires-clause-pass g c κs within =
    let nodes = map_of c.args.arena.now.places in
    let tree = c.requires.tree.0 in
    let over = pass_of tree c.args.batch.now nodes c.args.shape c.requires.tree.1 c.in_ok-groups.ensures.prefixes in
    (pass_in tree c.args.batch.now nodes c.args.shape over, parts_at nodes c.args.shape c.args.batch.now, over.begins, pass_routed tree c.args.batch.now nodes c.args.shape c.in_ok-groups.groups over c.in_ok-groups.ensures.groups)

pub returns-in_err-answers-clause-ticks : goal.returns-in_err-answers-clause-ticks
returns-in_err-answers-clause-ticks g c =
    let nodes = map_of c.args.arena.now.places in
    pass_ticks (parts_in c.in_ok-groups.groups) (length (parts_at nodes c.args.shape c.args.batch.now)) c.args.shape.levels c.args.steps.now c.change_leaves.new.steps c.change_leaves.new.steps c.change_leaves.new.steps
    (few_parts nodes c.args.shape c.args.batch.now c.in_ok-groups.groups c.in_ok-groups.ensures.groups) (some_levels c.requires.tree.0 nodes c.args.shape c.requires.tree.1) c.change_leaves.ensures.ticks (omega arith) (omega arith)

pub change_levels-requires-clause-stands : goal.change_levels-requires-clause-stands
change_levels-requires-clause-stands g c κs within =
    let nodes = map_of c.args.arena.now.places in
    let tree = c.requires.tree.0 in
    let over = pass_of tree c.args.batch.now nodes c.args.shape c.requires.tree.1 c.in_ok-groups.ensures.prefixes in
    (pass_in tree c.args.batch.now nodes c.args.shape over, over.begins.levels, leaves_done tree c.args.batch.now nodes (map_of c.change_leaves.new.arena.places) c.args.shape c.in_ok-groups.groups c.in_ok-answers.field-0.changes over c.in_ok-groups.ensures.groups c.in_ok-answers.ensures.stands)

pub returns-in_err-changes-clause-ticks : goal.returns-in_err-changes-clause-ticks
returns-in_err-changes-clause-ticks g c =
    let nodes = map_of c.args.arena.now.places in
    pass_ticks (parts_in c.in_ok-groups.groups) (length (parts_at nodes c.args.shape c.args.batch.now)) c.args.shape.levels c.args.steps.now c.change_leaves.new.steps c.change_levels.new.steps c.change_levels.new.steps
    (few_parts nodes c.args.shape c.args.batch.now c.in_ok-groups.groups c.in_ok-groups.ensures.groups) (some_levels c.requires.tree.0 nodes c.args.shape c.requires.tree.1) c.change_leaves.ensures.ticks
    (c.change_levels.ensures.ticks (parts_in c.in_ok-groups.groups) c.in_ok-answers.ensures.within) (omega arith)

pub repair-requires-clause-stands : goal.repair-requires-clause-stands
repair-requires-clause-stands g c =
    let nodes = map_of c.args.arena.now.places in
    let tree = c.requires.tree.0 in
    let over = pass_of tree c.args.batch.now nodes c.args.shape c.requires.tree.1 c.in_ok-groups.ensures.prefixes in
    (pass_in tree c.args.batch.now nodes c.args.shape over, levels_done tree c.args.batch.now nodes (map_of c.change_leaves.new.arena.places) (map_of c.change_levels.new.arena.places) c.args.shape c.in_ok-groups.groups c.in_ok-answers.field-0.changes c.in_ok-changes.changes over c.in_ok-groups.ensures.groups c.in_ok-answers.ensures.stands c.in_ok-changes.ensures.stands)

pub returns-in_err-shape-clause-ticks : goal.returns-in_err-shape-clause-ticks
returns-in_err-shape-clause-ticks g c =
    let nodes = map_of c.args.arena.now.places in
    let few = parts_in c.in_ok-groups.groups in
    pass_ticks few (length (parts_at nodes c.args.shape c.args.batch.now)) c.args.shape.levels c.args.steps.now c.change_leaves.new.steps c.change_levels.new.steps c.repair.new.steps
    (few_parts nodes c.args.shape c.args.batch.now c.in_ok-groups.groups c.in_ok-groups.ensures.groups) (some_levels c.requires.tree.0 nodes c.args.shape c.requires.tree.1) c.change_leaves.ensures.ticks
    (c.change_levels.ensures.ticks few c.in_ok-answers.ensures.within) (c.repair.ensures.ticks few (c.in_ok-changes.ensures.within few c.in_ok-answers.ensures.within))

pub orphans-requires-clause-removed : goal.orphans-requires-clause-removed
orphans-requires-clause-removed g c =
    let nodes = map_of c.args.arena.now.places in
    let tree = c.requires.tree.0 in
    let over = pass_of tree c.args.batch.now nodes c.args.shape c.requires.tree.1 c.in_ok-groups.ensures.prefixes in
    let p = pass_in tree c.args.batch.now nodes c.args.shape over in
    let repaired = c.in_ok-shape.ensures.repaired p (levels_done tree c.args.batch.now nodes (map_of c.change_leaves.new.arena.places) (map_of c.change_levels.new.arena.places) c.args.shape c.in_ok-groups.groups c.in_ok-answers.field-0.changes c.in_ok-changes.changes over c.in_ok-groups.ensures.groups c.in_ok-answers.ensures.stands c.in_ok-changes.ensures.stands) in
    (_, _, removed_there p (map_of c.repair.new.arena.places) c.in_ok-changes.changes c.in_ok-shape.shape repaired)

pub returns-in_err-orphans-clause-ticks : goal.returns-in_err-orphans-clause-ticks
returns-in_err-orphans-clause-ticks g c =
    let nodes = map_of c.args.arena.now.places in
    let few = parts_in c.in_ok-groups.groups in
    pass_ticks few (length (parts_at nodes c.args.shape c.args.batch.now)) c.args.shape.levels c.args.steps.now c.change_leaves.new.steps c.change_levels.new.steps c.repair.new.steps
    (few_parts nodes c.args.shape c.args.batch.now c.in_ok-groups.groups c.in_ok-groups.ensures.groups) (some_levels c.requires.tree.0 nodes c.args.shape c.requires.tree.1) c.change_leaves.ensures.ticks
    (c.change_levels.ensures.ticks few c.in_ok-answers.ensures.within) (c.repair.ensures.ticks few (c.in_ok-changes.ensures.within few c.in_ok-answers.ensures.within))

pub returns-clause-tree : goal.returns-clause-tree
returns-clause-tree g c = λ tree is.
    let nodes = map_of c.args.arena.now.places in
    let over = pass_of tree c.args.batch.now nodes c.args.shape is c.in_ok-groups.ensures.prefixes in
    let p = pass_in tree c.args.batch.now nodes c.args.shape over in
    let repaired = c.in_ok-shape.ensures.repaired p (levels_done tree c.args.batch.now nodes (map_of c.change_leaves.new.arena.places) (map_of c.change_levels.new.arena.places) c.args.shape c.in_ok-groups.groups c.in_ok-answers.field-0.changes c.in_ok-changes.changes over c.in_ok-groups.ensures.groups c.in_ok-answers.ensures.stands c.in_ok-changes.ensures.stands) in
    tree_passed tree c.args.batch.now nodes (map_of c.repair.new.arena.places) (map_of c.orphans.new.arena.places) c.in_ok-changes.changes c.args.shape c.in_ok-shape.shape over repaired
    (c.in_ok-orphans.ensures.dropped _ _ (removed_there p (map_of c.repair.new.arena.places) c.in_ok-changes.changes c.in_ok-shape.shape repaired))

pub returns-clause-orphans : goal.returns-clause-orphans
returns-clause-orphans g c = λ tree is.
    let nodes = map_of c.args.arena.now.places in
    let over = pass_of tree c.args.batch.now nodes c.args.shape is c.in_ok-groups.ensures.prefixes in
    let p = pass_in tree c.args.batch.now nodes c.args.shape over in
    let repaired = c.in_ok-shape.ensures.repaired p (levels_done tree c.args.batch.now nodes (map_of c.change_leaves.new.arena.places) (map_of c.change_levels.new.arena.places) c.args.shape c.in_ok-groups.groups c.in_ok-answers.field-0.changes c.in_ok-changes.changes over c.in_ok-groups.ensures.groups c.in_ok-answers.ensures.stands c.in_ok-changes.ensures.stands) in
    orphans_passed tree c.args.batch.now nodes c.args.shape c.in_ok-orphans.orphans over
    (c.in_ok-orphans.ensures.rows p _ over.begins.is-pass (removed_there p (map_of c.repair.new.arena.places) c.in_ok-changes.changes c.in_ok-shape.shape repaired))

pub returns-clause-answers : goal.returns-clause-answers
returns-clause-answers g c =
    c.in_ok-answers.ensures.answers ∙ ap (flat_map (λ group. answers_in (rows_at (map_of c.args.arena.now.places) group.leaf) group.parts)) c.in_ok-groups.ensures.groups

pub returns-clause-ticks : goal.returns-clause-ticks
returns-clause-ticks g c =
    let nodes = map_of c.args.arena.now.places in
    let few = parts_in c.in_ok-groups.groups in
    pass_ticks few (length (parts_at nodes c.args.shape c.args.batch.now)) c.args.shape.levels c.args.steps.now c.change_leaves.new.steps c.change_levels.new.steps c.repair.new.steps
    (few_parts nodes c.args.shape c.args.batch.now c.in_ok-groups.groups c.in_ok-groups.ensures.groups) (some_levels c.requires.tree.0 nodes c.args.shape c.requires.tree.1) c.change_leaves.ensures.ticks
    (c.change_levels.ensures.ticks few c.in_ok-answers.ensures.within) (c.repair.ensures.ticks few (c.in_ok-changes.ensures.within few c.in_ok-answers.ensures.within))
