use Rattle.std.proofs.Common.{ap, ◌∙◌}
use Rattle.palm_arena.specs.Leaves.{leaves_at}
use Rattle.palm_arena.specs.Reads.{map_of}
use Rattle.palm_route.specs.Groups.{groups_of}
use Rattle.palm_route.proofs.Descents.{leaves_rise}
use Rattle.palm_batch.proofs.pass.route.Goals as goal

pub returns-clause-groups : goal.returns-clause-groups
returns-clause-groups g c =
    let leaves = leaves_at (map_of c.args.arena.now.places) c.args.shape in
    c.in_ok-groups.ensures leaves (leaves_rise (map_of c.args.arena.now.places) c.args.shape c.requires.tree) c.in_ok-routed.ensures.routed
    ∙ ap (groups_of leaves) (c.in_ok-routed.ensures.parts ∙ c.in_ok-parts.ensures.parts)
