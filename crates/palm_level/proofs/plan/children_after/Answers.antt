use Rattle.std.proofs.Common.{arith}
use Rattle.palm_level.proofs.RunFronts.{room_fits}
use Rattle.palm_level.proofs.plan.children_after.Goals as goal

pub splice-requires-clause-room : goal.splice-requires-clause-room
splice-requires-clause-room c =
    let fits = room_fits c.args.inner.now c.args.changes.now c.in_ok-most.most c.requires.inner c.requires.places c.in_ok-most.ensures in
    let room = c.in_ok-children.ensures.capacity in
    let few = fits.0 in
    omega (arith, few, room)
