use Rattle.std.proofs.Common.{arith}
use Rattle.palm_level.proofs.RunFronts.{room_fits}
use Rattle.palm_level.proofs.plan.make_room.Goals as goal

pub returns : goal.returns
returns c =
    let fits = room_fits c.args.inner.now c.args.changes.now c.in_ok-most.most c.requires.inner c.requires.places c.in_ok-most.ensures in
    let children = c.in_ok-with_capacity.ensures.capacity in
    let later = c.in_ok-with_capacity-2.ensures.capacity in
    let few = fits.0 in
    let parts = fits.1 in
    record {
      no-children = c.in_ok-with_capacity.ensures.items;
      no-later = c.in_ok-with_capacity-2.ensures.items;
      children-room = omega (arith, few, children);
      later-room = omega (arith, parts, later, c.pieces.ensures);
    }
