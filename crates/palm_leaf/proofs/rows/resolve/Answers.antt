use Rattle.std.proofs.Common.{◌≤◌, ◌<◌, ◌+◌, length, map, vec_len, arith}
use Rattle.palm_leaf.specs.Asked.{set_count, part_of, IsOpen}
use Rattle.palm_leaf.proofs.Opened.{open_fewer, at_rest}
use Rattle.palm_leaf.proofs.rows.resolve.Goals as goal

pub resolve-requires-clause-open : goal.resolve-requires-clause-open
resolve-requires-clause-open c =
    let far = c.loop-one.invariant in
    let most = vec_len c.args.rows.now + set_count (map part_of c.args.asked.now) in
    let few : length c.loop-one.rows.items ≤ most = omega (arith, far.few, c.loop-one.rows.ok) in
    let inside : c.loop-one.one-index < length c.loop-one.asked = omega (arith, c.loop-one-test.true, far.same) in
    open_fewer _ most _ few (at_rest (IsOpen most) c.loop-one.asked c.args.asked.now c.loop-one.one-index c.one-item.result c.requires.open far.rest inside)
