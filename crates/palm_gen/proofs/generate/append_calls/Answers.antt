use Rattle.std.proofs.Common.{◌+◌, ◌/◌, ◌<◌, arith}
use Rattle.palm_gen.proofs.Histories.{one_more, same_end}
use Rattle.palm_gen.proofs.generate.append_calls.Goals as goal

pub loop-made-preserved : goal.loop-made-preserved
loop-made-preserved c = record {
  made = one_more _ _ _ c.args.count c.loop-made.made c.loop-made.latest c.args.i _ _ inside (λ j. record { caller = c.gen_call-call.ensures.caller j; place = (c.args.i + c.loop-made.made) / 4; call = c.gen_call-call.ensures.call j }) c.gen_call-call.ensures.state c.push_reserved.ensures.items c.loop-made.invariant.made;
  state = same_end c.args.count c.loop-made.made c.loop-made.latest (c.args.i + c.loop-made.made) _ _ inside c.gen_call-call.ensures.state c.loop-made.invariant.state;
  room = omega (arith, c.push_reserved.ensures.len, c.push_reserved.ensures.capacity, c.loop-made.invariant.room, inside);
}
  where
    inside : c.loop-made.made < c.args.count
    inside = omega (arith, c.loop-made-test.true)
