use Rattle.std.proofs.Common.{length, ap, arith, ◌∙◌}
use Rattle.std.proofs.lemmas.Iterator.Adapters.{YieldsList-from_vec}
use Rattle.std.proofs.lemmas.Iterator.Consumers.{YieldsList-so_far, YieldsList-turn}
use Rattle.palm_route.specs.Shares.{routed_of}
use Rattle.palm_route.proofs.CutShares.{next_fits}
use Rattle.palm_route.proofs.descent.append_all.Goals as goal

pub unreachable-requires-in_default-append : goal.unreachable-requires-in_default-append
unreachable-requires-in_default-append c =
    let loop = c.loop-work in
    let gives = c.into_iter-work-iterator.ensures.into_iter_gives in
    let chain = YieldsList-from_vec {s = c.into_iter-work-iterator.result} c.args.works.items gives.0 (gives.1 ∙ c.args.works.ok.0) in
    let turn = YieldsList-turn chain loop.yielded loop.work-iterator loop.yielded_by c.next.result c.next.new.self c.in-Some.work c.in-Some.is c.next.ensures.steps in
    let fits = next_fits routed_of c.args.works.items loop.yielded c.in-Some.work (YieldsList-so_far chain loop.yielded loop.work-iterator loop.yielded_by) turn.0 turn.1 in
    omega (
      arith,
      fits,
      ap (λ work. length (routed_of work)) c.in-Some-work.is,
      loop.invariant.room,
      ap length loop.invariant.joined,
      loop.routed.ok.0,
      c.in-Some-work.work.routed.ok.0,
      c.in_default-append.ensures.full,
    )
