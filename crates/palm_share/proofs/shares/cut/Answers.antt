use Rattle.std.proofs.Common.{◌≡◌, ℕ, suc, ◌+◌, ◌-◌, ◌/◌, ◌≤◌, ◌++◌, length, List, subst, sym, ap, ◌∙◌, arith}
use Rattle.std.proofs.lemmas.Grind.{common_steps}
use Rattle.palm_share.proofs.EvenShares.{AreLeft, Goes, share_goes}
use Rattle.palm_share.proofs.shares.cut.Goals as goal

pub loop-left-preserved : goal.loop-left-preserved
loop-left-preserved g c =
    let loop = c.loop-left in
    let each = length c.args.items.now / c.args.count in
    let one : suc (loop.left - 1) ≡ loop.left = omega (arith, c.loop-left-test.true) in
    let next = share_goes each (loop.left - 1) (length loop.rest.now) (subst (λ n. AreLeft each n (length loop.rest.now)) (sym one) loop.invariant.left) in
    let own : Goes each (loop.left - 1) (length loop.rest.now) (length loop.rest.now / loop.left) = subst (λ n. Goes each (loop.left - 1) (length loop.rest.now) (length loop.rest.now / n)) one next in
    let behind : length c.split_at.result.1.now ≡ length loop.rest.now - length loop.rest.now / loop.left = omega (arith, c.split_at.ensures.back_len) in
    record {
      some = omega (arith, c.loop-left-test.true);
      few = omega (arith, loop.invariant.few);
      count = grind (arith, common_steps);
      whole = grind (arith, common_steps);
      least = grind (arith, common_steps);
      most = grind (arith, common_steps);
      left = subst (AreLeft each (loop.left - 1)) (sym behind) own.left;
    }
