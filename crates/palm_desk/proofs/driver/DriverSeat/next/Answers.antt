use Rattle.std.proofs.Common.{◌+◌, ◌*◌, ◌%◌, ◌<◌, sym, refl, ◌∙◌, subst, arith, slice_set}
use Rattle.palm_desk.specs.Holding.{DriverIsReady}
use Rattle.palm_desk.proofs.Nexting.{count_is, taken_one, in_quota}
use Rattle.palm_desk.proofs.driver.DriverSeat.next.Goals as goal

pub invariant_of-self-2 : goal.invariant_of-self-2
invariant_of-self-2 c =
    let s = c.self.inside in let r = c.self.invariant.0 in let many = r.many in
    let f = c.in_ok-caller.ensures.found in
    let lt : c.in_ok-caller.caller < s.callers = (let g = f.0 in omega arith) in
    let n = count_is _ _ _ _ _ _ _ _ _ _ r c.in_ok-caller.caller c.index-count.result.now lt c.index-count.ensures in
    let one = taken_one _ _ _ _ _ _ _ _ _ _ r c.find_next.new.seat.me c.take_found-call.new.seat.me f.1.0 c.in_ok-caller.caller _ _ c.take_found-call.result
    (λ t. (f.1.1 t, c.in_ok-caller.ensures.slots t)) c.take_found-call.ensures.took c.take_found-call.ensures.slots lt n.0 refl in (
      subst (λ z. DriverIsReady z.words c.take_found-call.new.seat.me s.base s.window s.callers (s.taken + 1) s.answered s.firsts.items (slice_set s.counts.items c.in_ok-caller.caller (c.index-count.result.now + 1)) (slice_set s.order.items (s.taken % (s.callers * s.window)) (c.in_ok-caller.caller * s.window + c.index-count.result.now % s.window)))
          (sym (c.take_found-call.ensures.table ∙ c.in_ok-caller.ensures.table)) one,
      c.self.invariant.1,
    )

pub returns-clause-quota : goal.returns-clause-quota
returns-clause-quota c = in_quota _ _ _ _ _ _ _ _ _ _ ((invariant_of-self-2 c).0)
