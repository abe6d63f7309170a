use Rattle.std.proofs.Common.{◌+◌, ◌*◌, sym, ap, ◌∙◌, arith}
use Rattle.palm_desk.proofs.Nexting.{scan_more, found_one, found_nowhere}
use Rattle.palm_desk.proofs.next.find_next.Goals as goal

pub returns-then-look-number-clause-found : goal.returns-then-look-number-clause-found
returns-then-look-number-clause-found c =
    let i = c.loop-caller.invariant in let v = c.requires.view in let many = c.requires.counts.0 in
    found_one c.args.seat.now.me.0 c.loop-caller.seat.me.0 c.look.new.seat.me.0 c.loop-caller.caller c.look.result i.view c.requires.fresh.1
    c.look.ensures.view (c.if-look-number.true ∙ ap (λ n. 4 * n + 1) v.1) (omega arith)

pub loop-caller-preserved : goal.loop-caller-preserved
loop-caller-preserved c =
    let i = c.loop-caller.invariant in let v = c.requires.view in let fresh = c.requires.fresh in
    let same = ap (λ n. 4 * n + 1) v.1 in
    let m = scan_more c.args.seat.now.me.0 c.loop-caller.seat.me.0 c.look.new.seat.me.0 c.loop-caller.caller c.look.result i.view fresh.0 fresh.1
    c.look.ensures.view (λ e. c.if-look-number.false (e ∙ sym same)) i.scan in
    record { table = c.look.ensures.table ∙ i.table; view = m.0; slots = c.look.ensures.slots ∙ i.slots; scan = m.1 }

pub returns-clause-nowhere : goal.returns-clause-nowhere
returns-clause-nowhere c =
    let i = c.loop-caller.invariant in let many = c.requires.counts.0 in let small = c.requires.small in
    found_nowhere c.args.seat.now.me.0 c.loop-caller.seat.me.0 c.loop-caller.caller i.view (omega arith) (omega arith) i.scan
