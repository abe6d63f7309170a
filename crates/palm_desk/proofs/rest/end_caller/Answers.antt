use Rattle.std.proofs.Common.{◌+◌, ◌<◌, sym, ap, ◌∙◌, subst, arith}
use Rattle.palm_desk.specs.Joining.{IsSettled}
use Rattle.palm_desk.specs.Seats.{DeskState, CallerState}
use Rattle.palm_desk.proofs.Submitting.{in_words}
use Rattle.palm_desk.proofs.Settling.{settle_ok, on_settle, now_settled}
use Rattle.palm_desk.proofs.rest.end_caller.Goals as goal

pub load-requires : goal.load-requires
load-requires c =
    let r = c.caller.invariant in let i = c.loop.invariant in let wd = in_words _ _ _ _ _ _ _ _ r in
    let own = i.table ∙ ap (λ (d : DeskState). d.table) (ap (λ (v : CallerState). v.desk) c.caller.view_is ∙ c.requires ∙ sym c.desk.view_is) in
    (own, subst (λ t. 0 < t.words) (sym i.table ∙ own) (omega arith), settle_ok _ _ _ _ _ _ _ _ r _ _ _ c.loop.seat.me i.back c.loop.counter i.view i.turn c.loop-test.true i.holds)

pub loop-preserved : goal.loop-preserved
loop-preserved c =
    let r = c.caller.invariant in let i = c.loop.invariant in
    let n = on_settle _ _ _ _ _ _ _ _ r c.loop.seat.me c.load.new.seat.me i.back c.loop.counter i.view i.turn c.loop-test.true i.holds c.load.ensures.2 in
    record { table = c.load.ensures.0 ∙ i.table; back = c.loop.counter + 1; view = n.0; turn = n.1; holds = n.2 }

pub returns-clause-settled : goal.returns-clause-settled
returns-clause-settled c =
    let r = c.caller.invariant in let i = c.loop.invariant in
    subst (λ s. IsSettled s c.loop.seat.me.0) c.caller.view_is (now_settled _ _ _ _ _ _ _ _ r c.caller.inside.seat.table_id c.loop.seat.me i.back i.view)
