use Rattle.std.proofs.Common.{◌≡◌, ◌+◌, ◌*◌, None, [], ◌∷◌, ◌++◌, length, replicate, sym, ap, ◌∙◌, subst, arith}
use Rattle.atomic_table.specs.Table.{opening}
use Rattle.palm_desk.specs.Holding.{DriverIsReady}
use Rattle.palm_desk.specs.Opened.{terms_with, AreNewCallers}
use Rattle.palm_desk.specs.Rule.{IsRuled, Holder}
use Rattle.palm_desk.specs.Seats.{caller_state}
use Rattle.palm_desk.specs.Views.{maker, seated, newcomer}
use Rattle.palm_desk.proofs.Opening.{made, opens, newcomers, driver_new}
use Rattle.palm_desk.proofs.open.open_desk.Goals as goal

pub vacant-requires : goal.vacant-requires
vacant-requires c = let a = c.args in let r = c.requires in
    subst (λ fs. IsRuled (terms_with a.base fs a.window a.quota) (opening c.as_slice.result.now (replicate (length a.firsts.now * a.window) None) (maker (terms_with a.base fs a.window a.quota)))) (sym (c.from_vec.ensures ∙ c.in_ok-copied.ensures))
    (opens a.base a.window a.quota a.firsts.now c.as_slice.result.now r.callers.0 r.callers.1 r.places.0 r.window.0 r.window.1 r.quota.1 (c.as_slice.ensures.value ∙ c.in_ok-words.ensures))

pub loop-caller-preserved : goal.loop-caller-preserved
loop-caller-preserved c = let i = c.loop-caller.invariant in let a = c.args in let n = c.caller_seat.ensures.table in let o = c.in_ok-new.ensures.ok in
    let k = terms_with a.base a.firsts.now a.window a.quota in
    let items : c.push.new.self.items ≡ c.loop-caller.seats.items ++ c.in_ok-new.new ∷ [] = c.in_ok-push.ensures.items in
    record {
      table = n ∙ i.table;
      words = ap (λ t. t.words) n ∙ i.words;
      view = ap (λ (m : Holder). m.0) o.1 ∙ ap seated i.view;
      held = ap (λ (m : Holder). m.1) o.1 ∙ i.held;
      new = subst (AreNewCallers _ (c.loop-caller.caller + 1)) (sym items) (newcomers _ k c.loop-caller.caller c.loop-caller.seats.items c.in_ok-new.new (o.0 ∙ (λ t. caller_state (i.table t) (newcomer (i.view t)))) i.new);
    }

pub invariant_of-driver : goal.invariant_of-driver
invariant_of-driver c = let i = c.loop-caller.invariant in let a = c.args in let r = c.requires in
    let all : c.loop-caller.caller ≡ length a.firsts.now = omega arith in (
      subst (λ fs. DriverIsReady c.loop-caller.seat.table_id.words c.loop-caller.seat.me a.base a.window (length a.firsts.now) 0 0 fs c.in_ok-counts.counts.items c.in_ok-order.order.items) (sym c.in_ok-firsts.ensures)
          (driver_new c.loop-caller.seat.table_id.words c.loop-caller.seat.me a.base a.window a.quota a.firsts.now c.in_ok-counts.counts.items c.in_ok-order.order.items (i.view ∙ ap (made (terms_with a.base a.firsts.now a.window a.quota)) all) i.held i.words r.callers.0 r.callers.1 r.places.1 r.places.0 r.window.0 r.window.1 r.quota.1 c.in_ok-counts.ensures c.in_ok-order.ensures),
      c.in_ok-left.ensures,
    )
