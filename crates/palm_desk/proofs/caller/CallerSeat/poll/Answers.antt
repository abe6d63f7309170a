use Rattle.std.proofs.Common.{◌+◌, ◌*◌, ◌%◌, ◌<◌, sym, refl, ap, ◌∙◌, subst, arith}
use Rattle.palm_desk.specs.Holding.{CallerIsReady}
use Rattle.palm_desk.specs.CallerCalls.{Polled}
use Rattle.palm_desk.specs.Seats.{DeskState, CallerState, caller_state}
use Rattle.palm_desk.specs.declared.caller.Poll.TheVariants.{Pending, Ready}
use Rattle.palm_desk.proofs.Polling.{on_look, look_ok, oldest, collect_ok, on_collect, in_cell, out, on_exchange, told_pending, told_ready}
use Rattle.palm_desk.proofs.caller.CallerSeat.poll.Goals as goal

pub load-front-requires : goal.load-front-requires
load-front-requires c = let s = c.self.inside.seat in let t = c.self.inside in let r = c.self.invariant in
    let own = ap (λ (d : DeskState). d.table) (ap (λ (v : CallerState). v.desk) c.self.view_is ∙ c.requires ∙ sym c.desk.view_is) in
    let wd = in_cell _ _ _ _ _ _ _ _ r in
    (own, subst (λ z. 1 < z.words) own (omega arith), look_ok _ _ _ _ _ _ _ _ r _ _ _)

pub returns-then-front-number : goal.returns-then-front-number
returns-then-front-number c =
    let s = c.self.inside.seat in let t = c.self.inside in let r = c.self.invariant in let le = r.got_le in
    let o = oldest _ _ _ _ _ _ _ _ r c.index-number.result.now c.if-self.false c.index-number.ensures in
    subst (λ v. Polled v (caller_state c.load-front.new.seat.table_id c.load-front.new.seat.me.0) Pending) c.self.view_is
    (told_pending _ _ s.me.0 c.load-front.new.seat.me.0 _ _ _ c.load-front.ensures.0 o.1 c.if-front-number.true c.load-front.ensures.2.0)

pub swap-requires : goal.swap-requires
swap-requires c =
    let s = c.self.inside.seat in let t = c.self.inside in let r = c.self.invariant in
    let own = ap (λ (d : DeskState). d.table) (ap (λ (v : CallerState). v.desk) c.self.view_is ∙ c.requires ∙ sym c.desk.view_is) in
    let le = r.got_le in
    let o = oldest _ _ _ _ _ _ _ _ r c.index-number.result.now c.if-self.false c.index-number.ensures in
    let e1 = on_look s.me c.load-front.new.seat.me c.load-front.result c.load-front.ensures.2 in
    let wd = in_cell _ _ _ _ _ _ _ _ r in (
      c.load-front.ensures.0 ∙ own,
      subst (λ z. 4 * (t.caller * t.window + t.got % t.window) + 2 < z.words) own (omega arith),
      collect_ok _ _ _ _ _ _ _ _ r _ _ _ c.load-front.new.seat.me c.load-front.result _ c.index-number.result.now o.0 e1 o.1 c.if-front-number.false refl,
    )

pub exchange-found-requires : goal.exchange-found-requires
exchange-found-requires c =
    let s = c.self.inside.seat in let t = c.self.inside in let r = c.self.invariant in
    let own = ap (λ (d : DeskState). d.table) (ap (λ (v : CallerState). v.desk) c.self.view_is ∙ c.requires ∙ sym c.desk.view_is) in
    let le = r.got_le in
    let o = oldest _ _ _ _ _ _ _ _ r c.index-number.result.now c.if-self.false c.index-number.ensures in
    let e1 = on_look s.me c.load-front.new.seat.me c.load-front.result c.load-front.ensures.2 in
    let e2 = on_collect _ _ _ _ _ _ _ _ r c.load-front.new.seat.me c.swap.new.seat.me c.load-front.result c.swap.result _ c.index-number.result.now o.0 e1 o.1 refl c.swap.ensures.2 in
    (c.swap.ensures.0 ∙ c.load-front.ensures.0 ∙ own, out _ _ _ _ _ _ _ _ r c.swap.new.seat.me c.load-front.result c.index-number.result.now e2.0 e2.1)

pub invariant_of-self-2 : goal.invariant_of-self-2
invariant_of-self-2 c =
    let s = c.self.inside.seat in let t = c.self.inside in let r = c.self.invariant in
    let own = ap (λ (d : DeskState). d.table) (ap (λ (v : CallerState). v.desk) c.self.view_is ∙ c.requires ∙ sym c.desk.view_is) in
    let le = r.got_le in
    let o = oldest _ _ _ _ _ _ _ _ r c.index-number.result.now c.if-self.false c.index-number.ensures in
    let e1 = on_look s.me c.load-front.new.seat.me c.load-front.result c.load-front.ensures.2 in
    let e2 = on_collect _ _ _ _ _ _ _ _ r c.load-front.new.seat.me c.swap.new.seat.me c.load-front.result c.swap.result _ c.index-number.result.now o.0 e1 o.1 refl c.swap.ensures.2 in
    let e3 = on_exchange _ _ _ _ _ _ _ _ r c.swap.new.seat.me c.exchange-found.new.seat.me c.turn.new.self.me c.load-front.result c.index-number.result.now e2.0 c.exchange-found.result (let ne = c.if-self.false in omega arith) e2.1 c.exchange-found.ensures.2 c.exchange-found.ensures.3 c.turn.ensures.2 in
    subst (λ z. CallerIsReady z.words c.turn.new.self.me t.caller t.window t.quota t.made (t.got + 1) t.numbers.items) (sym (c.turn.ensures.0 ∙ c.exchange-found.ensures.0 ∙ c.swap.ensures.0 ∙ c.load-front.ensures.0)) e3.2

pub returns : goal.returns
returns c =
    let s = c.self.inside.seat in let t = c.self.inside in let r = c.self.invariant in
    let own = ap (λ (d : DeskState). d.table) (ap (λ (v : CallerState). v.desk) c.self.view_is ∙ c.requires ∙ sym c.desk.view_is) in
    let le = r.got_le in
    let o = oldest _ _ _ _ _ _ _ _ r c.index-number.result.now c.if-self.false c.index-number.ensures in
    let e1 = on_look s.me c.load-front.new.seat.me c.load-front.result c.load-front.ensures.2 in
    let e2 = on_collect _ _ _ _ _ _ _ _ r c.load-front.new.seat.me c.swap.new.seat.me c.load-front.result c.swap.result _ c.index-number.result.now o.0 e1 o.1 refl c.swap.ensures.2 in
    let e3 = on_exchange _ _ _ _ _ _ _ _ r c.swap.new.seat.me c.exchange-found.new.seat.me c.turn.new.self.me c.load-front.result c.index-number.result.now e2.0 c.exchange-found.result (let ne = c.if-self.false in omega arith) e2.1 c.exchange-found.ensures.2 c.exchange-found.ensures.3 c.turn.ensures.2 in
    subst (λ v. Polled v (caller_state c.turn.new.self.table_id c.turn.new.self.me.0) (Ready c.in-Some.answered.number c.in-Some.answered.reply)) c.self.view_is
    (told_ready _ _ s.me.0 c.turn.new.self.me.0 c.load-front.result _ _ _ _ _ _
    (c.turn.ensures.0 ∙ c.exchange-found.ensures.0 ∙ c.swap.ensures.0 ∙ c.load-front.ensures.0) e3.0 c.in-Some.is o.1 c.if-front-number.false e3.1)
