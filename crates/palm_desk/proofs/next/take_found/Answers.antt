use Rattle.std.proofs.Common.{◌+◌, ◌*◌, ◌<◌, [], ◌∷◌, sym, refl, ap, ◌∙◌, subst, arith}
use Rattle.palm_desk.specs.Seats.{DeskState}
use Rattle.palm_desk.proofs.Nexting.{at_none, on_read, read_ok, take_ok, on_take, read_call}
use Rattle.palm_desk.proofs.next.take_found.Goals as goal

pub load-first-requires : goal.load-first-requires
load-first-requires c =
    let s = c.args.seat.now in let r = c.requires in let own = r.table ∙ sym (ap (λ (d : DeskState). d.table) c.desk.view_is) in let w = r.words in
    let e0 = at_none s.me r.found.1 in
    (own, subst (λ t. 4 * c.args.at + 3 < t.words) own (omega arith), read_ok _ _ _ s.me s.me ([]) _ c.args.caller c.args.at r.view.0 r.found.0 r.view.1 (omega arith) (omega arith) e0)

pub load-second-requires : goal.load-second-requires
load-second-requires c =
    let s = c.args.seat.now in let r = c.requires in let own = r.table ∙ sym (ap (λ (d : DeskState). d.table) c.desk.view_is) in let w = r.words in
    let e0 = at_none s.me r.found.1 in
    let e1 = on_read s.me s.me c.load-first.new.seat.me ([]) c.load-first.result e0 c.load-first.ensures.2 in
    (c.load-first.ensures.0 ∙ own, subst (λ t. 4 * c.args.at + 4 < t.words) own (omega arith), read_ok _ _ _ s.me c.load-first.new.seat.me (c.load-first.result ∷ []) _ c.args.caller c.args.at r.view.0 r.found.0 r.view.1 (omega arith) (omega arith) e1)

pub load-third-requires : goal.load-third-requires
load-third-requires c =
    let s = c.args.seat.now in let r = c.requires in let own = r.table ∙ sym (ap (λ (d : DeskState). d.table) c.desk.view_is) in let w = r.words in
    let e0 = at_none s.me r.found.1 in
    let e1 = on_read s.me s.me c.load-first.new.seat.me ([]) c.load-first.result e0 c.load-first.ensures.2 in
    let e2 = on_read s.me c.load-first.new.seat.me c.load-second.new.seat.me (c.load-first.result ∷ []) c.load-second.result e1 c.load-second.ensures.2 in
    (c.load-second.ensures.0 ∙ c.load-first.ensures.0 ∙ own, subst (λ t. 4 * c.args.at + 5 < t.words) own (omega arith), read_ok _ _ _ s.me c.load-second.new.seat.me (c.load-first.result ∷ c.load-second.result ∷ []) _ c.args.caller c.args.at r.view.0 r.found.0 r.view.1 (omega arith) (omega arith) e2)

pub swap-requires : goal.swap-requires
swap-requires c =
    let s = c.args.seat.now in let r = c.requires in let own = r.table ∙ sym (ap (λ (d : DeskState). d.table) c.desk.view_is) in let w = r.words in
    let e0 = at_none s.me r.found.1 in
    let e1 = on_read s.me s.me c.load-first.new.seat.me ([]) c.load-first.result e0 c.load-first.ensures.2 in
    let e2 = on_read s.me c.load-first.new.seat.me c.load-second.new.seat.me (c.load-first.result ∷ []) c.load-second.result e1 c.load-second.ensures.2 in
    let e3 = on_read s.me c.load-second.new.seat.me c.load-third.new.seat.me (c.load-first.result ∷ c.load-second.result ∷ []) c.load-third.result e2 c.load-third.ensures.2 in (
      c.load-third.ensures.0 ∙ c.load-second.ensures.0 ∙ c.load-first.ensures.0 ∙ own,
      subst (λ t. 4 * c.args.at + 2 < t.words) own (omega arith),
      take_ok _ _ _ s.me c.load-third.new.seat.me _ _ _ _ _ c.args.caller c.args.at c.args.number r.view.0 r.found.0 r.view.1 r.view.2 refl refl e3,
    )

pub call_of-requires : goal.call_of-requires
call_of-requires c =
    let s = c.args.seat.now in let r = c.requires in
    let e0 = at_none s.me r.found.1 in
    let e1 = on_read s.me s.me c.load-first.new.seat.me ([]) c.load-first.result e0 c.load-first.ensures.2 in
    let e2 = on_read s.me c.load-first.new.seat.me c.load-second.new.seat.me (c.load-first.result ∷ []) c.load-second.result e1 c.load-second.ensures.2 in
    let e3 = on_read s.me c.load-second.new.seat.me c.load-third.new.seat.me (c.load-first.result ∷ c.load-second.result ∷ []) c.load-third.result e2 c.load-third.ensures.2 in
    read_call s.me c.load-third.new.seat.me c.swap.new.seat.me _ _ _ c.swap.result c.args.at e3 c.swap.ensures.2

pub returns-clause-took : goal.returns-clause-took
returns-clause-took c =
    let s = c.args.seat.now in let r = c.requires in
    let e0 = at_none s.me r.found.1 in
    let e1 = on_read s.me s.me c.load-first.new.seat.me ([]) c.load-first.result e0 c.load-first.ensures.2 in
    let e2 = on_read s.me c.load-first.new.seat.me c.load-second.new.seat.me (c.load-first.result ∷ []) c.load-second.result e1 c.load-second.ensures.2 in
    let e3 = on_read s.me c.load-second.new.seat.me c.load-third.new.seat.me (c.load-first.result ∷ c.load-second.result ∷ []) c.load-third.result e2 c.load-third.ensures.2 in
    (on_take s.me c.load-third.new.seat.me c.swap.new.seat.me c.turn.new.self.me _ _ _ c.swap.result c.args.caller c.args.at c.call_of.result r.found.0 e3 c.swap.ensures.2 c.turn.ensures.2 c.call_of.ensures).0

pub returns-clause-slots : goal.returns-clause-slots
returns-clause-slots c =
    let s = c.args.seat.now in let r = c.requires in
    let e0 = at_none s.me r.found.1 in
    let e1 = on_read s.me s.me c.load-first.new.seat.me ([]) c.load-first.result e0 c.load-first.ensures.2 in
    let e2 = on_read s.me c.load-first.new.seat.me c.load-second.new.seat.me (c.load-first.result ∷ []) c.load-second.result e1 c.load-second.ensures.2 in
    let e3 = on_read s.me c.load-second.new.seat.me c.load-third.new.seat.me (c.load-first.result ∷ c.load-second.result ∷ []) c.load-third.result e2 c.load-third.ensures.2 in
    (on_take s.me c.load-third.new.seat.me c.swap.new.seat.me c.turn.new.self.me _ _ _ c.swap.result c.args.caller c.args.at c.call_of.result r.found.0 e3 c.swap.ensures.2 c.turn.ensures.2 c.call_of.ensures).1
