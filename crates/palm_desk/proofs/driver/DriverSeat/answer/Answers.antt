use Rattle.std.proofs.Common.{◌+◌, ◌*◌, ◌<◌, ◌∷◌, length, sym, refl, ap, ◌∙◌, subst, arith, None}
use Rattle.atomic_table.specs.Table.{rest}
use Rattle.palm_desk.specs.Holding.{DriverIsReady}
use Rattle.palm_desk.specs.Seats.{DeskState, DriverState}
use Rattle.palm_desk.proofs.Answering.{front, carried, answer_ok, on_answer, below, some_words}
use Rattle.palm_desk.proofs.driver.DriverSeat.answer.Goals as goal

pub exchange-requires : goal.exchange-requires
exchange-requires c = let s = c.self.inside in let r = c.self.invariant.0 in
    let own = ap (λ (d : DeskState). d.table) (ap (λ (v : DriverState). v.desk) c.self.view_is ∙ c.requires.desk ∙ sym c.desk.view_is) in
    let lt = below _ _ _ _ _ _ _ _ _ _ r (subst (λ (v : DriverState). length v.replies < length v.taken) (sym c.self.view_is) c.requires.some) in
    let f = front _ _ _ _ _ _ _ _ _ _ r c.index-cell.result.now lt c.index-cell.ensures in
    let h = carried _ _ _ _ _ _ _ _ _ _ r lt in
    (own, (None, h ∙ (λ t. (sym f.0 t, None) ∷ rest (sym h t))))

pub overflow_mul-cell : goal.overflow_mul-cell
overflow_mul-cell c = let s = c.self.inside in let r = c.self.invariant.0 in
    let own = ap (λ (d : DeskState). d.table) (ap (λ (v : DriverState). v.desk) c.self.view_is ∙ c.requires.desk ∙ sym c.desk.view_is) in
    let lt = below _ _ _ _ _ _ _ _ _ _ r (subst (λ (v : DriverState). length v.replies < length v.taken) (sym c.self.view_is) c.requires.some) in
    let f = front _ _ _ _ _ _ _ _ _ _ r c.index-cell.result.now lt c.index-cell.ensures in let w = some_words _ _ _ _ _ _ _ _ _ _ r in let lt' = f.1 in omega arith

pub overflow_add-cell : goal.overflow_add-cell
overflow_add-cell c = let s = c.self.inside in let r = c.self.invariant.0 in
    let own = ap (λ (d : DeskState). d.table) (ap (λ (v : DriverState). v.desk) c.self.view_is ∙ c.requires.desk ∙ sym c.desk.view_is) in
    let lt = below _ _ _ _ _ _ _ _ _ _ r (subst (λ (v : DriverState). length v.replies < length v.taken) (sym c.self.view_is) c.requires.some) in
    let f = front _ _ _ _ _ _ _ _ _ _ r c.index-cell.result.now lt c.index-cell.ensures in let w = some_words _ _ _ _ _ _ _ _ _ _ r in let lt' = f.1 in omega arith

pub store-requires : goal.store-requires
store-requires c = let s = c.self.inside in let r = c.self.invariant.0 in
    let own = ap (λ (d : DeskState). d.table) (ap (λ (v : DriverState). v.desk) c.self.view_is ∙ c.requires.desk ∙ sym c.desk.view_is) in
    let lt = below _ _ _ _ _ _ _ _ _ _ r (subst (λ (v : DriverState). length v.replies < length v.taken) (sym c.self.view_is) c.requires.some) in
    let f = front _ _ _ _ _ _ _ _ _ _ r c.index-cell.result.now lt c.index-cell.ensures in let w = some_words _ _ _ _ _ _ _ _ _ _ r in let lt' = f.1 in let wide = r.words_is in (
      c.exchange.ensures.0 ∙ own,
      subst (λ t. 4 * c.index-cell.result.now + 2 < t.words) own (omega arith),
      answer_ok _ _ _ _ _ _ _ _ _ _ r _ _ _ c.index-cell.result.now _ _ c.args.reply c.exchange.new.seat.me lt f.0 c.exchange.ensures.3 refl refl,
    )

pub invariant_of-self : goal.invariant_of-self
invariant_of-self c = let s = c.self.inside in let r = c.self.invariant.0 in
    let own = ap (λ (d : DeskState). d.table) (ap (λ (v : DriverState). v.desk) c.self.view_is ∙ c.requires.desk ∙ sym c.desk.view_is) in
    let lt = below _ _ _ _ _ _ _ _ _ _ r (subst (λ (v : DriverState). length v.replies < length v.taken) (sym c.self.view_is) c.requires.some) in
    let a = on_answer _ _ _ _ _ _ _ _ _ _ r c.index-cell.result.now c.args.reply c.exchange.new.seat.me c.store.new.seat.me lt c.exchange.ensures.3 c.store.ensures.2 in
    (subst (λ t. DriverIsReady t.words c.store.new.seat.me s.base s.window s.callers s.taken (s.answered + 1) s.firsts.items s.counts.items s.order.items) (sym (c.store.ensures.0 ∙ c.exchange.ensures.0)) a.1, c.self.invariant.1)
