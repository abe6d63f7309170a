use Rattle.std.proofs.Common.{◌≡◌, ℕ, ◌<◌, length, sym, refl, ap, ◌∙◌, subst, arith}
use Rattle.std.specs.Prelude.{Any}
use Rattle.std.specs.Slots.{slots_items}
use Rattle.palm_base.specs.Desk.{callers}
use Rattle.palm_base.specs.declared.desk.Terms.{Terms}
use Rattle.palm_desk.specs.Seats.{DeskState}
use Rattle.palm_desk.proofs.Closed.{start, closed, the_end, written_over}
use Rattle.palm_desk.proofs.rest.close.Goals as goal

pub gather-requires-clause-start : goal.gather-requires-clause-start
gather-requires-clause-start c =
    let i = c.driver.invariant in let j = c.join_all.ensures in
    let k = c.desk.inside.table.shared.key in
    let terms = ap (λ (d : DeskState). d.terms) (c.requires.driver ∙ sym c.desk.view_is) in
    let each = subst (λ (t : Terms). (n : ℕ) → n < callers t → Any (λ s. s.caller ≡ n) c.args.callers.items) terms c.requires.each in
    let final = c.close_with-closed.ensures.values.2 in
    let got_long : length c.join_all.new.got ≡ length c.driver.inside.left.got.items = j.long.0 ∙ ap length c.deref_mut.ensures.value in
    let made_long : length c.join_all.new.made ≡ length c.driver.inside.left.made.items = j.long.1 ∙ ap length c.deref_mut-2.ensures.value in
    let got_is = written_over c.driver.inside.left.got.len c.join_all.new.got c.driver.inside.left.got.items (let o = c.driver.inside.left.got.ok in omega arith) in
    let made_is = written_over c.driver.inside.left.made.len c.join_all.new.made c.driver.inside.left.made.items (let o = c.driver.inside.left.made.ok in omega arith) in
    (the_end _ _ _ _ _ _ _ _ _ _ i.0 k c.join_all.new.seat.me.0 c.args.callers.items j.joined each c.join_all.new.seat.id (slots_items c.close_with-closed.result.words) (slots_items c.close_with-closed.result.slots) final, start _ _ _ _ _ _ _ _ _ _ i.0 k c.join_all.new.seat.me.0 c.args.callers.items j.joined each c.join_all.new.seat.id (slots_items c.close_with-closed.result.words) (slots_items c.close_with-closed.result.slots) final c.driver.inside.left _ _ _ i.1 c.deref.ensures.value (ap slots_items c.take_slots.ensures.words) c.join_all.new.got c.join_all.new.made j.counts got_is made_is got_long made_long c.take_slots.ensures.slots refl refl)

pub returns : goal.returns
returns c =
    let i = c.driver.invariant in let j = c.join_all.ensures in
    let k = c.desk.inside.table.shared.key in
    let terms = ap (λ (d : DeskState). d.terms) (c.requires.driver ∙ sym c.desk.view_is) in
    let each = subst (λ (t : Terms). (n : ℕ) → n < callers t → Any (λ s. s.caller ≡ n) c.args.callers.items) terms c.requires.each in
    let final = c.close_with-closed.ensures.values.2 in
    let got_long : length c.join_all.new.got ≡ length c.driver.inside.left.got.items = j.long.0 ∙ ap length c.deref_mut.ensures.value in
    let made_long : length c.join_all.new.made ≡ length c.driver.inside.left.made.items = j.long.1 ∙ ap length c.deref_mut-2.ensures.value in
    let got_is = written_over c.driver.inside.left.got.len c.join_all.new.got c.driver.inside.left.got.items (let o = c.driver.inside.left.got.ok in omega arith) in
    let made_is = written_over c.driver.inside.left.made.len c.join_all.new.made c.driver.inside.left.made.items (let o = c.driver.inside.left.made.ok in omega arith) in
    let x = the_end _ _ _ _ _ _ _ _ _ _ i.0 k c.join_all.new.seat.me.0 c.args.callers.items j.joined each c.join_all.new.seat.id (slots_items c.close_with-closed.result.words) (slots_items c.close_with-closed.result.slots) final in
    let s = start _ _ _ _ _ _ _ _ _ _ i.0 k c.join_all.new.seat.me.0 c.args.callers.items j.joined each c.join_all.new.seat.id (slots_items c.close_with-closed.result.words) (slots_items c.close_with-closed.result.slots) final c.driver.inside.left _ _ _ i.1 c.deref.ensures.value (ap slots_items c.take_slots.ensures.words) c.join_all.new.got c.join_all.new.made j.counts got_is made_is got_long made_long c.take_slots.ensures.slots refl refl in
    closed _ _ _ _ _ _ _ _ _ _ i.0 k c.join_all.new.seat.me.0 c.args.callers.items j.joined each c.join_all.new.seat.id (slots_items c.close_with-closed.result.words) (slots_items c.close_with-closed.result.slots) final c.driver.inside.seat.table_id c.args.driver _ c.driver.view_is
    (c.from_vec.ensures ∙ c.gather.ensures.waiting x s) (c.from_vec-2.ensures ∙ c.gather.ensures.unread x s)
