use Rattle.std.proofs.Common.{◌≡◌, ◌<◌, ◌++◌, [], ◌∷◌, false, length, get_or, set, sym, ap, ◌∙◌, subst, arith, get_or-set_other, get_or-set_same}
use mathlib.Core.Logic.{dite}
use native.Mathlib.Decide.{ℕ_discrete}
use Rattle.std.specs.Slots.{slots_items, slots_filled}
use Rattle.palm_base.proofs.Arrivals.{take_one}
use lib.ListN.{get_elem?}
use mathlib.Core.Option.{some}
use Rattle.palm_desk.proofs.rest.take_slots.Goals as goal

pub loop-k-preserved : goal.loop-k-preserved
loop-k-preserved c =
    let i = c.loop-k.invariant in let o = c.take.ensures.others in let p = c.push_reserved.ensures in
    let here = c.loop-k.k in
    let filled = slots_filled c.loop-k.closed.slots in
    let long : here < length filled = (let l = c.loop-k.closed.slots.ok in let t = c.loop-k-test.true in let e = c.slot_count-k-end.ensures in let n = i.len in omega (arith, l.1)) in
    let at = subst (λ l. get_elem? l here ≡ some c.take.result) i.items c.take.ensures.value in
    record {
      words = o.3 ∙ i.words;
      items = o.0 ∙ i.items;
      len = o.2 ∙ i.len;
      full = λ k lo hi. ap (λ l. get_or l k false) o.1 ∙ get_or-set_other filled here k false false (λ e. omega arith) ∙ i.full k (omega arith) (let n = o.2 in omega arith);
      empty = λ k lt. ap (λ l. get_or l k false) o.1 ∙ dite (ℕ_discrete k here)
          (λ e. ap (λ n. get_or (set filled here false) n false) e ∙ get_or-set_same filled here false false long)
          (λ ne. get_or-set_other filled here k false false ne ∙ i.empty k (omega arith));
      taken = p.items ∙ ap (λ l. l ++ c.take.result ∷ []) i.taken ∙ sym (take_one (slots_items c.args.closed.now.slots) here c.take.result at);
      room = p.capacity ∙ i.room;
    }
