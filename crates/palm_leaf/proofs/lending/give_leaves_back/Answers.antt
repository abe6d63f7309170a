use Rattle.std.proofs.Common.{◌∙◌, ap, arith, length, [], ◌∷◌, ◌++◌}
use Rattle.std.specs.Vec.Iter.{into_iter_items}
use Rattle.palm_leaf.proofs.Lendings.{one_passed, next_is_lent, one_given}
use Rattle.palm_leaf.proofs.lending.give_leaves_back.Goals as goal

pub give_back-requires : goal.give_back-requires
give_back-requires c =
    next_is_lent c.args.arena.now.places c.loop-item.arena.places c.args.works.items (into_iter_items c.next.new.self) (into_iter_items c.loop-item.left) c.in-Some-item.work c.loop-item.done.items
    (c.in-Some.ensures.items ∙ ap (λ item. item ∷ into_iter_items c.next.new.self) c.in-Some-item.is) c.loop-item.invariant.far

pub loop-item-preserved-in-Some-item : goal.loop-item-preserved-in-Some-item
loop-item-preserved-in-Some-item c = record {
  far =
      one_given c.args.arena.now.places c.loop-item.arena.places c.give_back.new.arena.places c.args.works.items (into_iter_items c.next.new.self) (into_iter_items c.loop-item.left) c.in-Some-item.work c.loop-item.done.items
      c.push_reserved.new.self.items (c.in-Some.ensures.items ∙ ap (λ item. item ∷ into_iter_items c.next.new.self) c.in-Some-item.is) c.loop-item.invariant.far
      (ap (λ state. state.places) c.give_back.ensures.arena) (c.push_reserved.ensures.items ∙ ap (λ done. c.loop-item.done.items ++ done ∷ []) c.give_back.ensures.done);
  len = omega (arith, c.loop-item.invariant.len, c.in-Some.ensures.len, ap length c.in-Some.ensures.items);
  room = omega (arith, c.loop-item.invariant.room, c.push_reserved.ensures.len, c.push_reserved.ensures.capacity, c.in-Some.ensures.len);
  begun = ap (λ state. state.begun) c.give_back.ensures.arena ∙ c.loop-item.invariant.begun;
  moved = ap (λ state. state.moved) c.give_back.ensures.arena ∙ c.loop-item.invariant.moved;
}

pub loop-item-preserved : goal.loop-item-preserved
loop-item-preserved c = record {
  far =
      one_passed c.args.arena.now.places c.loop-item.arena.places c.args.works.items (into_iter_items c.next.new.self) (into_iter_items c.loop-item.left) c.loop-item.done.items
      (c.in-Some.ensures.items ∙ ap (λ item. item ∷ into_iter_items c.next.new.self) c.in_default-item.is) c.loop-item.invariant.far;
  len = omega (arith, c.loop-item.invariant.len, c.in-Some.ensures.len, ap length c.in-Some.ensures.items);
  room = omega (arith, c.loop-item.invariant.room, c.in-Some.ensures.len);
  begun = c.loop-item.invariant.begun;
  moved = c.loop-item.invariant.moved;
}
