use Rattle.std.proofs.Common.{arith, ap, ◌∙◌, sym, subst, ◌∷◌, [], length, length-append, refl}
use Rattle.palm_level.proofs.Lending.{LentSoFar, lent_none_yet, last_of, there, one_lent, starts_begun}
use Rattle.palm_level.proofs.task.lend_all.Goals as goal

pub loop-next-init : goal.loop-next-init
loop-next-init g c =
    let empty = ap length c.requires.empty in
    let room = c.requires.room in
    record {
      far = lent_none_yet c.args.arena.now c.args.planned.items c.args.tasks.now.items c.requires.empty c.requires.none_lent c.requires.planned c.requires.distinct;
      room = omega (arith, empty, room);
      begun = refl;
      ticks = omega arith;
      moved = omega arith;
    }

pub start-requires-clause-there : goal.start-requires-clause-there
start-requires-clause-there g c =
    there c.args.arena.now c.loop-next.arena c.args.planned.items c.pop.new.self.items c.loop-next.tasks.items c.in-Some.next
    (last_of c.args.arena.now c.loop-next.arena c.args.planned.items c.loop-next.planned.items c.pop.new.self.items c.loop-next.tasks.items c.in-Some.next c.in-Some.ensures.items c.loop-next.invariant.far)

pub loop-next-preserved : goal.loop-next-preserved
loop-next-preserved g c =
    let ticks = c.loop-next.invariant.ticks in
    let moved = c.loop-next.invariant.moved in
    let room = c.loop-next.invariant.room in
    let fewer = ap length c.in-Some.ensures.items in
    let one = length-append c.pop.new.self.items (c.in-Some.next ∷ []) in
    record {
      far = subst (LentSoFar c.args.arena.now c.start.new.arena c.args.planned.items c.pop.new.self.items) (sym c.push_reserved.ensures.items)
          (one_lent c.args.arena.now c.loop-next.arena c.start.new.arena c.args.planned.items c.loop-next.planned.items c.pop.new.self.items c.loop-next.tasks.items c.in-Some.next c.in_ok-task.task c.in-Some.ensures.items c.loop-next.invariant.far c.in_ok-task.ensures.ok);
      room = omega (arith, room, fewer, one, c.push_reserved.ensures.len, c.push_reserved.ensures.capacity);
      begun = starts_begun c.in-Some.next c.loop-next.arena c.start.new.arena c.in_ok-task.task c.in_ok-task.ensures.ok ∙ c.loop-next.invariant.begun;
      ticks = omega (arith, ticks, fewer, one, c.start.ensures.ticks);
      moved = omega (arith, moved, c.start.ensures.moved);
    }
