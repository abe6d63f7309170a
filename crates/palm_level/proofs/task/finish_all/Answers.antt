use Rattle.std.proofs.Common.{arith, ap, ◌∙◌, subst, ◌++◌, ◌∷◌, [], Option, Some}
use Rattle.std.specs.List.{AllByRecursion}
use Rattle.palm_base.proofs.Pieces.{every_split}
use Rattle.palm_level.specs.Tasks.{IsTask}
use Rattle.palm_level.specs.declared.task.Task.{Task}
use Rattle.palm_level.proofs.Finishing.{one_finished, lent_popped, task_lent, later_popped}
use Rattle.palm_level.proofs.task.finish_all.Goals as goal

pub finish-requires-clause-lent : goal.finish-requires-clause-lent
finish-requires-clause-lent g c =
    let at = c.in-Some.ensures.items ∙ ap (λ (t : Option Task). c.pop.new.self.items ++ t ∷ []) c.in-Some-item.is in
    task_lent c.loop-item.arena.places c.loop-item.tasks.items c.pop.new.self.items (Some c.in-Some-item.task) at c.loop-item.invariant.lent

pub loop-item-preserved : goal.loop-item-preserved
loop-item-preserved g c =
    let at = c.in-Some.ensures.items ∙ ap (λ (t : Option Task). c.pop.new.self.items ++ t ∷ []) c.in-Some-item.is in
    let sum = later_popped c.loop-item.tasks.items c.pop.new.self.items (Some c.in-Some-item.task) at in
    let ticks = c.loop-item.invariant.ticks in
    let moved = c.loop-item.invariant.moved in
    record {
      far = one_finished c.args.level c.args.arena.now c.loop-item.arena c.finish.new.arena c.args.tasks.now.items c.loop-item.tasks.items c.pop.new.self.items c.in-Some-item.task c.args.changes.now c.loop-item.changes c.finish.new.changes
          c.loop-item.invariant.far at c.in_ok-finish.ensures.ok;
      lent = lent_popped c.loop-item.arena.places c.finish.new.arena.places c.loop-item.tasks.items c.pop.new.self.items (Some c.in-Some-item.task) at c.loop-item.invariant.lent c.finish.ensures.home;
      there = (every_split IsTask c.pop.new.self.items (Some c.in-Some-item.task ∷ []) (subst (AllByRecursion IsTask) at c.loop-item.invariant.there)).0;
      begun = c.finish.ensures.begun ∙ c.loop-item.invariant.begun;
      ticks = omega (arith, sum, ticks, c.finish.ensures.ticks);
      moved = omega (arith, moved, c.finish.ensures.moved);
    }
