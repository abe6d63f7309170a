use Rattle.std.proofs.Common.{arith}
use Rattle.std.proofs.Common.{map}
use Rattle.std.proofs.lemmas.Result.{IfOk-weaker}
use Rattle.palm_level.specs.Plans.{planned_key}
use Rattle.palm_level.specs.Tasks.{HasFinished, HasWorked}
use Rattle.palm_arena.specs.Reads.{map_of}
use Rattle.palm_level.proofs.Ending.{ran_to, lent_still, all_worked, taken}
use Rattle.palm_level.proofs.level.work_all.Goals as goal

pub finish_all-requires-clause-lent : goal.finish_all-requires-clause-lent
finish_all-requires-clause-lent g c =
    lent_still (map_of c.args.arena.now.places) c.lend_all.new.arena.places c.lend_all.new.tasks.items c.run_all.new.tasks.items
    (ran_to (map_of c.args.arena.now.places) c.lend_all.new.tasks.items c.run_all.new.tasks.items c.run_all.ensures.ran c.in_ok-lend_all.ensures.ok.ready) c.lend_all.ensures.lent

pub finish_all-requires-clause-there : goal.finish_all-requires-clause-there
finish_all-requires-clause-there g c =
    (ran_to (map_of c.args.arena.now.places) c.lend_all.new.tasks.items c.run_all.new.tasks.items c.run_all.ensures.ran c.in_ok-lend_all.ensures.ok.ready).tasks

pub returns-clause-ok : goal.returns-clause-ok
returns-clause-ok g c =
    IfOk-weaker c.finish_all.result (λ done. HasFinished c.args.level c.lend_all.new.arena c.finish_all.new.arena c.run_all.new.tasks.items c.args.made.now c.finish_all.new.changes)
    (λ done. HasWorked (map_of c.args.arena.now.places) c.args.level (map planned_key c.args.planned.items) (map_of c.finish_all.new.arena.places) c.args.made.now c.finish_all.new.changes)
    (λ done finished. all_worked c.args.level c.args.arena.now c.lend_all.new.arena c.finish_all.new.arena c.args.planned.items c.lend_all.new.tasks.items c.run_all.new.tasks.items c.args.made.now c.finish_all.new.changes c.in_ok-lend_all.ensures.ok
    (ran_to (map_of c.args.arena.now.places) c.lend_all.new.tasks.items c.run_all.new.tasks.items c.run_all.ensures.ran c.in_ok-lend_all.ensures.ok.ready) finished)
    c.finish_all.ensures.ok

pub returns-clause-ticks : goal.returns-clause-ticks
returns-clause-ticks g c =
    let sum = taken c.args.arena.now c.lend_all.new.arena c.args.planned.items c.lend_all.new.tasks.items c.run_all.new.tasks.items c.in_ok-lend_all.ensures.ok
    (ran_to (map_of c.args.arena.now.places) c.lend_all.new.tasks.items c.run_all.new.tasks.items c.run_all.ensures.ran c.in_ok-lend_all.ensures.ok.ready) in
    omega (arith, sum, c.lend_all.ensures.ticks, c.finish_all.ensures.ticks)
