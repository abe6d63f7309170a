use Rattle.std.proofs.Common.{IsSome, sym, subst, arith, ◌∙◌}
use Rattle.palm_batch.proofs.LevelsDone.{levels_start, levels_refused, levels_next, levels_stand, levels_ticks}
use Rattle.palm_batch.proofs.pass.change_levels.Goals as goal

pub loop-level-init : goal.loop-level-init
loop-level-init g c = levels_start c.args.arena.now c.args.shape c.args.leaves c.args.steps.now c.requires.none_lent

pub change_level-requires-clause-under_way : goal.change_level-requires-clause-under_way
change_level-requires-clause-under_way g c κs within = subst IsSome (sym c.loop-level.invariant.begun) c.requires.under_way

pub change_level-requires-clause-none_lent : goal.change_level-requires-clause-none_lent
change_level-requires-clause-none_lent g c κs within = c.loop-level.invariant.none_lent

pub change_level-requires-clause-stands : goal.change_level-requires-clause-stands
change_level-requires-clause-stands g c κs within =
    let stands = c.requires.stands in
    (stands.0, stands.1, c.loop-level.invariant.stands stands.0 stands.1 stands.2)

pub returns-in_err-changes-clause-begun : goal.returns-in_err-changes-clause-begun
returns-in_err-changes-clause-begun g c = c.change_level.ensures.begun ∙ c.loop-level.invariant.begun

pub returns-in_err-changes-clause-ticks : goal.returns-in_err-changes-clause-ticks
returns-in_err-changes-clause-ticks g c = λ n is.
    levels_refused c.args.arena.now c.args.shape c.args.leaves c.args.steps.now c.loop-level.level c.loop-level.arena c.loop-level.changes c.loop-level.steps c.change_level.new.steps n c.loop-level.invariant c.loop-level-test.true c.change_level.ensures.ticks is

pub returns-in_err-changes-clause-moved : goal.returns-in_err-changes-clause-moved
returns-in_err-changes-clause-moved g c = let m = c.loop-level.invariant.moved in omega (arith, m, c.change_level.ensures.moved)

pub loop-level-preserved : goal.loop-level-preserved
loop-level-preserved g c =
    levels_next c.args.arena.now c.args.shape c.args.leaves c.args.steps.now c.loop-level.level c.loop-level.arena c.change_level.new.arena c.loop-level.changes c.in_ok-changes.changes c.loop-level.steps c.change_level.new.steps c.loop-level.invariant
    c.loop-level-test.true c.in_ok-changes.ensures.stands c.change_level.ensures.begun c.change_level.ensures.none_lent c.in_ok-changes.ensures.within c.change_level.ensures.ticks c.change_level.ensures.moved

pub returns-clause-stands : goal.returns-clause-stands
returns-clause-stands g c =
    levels_stand c.args.arena.now c.args.shape c.args.leaves c.args.steps.now c.loop-level.level c.loop-level.arena c.loop-level.changes c.loop-level.steps c.loop-level.invariant c.loop-level-test.false

pub returns-clause-begun : goal.returns-clause-begun
returns-clause-begun g c = c.loop-level.invariant.begun

pub returns-clause-none_lent : goal.returns-clause-none_lent
returns-clause-none_lent g c = c.loop-level.invariant.none_lent

pub returns-clause-within : goal.returns-clause-within
returns-clause-within g c = c.loop-level.invariant.within

pub returns-clause-ticks : goal.returns-clause-ticks
returns-clause-ticks g c = λ n is.
    levels_ticks c.args.arena.now c.args.shape c.args.leaves c.args.steps.now c.loop-level.level c.loop-level.arena c.loop-level.changes c.loop-level.steps n c.loop-level.invariant is

pub returns-clause-moved : goal.returns-clause-moved
returns-clause-moved g c = c.loop-level.invariant.moved
