use Rattle.std.proofs.Common.{subst, refl}
use Rattle.std.proofs.lemmas.Result.{IfOk-weaker}
use Rattle.palm_level.specs.Tasks.{WorkIsDone, StandsForAny, PutsBackAny}
use Rattle.palm_level.proofs.Finishing.{stand_still, stand_made}
use Rattle.palm_level.proofs.task.stand_for.Goals as goal

pub returns-in_default-clause-ok : goal.returns-in_default-clause-ok
returns-in_default-clause-ok g c =
    IfOk-weaker c.stay.result _ (StandsForAny c.args.level c.args.low c.args.node c.args.work c.args.arena.now c.args.arena.now c.args.removed.now c.args.removed.now)
    (λ pieces one nodes path changes can done. stand_still nodes c.args.level (record { id = c.args.node; path = path; low = c.args.low; changes = changes }) c.args.arena.now c.args.arena.now c.args.removed.now c.args.removed.now pieces can
    (subst (WorkIsDone nodes c.args.node changes) c.in_default.is done) refl refl one)
    c.stay.ensures

pub returns-clause-ok : goal.returns-clause-ok
returns-clause-ok g c =
    IfOk-weaker c.put_back.result (PutsBackAny c.args.level c.args.low c.in-Some.work c.args.arena.now c.put_back.new.arena c.args.removed.now c.put_back.new.removed)
    (StandsForAny c.args.level c.args.low c.args.node c.args.work c.args.arena.now c.put_back.new.arena c.args.removed.now c.put_back.new.removed)
    (λ pieces puts nodes path changes can done. stand_made nodes c.args.level c.args.low c.args.node path changes c.in-Some.work c.args.arena.now c.put_back.new.arena c.args.removed.now c.put_back.new.removed pieces can
    (subst (WorkIsDone nodes c.args.node changes) c.in-Some.is done) puts)
    c.put_back.ensures.ok
