use Rattle.std.proofs.Common.{refl, sym}
use Rattle.std.proofs.lemmas.Result.{err_from_is_err_and}
use Rattle.palm_script.proofs.Judged.{when_ok}
use Rattle.palm_script.proofs.line.read_made.Goals as goal

pub returns-in_err-call-clause-says : goal.returns-in_err-call-clause-says
returns-in_err-call-clause-says c =
    let p = err_from_is_err_and c.from_residual-in_err-call.result c.from_residual-in_err-call.ensures.1 in
    rw (p.1, p.2, (when_ok _ _ _ _ c.in_ok-caller.ensures.value).0, sym c.in_err-call.ensures) refl

pub returns-clause-says : goal.returns-clause-says
returns-clause-says c =
    let caller = when_ok _ _ _ _ c.in_ok-caller.ensures.value in
    rw (caller.0, caller.1, sym c.in_ok-call.ensures) refl
