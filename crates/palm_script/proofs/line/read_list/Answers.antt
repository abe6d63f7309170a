use Rattle.std.proofs.Common.{refl}
use Rattle.std.proofs.lemmas.Result.{err_from_is_err_and}
use Rattle.palm_script.proofs.Judged.{when_ok, when_err}
use Rattle.palm_script.proofs.line.read_list.Goals as goal

pub returns-in_err-limit : goal.returns-in_err-limit
returns-in_err-limit c =
    let from = when_ok _ _ _ _ c.in_ok-from-2.ensures in
    let to = when_ok _ _ _ _ c.in_ok-to.ensures in
    let limit = when_err _ _ _ _ c.in_err-limit.ensures in
    let p = err_from_is_err_and c.from_residual-in_err-limit.result c.from_residual-in_err-limit.ensures.1 in
    rw (p.1, p.2, c.in_ok-from.ensures.ok, from.0, to.0, limit.0, limit.1) refl
