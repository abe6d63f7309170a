use Rattle.std.proofs.Common.{MatchBool, subst}
use Rattle.palm_base.specs.LookUps.{digits_hit, IsFrontKey}
use Rattle.palm_look.specs.Met.{HasOne, HasNone}
use Rattle.palm_look.proofs.NumberFronts.{fronts_alike}
use Rattle.palm_look.proofs.met.is_met.Goals as goal

pub returns-in-Rate-clause-met : goal.returns-in-Rate-clause-met
returns-in-Rate-clause-met c =
    rw (c.in-Rate.is)
    (fronts_alike (digits_hit c.args.reply.now) c.in-Rate.number c.args.keys.now c.has_front.result
    (subst (λ n. MatchBool c.has_front.result (HasOne (IsFrontKey n c.in-Rate.number) c.args.keys.now) (HasNone (IsFrontKey n c.in-Rate.number) c.args.keys.now)) c.digits_hit.ensures c.has_front.ensures.front))
