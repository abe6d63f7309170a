use Rattle.std.proofs.Common.{take, ap, ◌∙◌}
use Rattle.palm_base.specs.Key.{key}
use Rattle.palm_base.specs.LookUps.{IsBetween}
use Rattle.palm_look.specs.Met.{HasNone}
use Rattle.palm_look.proofs.NumberFronts.{no_fronts_between}
use Rattle.palm_look.proofs.met.has_front.Goals as goal

pub returns-then-not-has_between-clause-front : goal.returns-then-not-has_between-clause-front
returns-then-not-has_between-clause-front c =
    let low = c.key.ensures.key ∙ ap key c.front.ensures in
    let none : HasNone (IsBetween (key (take c.args.least c.args.number.now)) (key c.args.number.now)) c.args.keys.now = rw (← low, ← c.key-2.ensures.key) c.if-not-has_between.ensures in
    no_fronts_between c.args.least c.args.number.now c.args.keys.now c.len.ensures.prefix c.requires.some none
