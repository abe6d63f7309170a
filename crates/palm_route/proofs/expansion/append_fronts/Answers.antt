use Rattle.std.proofs.Common.{◌++◌, Some, sym, ap, arith, ◌∙◌}
use Rattle.std.proofs.lemmas.List.{take_all}
use Rattle.palm_base.specs.Key.{key}
use Rattle.palm_route.specs.Parts.{parts_by_keys, front_keys}
use Rattle.palm_route.specs.declared.part.Ask.TheVariants as ask
use Rattle.palm_route.proofs.PartSteps.{key_added, front_at, fronts_length}
use Rattle.palm_route.proofs.expansion.append_fronts.Goals as goal

pub loop-i-preserved : goal.loop-i-preserved
loop-i-preserved c =
    let front = c.key-key.ensures.key ∙ ap key c.front.ensures in
    key_added c.args.entry ask.Look (front_keys c.args.number.now) c.loop-i.i c.key-key.result c.from.result c.args.parts.now c.loop-i.parts c.push.new.self
    (front_at c.args.number.now c.loop-i.i (omega (arith, c.loop-i-test.true, c.len-i-end.ensures.len)) ∙ sym (ap Some front)) c.from.ensures c.loop-i.invariant c.in_ok-push.ensures.ok

pub returns : goal.returns
returns c = record {
  ok = c.loop-i.invariant ∙ ap (λ keys. c.args.parts.now ++ parts_by_keys c.args.entry 0 ask.Look keys)
      (take_all c.loop-i.i (front_keys c.args.number.now) (omega (arith, fronts_length c.args.number.now, c.loop-i-test.false, c.len-i-end.ensures.len)));
}
