use Rattle.std.proofs.Common.{◌++◌, get_or, refl, ap, ◌∙◌}
use Rattle.std.proofs.lemmas.List.{take_all}
use Rattle.std.proofs.lemmas.Option.{slice_get-get_or}
use Rattle.palm_route.specs.Parts.{parts_by_keys}
use Rattle.palm_route.specs.declared.part.Ask.TheVariants as ask
use Rattle.palm_route.proofs.PartSteps.{key_added}
use Rattle.palm_route.proofs.expansion.append_list.Goals as goal

pub loop-i-preserved : goal.loop-i-preserved
loop-i-preserved c =
    key_added c.args.entry (ask.List c.args.from c.args.to c.args.limit) c.args.keys.now c.loop-i.i (get_or c.args.keys.now c.loop-i.i 0) c.loop-i.i c.args.parts.now c.loop-i.parts c.push.new.self
    (slice_get-get_or c.args.keys.now c.loop-i.i 0 c.loop-i-test.true) refl c.loop-i.invariant c.in_ok-push.ensures.ok

pub returns : goal.returns
returns c = record {
  ok = c.loop-i.invariant ∙ ap (λ keys. c.args.parts.now ++ parts_by_keys c.args.entry 0 (ask.List c.args.from c.args.to c.args.limit) keys)
      (take_all c.loop-i.i c.args.keys.now c.loop-i-test.false);
}
