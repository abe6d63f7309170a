use Rattle.std.proofs.Common.{refl, ap, subst, ◌∙◌}
use Rattle.std.proofs.lemmas.List.{take_all}
use Rattle.std.proofs.lemmas.Option.{slice_get_read}
use Rattle.palm_arena.specs.Leaves.{leaves_at}
use Rattle.palm_arena.specs.Reads.{map_of}
use Rattle.std.specs.List.{AllByRecursion}
use Rattle.palm_route.specs.Edits.{EditsPrefix}
use Rattle.palm_route.specs.Parts.{parts_of}
use Rattle.palm_route.proofs.PartSteps.{entry_added, all_next}
use Rattle.palm_route.proofs.expansion.expand.Goals as goal

pub loop-place-preserved : goal.loop-place-preserved
loop-place-preserved c =
    let next = slice_get_read c.args.batch.now _ c.loop-place.place c.index-batch-place.result refl c.loop-place-test.true c.index-batch-place.is in
    record {
      parts = entry_added (leaves_at (map_of c.args.arena.now.places) c.args.shape) c.args.batch.now c.loop-place.place c.index-batch-place.result c.loop-place.parts c.append_call.new.parts next c.loop-place.invariant.parts c.in_ok-append_call.ensures.ok;
      prefixes = all_next (λ entry. EditsPrefix entry.call) c.args.batch.now c.loop-place.place c.index-batch-place.result next c.loop-place.invariant.prefixes c.in_ok-append_call.ensures.prefix;
    }

pub returns-clause-parts : goal.returns-clause-parts
returns-clause-parts c =
    c.loop-place.invariant.parts ∙ ap (parts_of (leaves_at (map_of c.args.arena.now.places) c.args.shape) 0) (take_all c.loop-place.place c.args.batch.now c.loop-place-test.false)

pub returns-clause-prefixes : goal.returns-clause-prefixes
returns-clause-prefixes c = subst (AllByRecursion (λ entry. EditsPrefix entry.call)) (take_all c.loop-place.place c.args.batch.now c.loop-place-test.false) c.loop-place.invariant.prefixes
