use Rattle.std.proofs.Common.{◌<◌, length, arith, rules, refl, ◌∙◌}
use Rattle.std.proofs.Math.ListN.{length-set}
use Rattle.palm_arena.proofs.Undoing.{covers_less, popped_within}
use Rattle.palm_arena.proofs.journal.Journal.forget.Goals as goal

pub index_mut-requires : goal.index_mut-requires
index_mut-requires c =
    let within = popped_within _ c.loop-id.self _ c.in-Some.field-0 c.in-Some.ensures.items c.loop-id.invariant in
    omega (arith, within, c.loop-id.invariant.marks)

pub offset_bounds-places-id : goal.offset_bounds-places-id
offset_bounds-places-id c =
    let within : c.in-Some.field-0.id.place < length c.args.places.now = popped_within _ c.loop-id.self _ c.in-Some.field-0 c.in-Some.ensures.items c.loop-id.invariant in
    search rules

pub bounds-places-id : goal.bounds-places-id
bounds-places-id c = popped_within _ c.loop-id.self _ c.in-Some.field-0 c.in-Some.ensures.items c.loop-id.invariant

pub loop-id-preserved : goal.loop-id-preserved
loop-id-preserved c =
    covers_less _ c.loop-id.self _ c.in-Some.field-0 c.in-Some.ensures.items refl (length-set _ _ _ ∙ c.loop-id.invariant.marks) c.loop-id.invariant
