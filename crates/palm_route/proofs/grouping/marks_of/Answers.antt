use Rattle.std.proofs.Common.{refl, ap, arith, ◌∙◌}
use Rattle.std.proofs.lemmas.List.{take_all}
use Rattle.std.proofs.lemmas.Option.{slice_get_read}
use Rattle.palm_route.specs.Marks.{marks_from}
use Rattle.palm_route.proofs.SortedParts.{mark_added}
use Rattle.palm_route.proofs.grouping.marks_of.Goals as goal

pub loop-place-preserved : goal.loop-place-preserved
loop-place-preserved c = record {
  marks = mark_added c.args.routed.now c.loop-place.place c.index-routed-place.result c.loop-place.marks.items c.push_reserved.new.self.items
      (slice_get_read c.args.routed.now _ c.loop-place.place c.index-routed-place.result refl c.loop-place-test.true c.index-routed-place.is) c.loop-place.invariant.marks c.push_reserved.ensures.items;
  len = omega (arith, c.push_reserved.ensures.len, c.loop-place.invariant.len);
  room = omega (arith, c.push_reserved.ensures.capacity, c.loop-place.invariant.room);
}

pub returns : goal.returns
returns c = c.loop-place.invariant.marks ∙ ap (marks_from 0) (take_all c.loop-place.place c.args.routed.now c.loop-place-test.false)
