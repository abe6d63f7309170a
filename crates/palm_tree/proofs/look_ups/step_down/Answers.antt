use Rattle.std.proofs.Common.{Some, IsSome, ◌∷◌, get_or, slice_get, refl, sym, ap, subst, arith, ◌∙◌}
use Rattle.palm_tree.specs.declared.floor.Spot.{Spot}
use Rattle.palm_tree.specs.declared.look_ups.Lane.{Lane}
use Rattle.palm_tree.proofs.LaneSteps.{stepped_more, same_more, next_fork}
use Rattle.palm_tree.proofs.look_ups.step_down.Goals as goal

abbrev lane : Lane
lane = record { place = 0; key = 0 }

abbrev spot : Spot
spot = record { id = record { place = 0 }; low = 0 }

pub read-requires : goal.read-requires
read-requires c =
    let here = next_fork c.args.arena.now.places c.args.lanes.now c.args.spots.now c.loop-i.spots c.loop-i.i lane spot c.requires.node c.loop-i.invariant.same c.loop-i-test.true in
    subst IsSome (sym here.1) refl

pub unreachable-requires : goal.unreachable-requires
unreachable-requires c =
    let here = next_fork c.args.arena.now.places c.args.lanes.now c.args.spots.now c.loop-i.spots c.loop-i.i lane spot c.requires.node c.loop-i.invariant.same c.loop-i-test.true in
    let same = here.1 in
    let read = c.read.ensures.node in
    let leaf = c.in_default.is in
    absurd cc

pub loop-i-preserved : goal.loop-i-preserved
loop-i-preserved c =
    let inner = c.in-Inner.inner in
    let old : Spot = get_or c.loop-i.spots c.loop-i.i spot in
    record {
      stepped = stepped_more c.args.arena.now.places c.args.lanes.now c.args.spots.now c.loop-i.spots c.loop-i.i lane spot _
          c.loop-i.invariant.stepped c.loop-i.invariant.same c.loop-i-test.true (omega (arith, c.requires.room)) c.loop-i.auto.spots
          (record {
            node = inner;
            here = c.read.ensures.node ∙ ap Some c.in-Inner.is;
            child = ap (λ i. slice_get inner.children i) (sym c.route-place.ensures.route) ∙ c.child.ensures;
            low = ap (λ i. slice_get (old.low ∷ inner.separators) i) (sym c.route-place.ensures.route) ∙ c.low_of_child.ensures;
          });
      same = same_more c.args.spots.now c.loop-i.spots c.loop-i.i _ c.loop-i.invariant.same;
    }

pub returns : goal.returns
returns c = λ i lane old new inside. c.loop-i.invariant.stepped i lane old new (omega (arith, c.loop-i-test.false))
