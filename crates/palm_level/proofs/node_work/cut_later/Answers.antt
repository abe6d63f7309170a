use Rattle.std.proofs.Common.{arith, ap, ◌∙◌, sym, subst, ◌≤◌, ◌+◌, ◌<◌, length, take, refl}
use Rattle.palm_base.specs.declared.bounds.TheConstants.{MOST_CHILDREN}
use Rattle.std.specs.List.Sorted.{IsStrictlyIncreasing}
use Rattle.palm_node.specs.InnerNode.{later_lows}
use Rattle.palm_level.proofs.LaterParts.{PartsSoFar, parts_first, part_fits, parts_next, parts_last, first_part}
use Rattle.palm_node.proofs.RisingLows.{rise_increasing}
use Rattle.palm_level.proofs.node_work.cut_later.Goals as goal

pub split_at-requires : goal.split_at-requires
split_at-requires c = subst (λ n. n ≤ length c.args.children.now) (sym c.piece_size.ensures) (first_part c.args.children.now c.requires.some c.requires.rising).0

pub loop-i-init : goal.loop-i-init
loop-i-init c = record {
  far = parts_first c.args.children.now c.split_at.result.1.now c.args.later.now.items c.piece_size.result c.requires.some c.requires.rising c.requires.empty c.piece_size.ensures c.split_at.ensures.back;
  len = let empty = ap length c.requires.empty in omega (arith, empty);
  capacity = refl;
}

pub over-requires-clause-some : goal.over-requires-clause-some
over-requires-clause-some c =
    let less = subst (λ n. c.loop-i.i < n) c.pieces-count.ensures c.loop-i-test.true in
    let fits = part_fits c.args.children.now c.loop-i.rest.now c.loop-i.later.items c.loop-i.i c.piece_size-in-loop-i.result c.loop-i.invariant.far less c.piece_size-in-loop-i.ensures in
    subst (λ l. 1 ≤ length l) (sym c.split_at-in-loop-i.ensures.front) fits.1.0

pub over-requires-clause-few : goal.over-requires-clause-few
over-requires-clause-few c =
    let less = subst (λ n. c.loop-i.i < n) c.pieces-count.ensures c.loop-i-test.true in
    let fits = part_fits c.args.children.now c.loop-i.rest.now c.loop-i.later.items c.loop-i.i c.piece_size-in-loop-i.result c.loop-i.invariant.far less c.piece_size-in-loop-i.ensures in
    subst (λ l. length l ≤ MOST_CHILDREN) (sym c.split_at-in-loop-i.ensures.front) fits.1.1

pub over-requires-clause-rising : goal.over-requires-clause-rising
over-requires-clause-rising c =
    let less = subst (λ n. c.loop-i.i < n) c.pieces-count.ensures c.loop-i-test.true in
    let fits = part_fits c.args.children.now c.loop-i.rest.now c.loop-i.later.items c.loop-i.i c.piece_size-in-loop-i.result c.loop-i.invariant.far less c.piece_size-in-loop-i.ensures in
    subst (λ l. IsStrictlyIncreasing (later_lows l)) (sym c.split_at-in-loop-i.ensures.front) (rise_increasing (later_lows (take c.piece_size-in-loop-i.result c.loop-i.rest.now)) fits.2)

pub loop-i-preserved : goal.loop-i-preserved
loop-i-preserved c =
    let less = subst (λ n. c.loop-i.i < n) c.pieces-count.ensures c.loop-i-test.true in
    let next = parts_next c.args.children.now c.loop-i.rest.now c.split_at-in-loop-i.result.0.now c.split_at-in-loop-i.result.1.now c.loop-i.later.items c.loop-i.i c.piece_size-in-loop-i.result _ c.over.result
    c.loop-i.invariant.far less c.piece_size-in-loop-i.ensures c.split_at-in-loop-i.ensures.front c.split_at-in-loop-i.ensures.back c.over.ensures in
    record {
      far = subst (PartsSoFar c.args.children.now (c.loop-i.i + 1) c.split_at-in-loop-i.result.1.now) (sym c.push_reserved.ensures.items) next;
      len = omega (arith, c.push_reserved.ensures.len, c.loop-i.invariant.len);
      capacity = c.push_reserved.ensures.capacity ∙ c.loop-i.invariant.capacity;
    }

pub returns : goal.returns
returns c = parts_last c.args.children.now c.loop-i.rest.now c.loop-i.later.items c.loop-i.i c.loop-i.invariant.far (subst (λ n. n ≤ c.loop-i.i) c.pieces-count.ensures c.loop-i-test.false)
