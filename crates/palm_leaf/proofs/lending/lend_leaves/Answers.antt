use Rattle.std.proofs.Common.{◌≡◌, ◌+◌, ◌∙◌, ap, arith, List, drop, refl, subst, length, [], ◌∷◌, length-append}
use Rattle.palm_arena.specs.Reads.{map_of}
use Rattle.palm_route.specs.declared.part.Group.{Group}
use Rattle.palm_leaf.specs.Answers.{rows_at}
use Rattle.palm_leaf.proofs.Lendings.{LendSoFar, lent_none_yet, next_leaf, one_lent}
use Rattle.palm_leaf.proofs.Ranges.{from_item}
use Rattle.palm_leaf.proofs.lending.lend_leaves.Goals as goal

pub loop-group-init : goal.loop-group-init
loop-group-init g c = record {
  far = lent_none_yet c.args.arena.now.places c.args.least c.args.groups.now c.args.works.now.items c.requires.none_lent c.requires.empty;
  begun = refl;
  len = omega (arith, ap length c.requires.empty, c.args.works.now.ok.0);
  capacity = refl;
  ticks = omega arith;
  moved = omega arith;
}

pub lend_leaf-requires-clause-leaf : goal.lend_leaf-requires-clause-leaf
lend_leaf-requires-clause-leaf g c =
    let start = c.args.arena.now.places in
    let loop = c.loop-group in
    let all = c.args.groups.now in
    let group = c.group-item.result in
    let left = drop (loop.group-index + 1) all in
    let item : drop loop.group-index all ≡ group ∷ left = from_item all loop.group-index group c.loop-group-test.true c.group-item.is in
    let far = subst (λ (items : List Group). LendSoFar start loop.arena.places c.args.least all items loop.works.items) item loop.invariant.far in
    (rows_at (map_of start) group.leaf, next_leaf start loop.arena.places c.args.least all left group loop.works.items c.requires.leaves.0 far c.requires.leaves.1)

pub loop-group-preserved : goal.loop-group-preserved
loop-group-preserved g c =
    let start = c.args.arena.now.places in
    let loop = c.loop-group in
    let all = c.args.groups.now in
    let group = c.group-item.result in
    let left = drop (loop.group-index + 1) all in
    let item : drop loop.group-index all ≡ group ∷ left = from_item all loop.group-index group c.loop-group-test.true c.group-item.is in
    let far = subst (λ (items : List Group). LendSoFar start loop.arena.places c.args.least all items loop.works.items) item loop.invariant.far in
    let ok = c.in_ok-lend_leaf.ensures.ok in
    record {
      far =
          one_lent start loop.arena.places c.lend_leaf.new.arena.places c.args.least all left group loop.works.items c.push_reserved.new.self.items c.in_ok-lend_leaf.field-0 c.requires.leaves.0 far c.requires.leaves.1
          c.in_ok-lend_leaf.ensures.work (ap (λ state. state.places) ok) c.push_reserved.ensures.items;
      begun = ap (λ state. state.begun) ok ∙ loop.invariant.begun;
      len = omega (arith, loop.invariant.len, c.push_reserved.ensures.len);
      capacity = c.push_reserved.ensures.capacity ∙ loop.invariant.capacity;
      ticks = omega (arith, loop.invariant.ticks, c.in_ok-lend_leaf.ensures.tick);
      moved = omega (arith, loop.invariant.moved, c.in_ok-lend_leaf.ensures.tick, ap (λ state. length state.moved) ok, length-append loop.arena.moved (group.leaf ∷ []));
    }
