use Rattle.std.proofs.Common.{◌≡◌, Some, IsSome, refl, sym, ap, subst, arith, ◌∙◌}
use Rattle.palm_arena.specs.Reads.{map_of}
use Rattle.palm_arena.specs.Routes.{route_of}
use Rattle.palm_route.specs.declared.part.Part.{Part}
use Rattle.palm_route.specs.declared.part.Routed.{Routed}
use Rattle.palm_route.proofs.Descents.{stands_first, stands_inner, stands_leaf, stands_next, tree_levels}
use Rattle.palm_route.proofs.descent.walk.Goals as goal

pub loop-level-init : goal.loop-level-init
loop-level-init c =
    let begin = c.requires.begin in
    record {
      part = refl;
      stands = rw (ap (λ (r : Routed). r.path) begin, ap (λ (r : Routed). r.low) begin, ap (λ (r : Routed). r.leaf) begin)
          (stands_first (map_of c.args.arena.now.places) c.args.shape c.args.routed.now.part.key c.requires.tree);
    }

pub read-requires : goal.read-requires
read-requires c =
    let here = stands_inner (map_of c.args.arena.now.places) _ _ _ _ _ _ _ c.loop-level.invariant.stands c.loop-level-test.true in
    subst IsSome (sym here.1) refl

pub unreachable-requires : goal.unreachable-requires
unreachable-requires c =
    let here = stands_inner (map_of c.args.arena.now.places) _ _ _ _ _ _ _ c.loop-level.invariant.stands c.loop-level-test.true in
    let same = here.1 in
    let read = c.read.ensures.node in
    let leaf = c.in_default.is in
    absurd cc

pub push-requires : goal.push-requires
push-requires c =
    let levels = tree_levels (map_of c.args.arena.now.places) c.args.shape c.requires.tree in
    record {
      room = omega (arith, levels.1, c.loop-level.invariant.stands.steps, c.loop-level-test.true);
      child = c.route-child.ensures.few;
    }

pub loop-level-preserved : goal.loop-level-preserved
loop-level-preserved c =
    let loop = c.loop-level in
    let key : loop.routed.part.key ≡ c.args.routed.now.part.key = ap (λ (p : Part). p.key) loop.invariant.part in
    let read = c.read.ensures.node ∙ ap Some c.in-Inner.is in
    let turn = subst (λ k. c.route-child.result ≡ route_of k c.in-Inner.inner.separators) key c.route-child.ensures.route in
    record {
      part = loop.invariant.part;
      stands = rw c.push.ensures
          (stands_next (map_of c.args.arena.now.places) _ _ _ _ _ _ _ c.in-Inner.inner c.route-child.result c.low_of_child-routed.result c.child-routed.result loop.invariant.stands c.loop-level-test.true read turn c.child-routed.ensures
          c.low_of_child-routed.ensures);
    }

pub returns : goal.returns
returns c =
    let loop = c.loop-level in
    let key : loop.routed.part.key ≡ c.args.routed.now.part.key = ap (λ (p : Part). p.key) loop.invariant.part in
    record {
      part = loop.invariant.part;
      routed = rw key (stands_leaf (map_of c.args.arena.now.places) _ _ _ _ _ _ _ loop.invariant.stands (omega (arith, c.loop-level-test.false)));
    }
