use Rattle.std.proofs.Common.{Some, IsSome, slice_get, refl, sym, ap, subst, arith, ◌∙◌}
use Rattle.palm_arena.specs.Reads.{map_of}
use Rattle.palm_tree.specs.TreeValue.{tree_in}
use Rattle.palm_tree.proofs.Standing.{stands_first, stands_inner, stands_leaf, stands_next}
use Rattle.palm_tree.proofs.tree.Tree.get.Goals as goal

pub loop-level-init : goal.loop-level-init
loop-level-init c = stands_first c.self.inside.arena c.self.inside.shape c.self.inside.rows c.key-key.result c.self.invariant

pub read-requires : goal.read-requires
read-requires c =
    let here = stands_inner (map_of c.self.inside.arena.places) _ _ _ _ c.loop-level.id c.loop-level.invariant c.loop-level-test.true in
    subst IsSome (sym here.1) refl

pub unreachable-requires : goal.unreachable-requires
unreachable-requires c =
    let here = stands_inner (map_of c.self.inside.arena.places) _ _ _ _ c.loop-level.id c.loop-level.invariant c.loop-level-test.true in
    let same = here.1 in
    let read = c.read.ensures.node in
    let leaf = c.in_default.is in
    absurd cc

pub loop-level-preserved : goal.loop-level-preserved
loop-level-preserved c =
    let read = c.read.ensures.node ∙ ap Some c.in-Inner.is in
    let child = ap (λ i. slice_get c.in-Inner.inner.children i) (sym c.route.ensures.route) ∙ c.child-id.ensures in
    stands_next (map_of c.self.inside.arena.places) _ _ _ _ c.loop-level.id c.child-id.result c.in-Inner.inner c.loop-level.invariant c.loop-level-test.true read child

pub read-requires-2 : goal.read-requires-2
read-requires-2 c =
    let here = stands_leaf (map_of c.self.inside.arena.places) _ _ _ _ c.loop-level.id c.loop-level.invariant (omega (arith, c.loop-level-test.false)) in
    subst IsSome (sym here.1) refl

pub unreachable-requires-in_default-read : goal.unreachable-requires-in_default-read
unreachable-requires-in_default-read c =
    let here = stands_leaf (map_of c.self.inside.arena.places) _ _ _ _ c.loop-level.id c.loop-level.invariant (omega (arith, c.loop-level-test.false)) in
    let same = here.1 in
    let read = c.read-2.ensures.node in
    let inner = c.in_default-read.is in
    absurd cc

pub returns : goal.returns
returns c =
    let here = stands_leaf (map_of c.self.inside.arena.places) _ _ _ _ c.loop-level.id c.loop-level.invariant (omega (arith, c.loop-level-test.false)) in
    let same = here.1 in
    let rate = here.2 in
    let read = c.read-2.ensures.node in
    let leaf = c.in-Leaf.is in
    let got = c.get.ensures in
    let key = c.key-key.ensures.key in
    let view = ap tree_in c.self.view_is in
    cc
