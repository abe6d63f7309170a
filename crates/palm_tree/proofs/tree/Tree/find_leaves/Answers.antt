use Rattle.std.proofs.Common.{get_or, sym, subst, refl, arith}
use Rattle.std.proofs.lemmas.List.{get_or-replicate}
use Rattle.palm_base.specs.Tree.{rows_of}
use Rattle.palm_arena.specs.Reads.{map_of}
use Rattle.palm_tree.specs.Floors.{IsLeafFor}
use Rattle.palm_tree.specs.TreeValue.{TreeState, tree_of, tree_in}
use Rattle.palm_tree.specs.declared.floor.Spot.{Spot}
use Rattle.palm_tree.proofs.LeafSpans.{Reaches, reaches_first, reaches_inner, reaches_leaf, reaches_next}
use Rattle.palm_tree.proofs.tree.Tree.find_leaves.Goals as goal

pub loop-level-init : goal.loop-level-init
loop-level-init c =
    let tree = c.self.inside in
    let root : Spot = record { id = tree.shape.root; low = 0 } in
    record {
      width = refl;
      reached = λ i lane spot inside.
          subst (λ (s : Spot). Reaches (map_of tree.arena.places) (rows_of (tree_of tree.arena.places tree.shape)) (get_or c.args.lanes.now i lane).key tree.shape.levels 1 s.id s.low)
          (sym (get_or-replicate 8 i root spot (omega (arith, c.requires))))
          (reaches_first tree.arena tree.shape tree.rows (get_or c.args.lanes.now i lane).key c.self.invariant);
    }

pub step_down-requires-clause-node : goal.step_down-requires-clause-node
step_down-requires-clause-node c = λ i lane spot inside.
    reaches_inner (map_of c.self.inside.arena.places) _ (get_or c.args.lanes.now i lane).key _ _ (get_or c.loop-level.spots i spot).id (get_or c.loop-level.spots i spot).low
    (c.loop-level.invariant.reached i lane spot inside) c.loop-level-test.true

pub loop-level-preserved : goal.loop-level-preserved
loop-level-preserved c = record {
  width = omega arith;
  reached = λ i lane spot inside.
      let step = c.step_down.ensures i lane spot spot inside in
      reaches_next (map_of c.self.inside.arena.places) _ (get_or c.args.lanes.now i lane).key _ _ (get_or c.loop-level.spots i spot).id (get_or c.loop-level.spots i spot).low _ _ step.node
      (c.loop-level.invariant.reached i lane spot inside) c.loop-level-test.true step.here step.child step.low;
}

pub returns : goal.returns
returns c = λ i lane spot inside.
    let at : Spot = get_or c.loop-level.spots i spot in
    subst (λ (s : TreeState). IsLeafFor s.places (rows_of (tree_in s)) (get_or c.args.lanes.now i lane).key at.id at.low) c.self.view_is
    (reaches_leaf c.self.inside.arena.places _ (get_or c.args.lanes.now i lane).key _ _ at.id at.low (c.loop-level.invariant.reached i lane spot inside) (omega (arith, c.loop-level-test.false)))
