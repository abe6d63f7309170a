use Rattle.std.proofs.Common.{◌<◌, refl, ap, sym, ◌∙◌, Some, get_or, arith, is_some, subst}
use Rattle.palm_level.proofs.Taking.{dropped_turns}
use Rattle.palm_arena.specs.Reads.{map_of}
use Rattle.palm_arena.specs.Placed.{node_of}
use Rattle.palm_node.specs.declared.id.NodeId.{NodeId}
use Rattle.palm_node.specs.declared.node.Node.TheVariants.{Leaf}
use Rattle.palm_root.specs.Sweeps.{kept_children}
use Rattle.palm_root.proofs.Sweeping.{held, inner_read, leaf_dropped, half_none, half_next, half_more, half_held, half_last, beside, child_id, children_over, gone_home}
use Rattle.palm_root.proofs.removal.+sweep.Goals as goal

pub read-requires : goal.read-requires
read-requires t c = held (map_of c.args.arena.now.places) c.args.below c.args.id c.requires.stands.0 c.requires.stands.1 c.requires.stands.2

pub returns-in-Leaf-clause-swept : goal.returns-in-Leaf-clause-swept
returns-in-Leaf-clause-swept t c kept others stands =
    leaf_dropped (map_of c.args.arena.now.places) (map_of c.drop_node.new.self.places) c.args.below c.args.id c.args.rows.now.items c.append_rows.new.rows.items kept others c.in-Leaf.leaf
    stands (c.read.ensures.node ∙ ap Some c.in-Leaf.is) c.in_ok-append_rows-in-Leaf.ensures.ok (dropped_turns c.args.arena.now c.drop_node.new.self c.args.id (Leaf c.in-Leaf.leaf) c.in_ok-drop_node-in-Leaf.ensures.ok)

pub returns-in-Leaf-clause-none_lent : goal.returns-in-Leaf-clause-none_lent
returns-in-Leaf-clause-none_lent t c = gone_home c.args.arena.now c.drop_node.new.self c.args.id c.in_ok-drop_node-in-Leaf.ensures.ok c.requires.none_lent

pub loop-child-init : goal.loop-child-init
loop-child-init t c = record {
  half = λ kept others stands. half_none (map_of c.args.arena.now.places) c.args.rows.now.items c.args.below c.args.id kept others stands;
  begun = refl;
  moved = refl;
  none_lent = c.requires.none_lent;
}

pub overflow_sub-below : goal.overflow_sub-below
overflow_sub-below t c =
    let is = inner_read (map_of c.args.arena.now.places) c.args.below c.args.id c.requires.stands.0 c.requires.stands.1 c.in-Inner.inner c.requires.stands.2 (c.read.ensures.node ∙ ap Some c.in-Inner.is) in
    is.0

pub sweep-requires : goal.sweep-requires
sweep-requires t c =
    let kept = c.requires.stands.0 in
    let others = c.requires.stands.1 in
    let stands = c.requires.stands.2 in
    let id : NodeId = record { place = 0 } in
    let is = inner_read (map_of c.args.arena.now.places) c.args.below c.args.id kept others c.in-Inner.inner stands (c.read.ensures.node ∙ ap Some c.in-Inner.is) in
    let ids = c.as_slice-child-items.ensures.value ∙ c.children_of-children.ensures ∙ is.1 in
    let d = child_id kept c.as_slice-child-items.result.now c.loop-child.child-index kept id ids c.loop-child-test.true in (
      omega (arith, is.0),
      (
        ap is_some c.loop-child.invariant.begun ∙ c.requires.under_way,
        (
          c.loop-child.invariant.none_lent,
          (
            get_or (kept_children kept) c.loop-child.child-index kept,
            beside kept others c.loop-child.child-index,
            half_next (map_of c.loop-child.arena.places) c.args.rows.now.items c.loop-child.rows.items kept others c.args.below c.loop-child.child-index _ kept d.1 stands.below-is d.0 (c.loop-child.invariant.half kept others stands),
          ),
        ),
      ),
    )

pub loop-child-preserved : goal.loop-child-preserved
loop-child-preserved t c = record {
  half = λ kept others stands.
      let id : NodeId = record { place = 0 } in
      let is = inner_read (map_of c.args.arena.now.places) c.args.below c.args.id kept others c.in-Inner.inner stands (c.read.ensures.node ∙ ap Some c.in-Inner.is) in
      let ids = c.as_slice-child-items.ensures.value ∙ c.children_of-children.ensures ∙ is.1 in
      let d = child_id kept c.as_slice-child-items.result.now c.loop-child.child-index kept id ids c.loop-child-test.true in
      let half = c.loop-child.invariant.half kept others stands in
      let next = half_next (map_of c.loop-child.arena.places) c.args.rows.now.items c.loop-child.rows.items kept others c.args.below c.loop-child.child-index _ kept d.1 stands.below-is d.0 half in
      half_more (map_of c.sweep.new.arena.places) c.args.rows.now.items c.loop-child.rows.items c.sweep.new.rows.items kept others c.loop-child.child-index kept d.1 half.rows
      (c.in_ok-sweep.ensures.swept (get_or (kept_children kept) c.loop-child.child-index kept) (beside kept others c.loop-child.child-index) next);
  begun = c.sweep.ensures.begun ∙ c.loop-child.invariant.begun;
  moved = c.sweep.ensures.moved ∙ c.loop-child.invariant.moved;
  none_lent = c.sweep.ensures.none_lent;
}

pub drop_node-requires-2-clause-held : goal.drop_node-requires-2-clause-held
drop_node-requires-2-clause-held t c =
    let kept = c.requires.stands.0 in
    let stands = c.requires.stands.2 in
    ap is_some (half_held (map_of c.loop-child.arena.places) c.args.rows.now.items c.loop-child.rows.items kept c.requires.stands.1 c.args.id c.loop-child.child-index stands.id-is (c.loop-child.invariant.half kept c.requires.stands.1 stands))

pub returns-clause-swept : goal.returns-clause-swept
returns-clause-swept t c kept others stands =
    let is = inner_read (map_of c.args.arena.now.places) c.args.below c.args.id kept others c.in-Inner.inner stands (c.read.ensures.node ∙ ap Some c.in-Inner.is) in
    let ids = c.as_slice-child-items.ensures.value ∙ c.children_of-children.ensures ∙ is.1 in
    let over = children_over kept c.as_slice-child-items.result.now c.loop-child.child-index ids c.loop-child-test.false in
    half_last (map_of c.loop-child.arena.places) (map_of c.drop_node-2.new.self.places) c.args.rows.now.items c.loop-child.rows.items kept others c.args.id c.loop-child.child-index stands.id-is (subst (λ n. 0 < n) (sym stands.below-is) is.0) over
    (c.loop-child.invariant.half kept others stands) (dropped_turns c.loop-child.arena c.drop_node-2.new.self c.args.id (node_of kept.below kept.place.1) c.in_ok-drop_node.ensures.ok)

pub returns-clause-none_lent : goal.returns-clause-none_lent
returns-clause-none_lent t c = gone_home c.loop-child.arena c.drop_node-2.new.self c.args.id c.in_ok-drop_node.ensures.ok c.loop-child.invariant.none_lent
