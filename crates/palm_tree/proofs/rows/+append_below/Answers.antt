use Rattle.std.proofs.Common.{◌-◌, List, ◌++◌, sym, ap, arith, ◌∙◌}
use Rattle.std.specs.List.{flat_map}
use Rattle.std.proofs.lemmas.List.{take_all}
use Rattle.palm_base.specs.declared.row.Row.{Row}
use Rattle.palm_tree.specs.Below.{rows_below}
use Rattle.palm_tree.proofs.Children.{node_held, leaf_below, children_below, child_stands}
use Rattle.palm_tree.proofs.Lists.{part_next}
use Rattle.palm_tree.proofs.rows.+append_below.Goals as goal

pub read-requires : goal.read-requires
read-requires t c = node_held c.args.arena.now.places c.args.below c.args.id c.requires.node

pub returns-in-Leaf : goal.returns-in-Leaf
returns-in-Leaf t c = record { ok = rw (leaf_below _ _ _ _ _ c.requires.node c.read.ensures.node c.in-Leaf.is) c.append_rows.ensures.ok }

pub overflow_sub-below : goal.overflow_sub-below
overflow_sub-below t c =
    let has = children_below _ _ _ _ _ c.requires.node c.read.ensures.node c.in-Inner.is in
    omega (arith, has.one_less)

pub append_below-requires : goal.append_below-requires
append_below-requires t c =
    let has = children_below _ _ _ _ _ c.requires.node c.read.ensures.node c.in-Inner.is in
    (omega (arith, has.one_less, c.decreases), child_stands _ _ _ _ _ c.loop-i.i c.child.result has c.child.ensures)

pub loop-i-preserved : goal.loop-i-preserved
loop-i-preserved t c =
    part_next (rows_below c.args.arena.now.places (c.args.below - 1)) c.in-Inner.inner.children c.loop-i.i c.child.result _ _ _
    c.child.ensures c.loop-i.invariant c.in_ok-append_below.ensures.ok

pub returns : goal.returns
returns t c =
    let has = children_below _ _ _ _ _ c.requires.node c.read.ensures.node c.in-Inner.is in
    let children = c.in-Inner.inner.children in
    let each = take_all c.loop-i.i children (omega (arith, c.len-i-end.ensures.len, c.loop-i-test.false)) in
    let all = ap (flat_map (rows_below c.args.arena.now.places (c.args.below - 1))) each ∙ sym has.rows in
    record { ok = c.loop-i.invariant ∙ ap (λ (l : List Row). c.args.rows.now.items ++ l) all }
