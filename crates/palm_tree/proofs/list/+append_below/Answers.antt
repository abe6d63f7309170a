use Rattle.std.proofs.Common.{◌-◌, ◌≤◌, inl, inr, length, sym, arith}
use Rattle.palm_tree.specs.Below.{rows_below}
use Rattle.palm_tree.proofs.Children.{node_held, leaf_below, children_below, child_stands}
use Rattle.palm_tree.proofs.ChildParts.{children_begin, child_appended, children_end}
use Rattle.palm_tree.proofs.Limits.{take_short}
use Rattle.palm_tree.proofs.list.+append_below.Goals as goal

pub read-requires : goal.read-requires
read-requires t c = node_held c.args.arena.now.places c.args.below c.args.id c.requires.node

pub returns-in-Leaf : goal.returns-in-Leaf
returns-in-Leaf t c =
    rw (leaf_below _ _ _ _ _ c.requires.node c.read.ensures.node c.in-Leaf.is) c.append_from_leaf.ensures

pub loop-i-init : goal.loop-i-init
loop-i-init t c =
    let has = children_below _ _ _ _ _ c.requires.node c.read.ensures.node c.in-Inner.is in
    rw c.route-i.ensures.route
    (children_begin _ _ c.args.range.now.limit c.args.rows.now _ _ _ _ _ has c.requires.within)

pub overflow_sub-below : goal.overflow_sub-below
overflow_sub-below t c =
    let has = children_below _ _ _ _ _ c.requires.node c.read.ensures.node c.in-Inner.is in
    omega (arith, has.one_less)

pub append_below-requires : goal.append_below-requires
append_below-requires t c =
    let has = children_below _ _ _ _ _ c.requires.node c.read.ensures.node c.in-Inner.is in
    let limit = c.args.range.now.limit in
    let fits : length c.loop-i.rows ≤ limit = rw c.loop-i.invariant (take_short limit _) in
    (omega (arith, has.one_less, c.decreases), (child_stands _ _ _ _ _ c.loop-i.i c.child.result has c.child.ensures, fits))

pub overflow_add-i : goal.overflow_add-i
overflow_add-i t c =
    let has = children_below _ _ _ _ _ c.requires.node c.read.ensures.node c.in-Inner.is in
    omega (arith, c.loop-i-test.true, c.route-last.ensures.inside, has.few)

pub loop-i-preserved : goal.loop-i-preserved
loop-i-preserved t c =
    child_appended c.args.range.now.from c.args.range.now.to c.args.range.now.limit c.args.rows.now c.loop-i.rows c.append_below.new.rows
    (rows_below c.args.arena.now.places (c.args.below - 1)) c.in-Inner.inner.children c.loop-i.i c.child.result c.loop-i.invariant c.child.ensures c.in_ok-append_below.ensures.ok

pub returns-else-len-range : goal.returns-else-len-range
returns-else-len-range t c =
    let has = children_below _ _ _ _ _ c.requires.node c.read.ensures.node c.in-Inner.is in
    record {
      ok = children_end _ _ c.args.range.now.limit _ _ _ _ _ _ _ _ has c.loop-i.invariant (inr (omega (arith, c.len.ensures, c.if-len-range.false)));
    }

pub returns-after-loop-i : goal.returns-after-loop-i
returns-after-loop-i t c =
    let has = children_below _ _ _ _ _ c.requires.node c.read.ensures.node c.in-Inner.is in
    record {
      ok = children_end _ _ c.args.range.now.limit _ _ _ _ _ _ _ _ has c.loop-i.invariant (inl (omega (arith, sym c.route-last.ensures.route, c.loop-i-test.false)));
    }
