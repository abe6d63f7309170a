use Rattle.std.proofs.Common.{arith, ap, ◌∙◌, sym, subst, ◌≤◌, take, map, drop, eqb-true}
use Rattle.std.specs.Vec.{vec_len}
use Rattle.std.proofs.lemmas.List.{length-take-le}
use Rattle.palm_base.specs.Cut.{cut, piece_size}
use Rattle.palm_base.specs.declared.bounds.TheConstants.{MOST_CHILDREN}
use Rattle.palm_node.specs.InnerNode.{later_lows}
use Rattle.palm_level.specs.Splices.{children_left}
use Rattle.palm_level.specs.Works.{first_node, later_over}
use Rattle.palm_level.proofs.LaterParts.{no_parts, first_fits, some_item, parts_made}
use Rattle.palm_node.proofs.RisingLows.{rise_increasing}
use Rattle.palm_level.proofs.node_work.rework.Goals as goal

pub returns-then-is_empty-clause-node : goal.returns-then-is_empty-clause-node
returns-then-is_empty-clause-node c =
    let none = eqb-true (vec_len c.splice.new.children) 0 (sym c.is_empty.ensures ∙ c.if-is_empty.true) in
    let parts = no_parts c.splice.new.children.items (omega (arith, none)) in
    ap (first_node c.args.inner.now) (sym parts ∙ ap (cut MOST_CHILDREN) c.splice.ensures)

pub returns-then-is_empty-clause-later : goal.returns-then-is_empty-clause-later
returns-then-is_empty-clause-later c =
    let none = eqb-true (vec_len c.splice.new.children) 0 (sym c.is_empty.ensures ∙ c.if-is_empty.true) in
    let parts = no_parts c.splice.new.children.items (omega (arith, none)) in
    c.requires.no_later ∙ ap (λ ps. map later_over (drop 1 ps)) (sym parts ∙ ap (cut MOST_CHILDREN) c.splice.ensures)

pub slice_bounds-over-end : goal.slice_bounds-over-end
slice_bounds-over-end c =
    let some = some_item (vec_len c.splice.new.children) (sym c.is_empty.ensures ∙ c.if-is_empty.false) in
    let fits = first_fits c.deref.result.now (children_left c.args.inner.now c.args.changes.now) c.piece_size-size.result c.len.result (c.deref.ensures.value ∙ c.splice.ensures)
    (c.len.ensures ∙ sym c.deref.ensures.len) (subst (λ n. 1 ≤ n) (sym c.len.ensures) some) c.requires.can.rising c.piece_size-size.ensures in
    sym (length-take-le c.piece_size-size.result c.deref.result.now fits.0)

pub over-requires-clause-some : goal.over-requires-clause-some
over-requires-clause-some c =
    let some = some_item (vec_len c.splice.new.children) (sym c.is_empty.ensures ∙ c.if-is_empty.false) in
    let fits = first_fits c.deref.result.now (children_left c.args.inner.now c.args.changes.now) c.piece_size-size.result c.len.result (c.deref.ensures.value ∙ c.splice.ensures)
    (c.len.ensures ∙ sym c.deref.ensures.len) (subst (λ n. 1 ≤ n) (sym c.len.ensures) some) c.requires.can.rising c.piece_size-size.ensures in
    fits.1.0

pub over-requires-clause-few : goal.over-requires-clause-few
over-requires-clause-few c =
    let some = some_item (vec_len c.splice.new.children) (sym c.is_empty.ensures ∙ c.if-is_empty.false) in
    let fits = first_fits c.deref.result.now (children_left c.args.inner.now c.args.changes.now) c.piece_size-size.result c.len.result (c.deref.ensures.value ∙ c.splice.ensures)
    (c.len.ensures ∙ sym c.deref.ensures.len) (subst (λ n. 1 ≤ n) (sym c.len.ensures) some) c.requires.can.rising c.piece_size-size.ensures in
    fits.1.1

pub over-requires-clause-rising : goal.over-requires-clause-rising
over-requires-clause-rising c =
    let some = some_item (vec_len c.splice.new.children) (sym c.is_empty.ensures ∙ c.if-is_empty.false) in
    let fits = first_fits c.deref.result.now (children_left c.args.inner.now c.args.changes.now) c.piece_size-size.result c.len.result (c.deref.ensures.value ∙ c.splice.ensures)
    (c.len.ensures ∙ sym c.deref.ensures.len) (subst (λ n. 1 ≤ n) (sym c.len.ensures) some) c.requires.can.rising c.piece_size-size.ensures in
    rise_increasing (later_lows (take c.piece_size-size.result c.deref.result.now)) fits.2

pub returns-clause-node : goal.returns-clause-node
returns-clause-node c =
    let some = some_item (vec_len c.splice.new.children) (sym c.is_empty.ensures ∙ c.if-is_empty.false) in
    parts_made c.args.inner.now c.over.result c.deref.result.now (children_left c.args.inner.now c.args.changes.now) c.piece_size-size.result (c.deref.ensures.value ∙ c.splice.ensures)
    (subst (λ n. 1 ≤ n) (sym c.deref.ensures.len) some) c.requires.can.rising (c.piece_size-size.ensures ∙ ap (λ n. piece_size MOST_CHILDREN n 0) (c.len.ensures ∙ sym c.deref.ensures.len)) c.over.ensures
