use Rattle.std.proofs.Common.{arith, ap, ◌∙◌, ◌++◌, sym, ◌+◌, ℕ, List, length, drop}
use Rattle.palm_node.specs.declared.id.NodeId.{NodeId}
use Rattle.palm_node.specs.declared.id.Piece.{Piece}
use Rattle.palm_level.specs.Splices.{children_of, children_left, spliced}
use Rattle.palm_level.proofs.Splicing.{splice_end, length_children, turn}
use Rattle.palm_level.proofs.node_work.splice.Goals as goal

pub append_own-requires-clause-order : goal.append_own-requires-clause-order
append_own-requires-clause-order c =
    (turn (children_of c.args.inner.now) c.loop-change.children.items c.args.changes.now c.loop-change.from c.loop-change.change-index _ c.last_step_of-place.result.1 c.change-item.result _
    c.loop-change-test.true c.change-item.is (ap (λ (s : NodeId × ℕ). s.1) c.last_step_of-place.ensures) (sym (length_children c.args.inner.now c.len-count.ensures.inner)) c.loop-change.invariant.places c.loop-change.invariant.done).order

pub append_own-requires-clause-inside : goal.append_own-requires-clause-inside
append_own-requires-clause-inside c =
    let inside = (turn (children_of c.args.inner.now) c.loop-change.children.items c.args.changes.now c.loop-change.from c.loop-change.change-index _ c.last_step_of-place.result.1 c.change-item.result _
    c.loop-change-test.true c.change-item.is (ap (λ (s : NodeId × ℕ). s.1) c.last_step_of-place.ensures) (sym (length_children c.args.inner.now c.len-count.ensures.inner)) c.loop-change.invariant.places c.loop-change.invariant.done).inside in
    omega (arith, inside)

pub append_own-requires-clause-room : goal.append_own-requires-clause-room
append_own-requires-clause-room c =
    let fits = (turn (children_of c.args.inner.now) c.loop-change.children.items c.args.changes.now c.loop-change.from c.loop-change.change-index _ c.last_step_of-place.result.1 c.change-item.result _
    c.loop-change-test.true c.change-item.is (ap (λ (s : NodeId × ℕ). s.1) c.last_step_of-place.ensures) (sym (length_children c.args.inner.now c.len-count.ensures.inner)) c.loop-change.invariant.places c.loop-change.invariant.done).fits in
    let room = c.requires.room in
    omega (arith, fits, room, c.loop-change.invariant.capacity)

pub append_pieces-requires : goal.append_pieces-requires
append_pieces-requires c =
    let fits = (turn (children_of c.args.inner.now) c.loop-change.children.items c.args.changes.now c.loop-change.from c.loop-change.change-index _ c.last_step_of-place.result.1 c.change-item.result _
    c.loop-change-test.true c.change-item.is (ap (λ (s : NodeId × ℕ). s.1) c.last_step_of-place.ensures) (sym (length_children c.args.inner.now c.len-count.ensures.inner)) c.loop-change.invariant.places c.loop-change.invariant.done).fits in
    let room = c.requires.room in
    let own = c.append_own.ensures.len in
    let new = ap length c.as_slice.ensures in
    record { room = omega (arith, fits, room, own, new, c.append_own.ensures.capacity, c.loop-change.invariant.capacity) }

pub append_own-requires-2-clause-room : goal.append_own-requires-2-clause-room
append_own-requires-2-clause-room c =
    let end = splice_end (children_of c.args.inner.now) c.loop-change.children.items c.args.changes.now c.loop-change.from c.loop-change.change-index c.len-count.result (children_left c.args.inner.now c.args.changes.now)
    (omega arith) (c.len-count.ensures.len ∙ sym (length_children c.args.inner.now c.len-count.ensures.inner)) c.loop-change.invariant.done in
    let room = end.0 in
    let fits = c.requires.room in
    omega (arith, room, fits, c.loop-change.invariant.capacity)

pub loop-change-preserved : goal.loop-change-preserved
loop-change-preserved c =
    let step = turn (children_of c.args.inner.now) c.loop-change.children.items c.args.changes.now c.loop-change.from c.loop-change.change-index _ c.last_step_of-place.result.1 c.change-item.result _
    c.loop-change-test.true c.change-item.is (ap (λ (s : NodeId × ℕ). s.1) c.last_step_of-place.ensures) (sym (length_children c.args.inner.now c.len-count.ensures.inner)) c.loop-change.invariant.places c.loop-change.invariant.done in
    let rest = spliced (c.last_step_of-place.result.1 + 1) (children_of c.args.inner.now) (drop (c.loop-change.change-index + 1) c.args.changes.now) in
    record {
      done =
          ap (λ (l : List Piece). l ++ rest) (c.append_pieces.ensures.items ∙ ap (λ l. c.append_own.new.children.items ++ l) c.as_slice.ensures ∙ ap (λ l. l ++ c.change-item.result.pieces) c.append_own.ensures.items)
          ∙ step.grown;
      places = step.later;
      capacity = c.append_pieces.ensures.capacity ∙ c.append_own.ensures.capacity ∙ c.loop-change.invariant.capacity;
    }

pub returns : goal.returns
returns c =
    let end = splice_end (children_of c.args.inner.now) c.loop-change.children.items c.args.changes.now c.loop-change.from c.loop-change.change-index c.len-count.result (children_left c.args.inner.now c.args.changes.now)
    (omega arith) (c.len-count.ensures.len ∙ sym (length_children c.args.inner.now c.len-count.ensures.inner)) c.loop-change.invariant.done in
    c.append_own-2.ensures.items ∙ end.1
