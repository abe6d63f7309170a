use Rattle.std.proofs.Common.{arith, ap, ◌∙◌, ◌++◌, [], ◌∷◌, append_assoc, sym, take, drop, ◌-◌}
use Rattle.palm_node.specs.declared.id.Piece.{Piece}
use Rattle.palm_level.specs.Splices.{children_of}
use Rattle.palm_level.proofs.Splicing.{own_next}
use Rattle.palm_level.proofs.node_work.append_own.Goals as goal

pub loop-i-preserved : goal.loop-i-preserved
loop-i-preserved c =
    let next = own_next c.args.inner.now c.args.from c.loop-i.i c.low_of_child-low.result c.child.result c.requires.inner (omega arith) c.low_of_child-low.ensures c.child.ensures in
    let piece : Piece = record { low = c.low_of_child-low.result; id = c.child.result } in
    record {
      items =
          c.push_reserved.ensures.items ∙ ap (λ l. l ++ piece ∷ []) c.loop-i.invariant.items
          ∙ append_assoc c.args.children.now.items (take (c.loop-i.i - c.args.from) (drop c.args.from (children_of c.args.inner.now))) (piece ∷ [])
          ∙ ap (λ l. c.args.children.now.items ++ l) (sym next);
      len = omega (arith, c.push_reserved.ensures.len, c.loop-i.invariant.len);
      capacity = c.push_reserved.ensures.capacity ∙ c.loop-i.invariant.capacity;
    }
