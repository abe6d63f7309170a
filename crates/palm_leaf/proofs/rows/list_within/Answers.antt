use Rattle.std.proofs.Common.{◌<◌, ◌+◌, ◌∙◌, sym, ap, arith, length, drop, length-append, [], ◌∷◌}
use Rattle.palm_base.specs.Table.{lies_within}
use Rattle.palm_leaf.proofs.Ranges.{listed_with, passes_by, one_listed, from_item}
use Rattle.palm_leaf.proofs.rows.list_within.Goals as goal
use Rattle.palm_leaf.proofs.rows.list_within.Goals.{then-is_within, else-is_within}

pub loop-row-preserved : goal.loop-row-preserved
loop-row-preserved c =
    let test = lies_within c.args.from c.args.to in
    let far = c.loop-row.invariant in
    let item = from_item c.args.rows.now c.loop-row.row-index c.row-item.result c.loop-row-test.true c.row-item.is in
    let rest = drop (c.loop-row.row-index + 1) c.args.rows.now in
    elim c.if-is_within.branch [
      | then-is_within w ↦
          let less : length c.loop-row.found.items < c.args.limit = omega (arith, far.below, c.len.ensures, c.if-len-limit.false) in
          rw (w.found-is, w.push_reserved.ensures.items) record {
            whole = one_listed test c.args.limit c.loop-row.found.items rest c.row-item.result (sym c.is_within.ensures ∙ w.if-is_within.true) less ∙ ap (listed_with test c.args.limit c.loop-row.found.items) (sym item) ∙ far.whole;
            few = omega (arith, far.few, length-append c.loop-row.found.items (c.row-item.result ∷ []));
            below = omega (arith, less, length-append c.loop-row.found.items (c.row-item.result ∷ []));
            capacity = w.push_reserved.ensures.capacity ∙ far.capacity;
          }
      | else-is_within w ↦ rw w.found-is record {
        whole = passes_by test c.args.limit c.loop-row.found.items rest c.row-item.result (sym c.is_within.ensures ∙ w.if-is_within.false) ∙ ap (listed_with test c.args.limit c.loop-row.found.items) (sym item) ∙ far.whole;
        few = omega (arith, far.few);
        below = far.below;
        capacity = far.capacity;
      }
    ]
