use Rattle.std.proofs.Common.{add-one, ℕ, ◌<◌, List, [], ◌∷◌, ◌++◌, length, take, ap, arith, ◌∙◌, sym}
use Rattle.std.proofs.lemmas.List.{take_more}
use Rattle.std.proofs.Math.ListN.{length-set}
use Rattle.palm_base.specs.declared.row.Row.{Row}
use Rattle.palm_base.specs.Key.{IsKey}
use Rattle.palm_base.proofs.Keys.{is_key}
use Rattle.palm_node.proofs.HeldRows.{push_row, front_more}
use Rattle.palm_node.proofs.leaf.fill.Goals as goal

pub loop-i-preserved : goal.loop-i-preserved
loop-i-preserved c =
    let held = c.loop-i.invariant in
    let i = c.loop-i.i in
    let all = c.args.rows.now in
    let row = c.index-rows-i.result in
    let inside : i < length c.loop-i.keys = omega (arith, held.room) in
    let pushed = rw held.len at (push_row c.loop-i.keys c.loop-i.rates.items row c.key.result (omega (arith, held.len)) c.key.ensures.prefix c.key.ensures.key) in
    record {
      room = omega (arith, held.room, length-set {A = ℕ});
      len = omega (arith, c.push.ensures.len, held.len);
      rows = rw c.push.ensures.items
          (pushed ∙ ap (λ (rows : List Row). rows ++ row ∷ []) held.rows ∙ ap (λ (r : Row). take i all ++ r ∷ []) c.index-rows-i.is
          ∙ sym (take_more all i row c.loop-i-test.true));
      prefixes = rw add-one (front_more IsKey i c.loop-i.keys c.key.result inside (is_key c.key.result row.prefix c.key.ensures.prefix c.key.ensures.key) held.prefixes);
    }
