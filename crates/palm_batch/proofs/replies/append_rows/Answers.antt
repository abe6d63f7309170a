use Rattle.std.proofs.Common.{◌++◌, List, length, take, min, ◌-◌, ap, ◌∙◌}
use Rattle.std.proofs.lemmas.List.{take_all}
use Rattle.palm_base.specs.declared.row.Row.{Row}
use Rattle.palm_batch.proofs.LimitedRows.{behind}
use Rattle.palm_batch.proofs.replies.append_rows.Goals as goal

pub returns : goal.returns
returns c =
    let held = c.args.rows.now in
    let room = c.min-room.ensures ∙ ap (λ n. min (c.args.limit - n) c.len-2.result) c.len.ensures ∙ ap (min (c.args.limit - length held)) c.len-2.ensures in
    record {
      ok = c.loop-row.invariant ∙ ap (λ (rows : List Row). held ++ rows) (take_all c.loop-row.row-index (take c.min-room.result c.as_slice.result.now) c.loop-row-test.false ∙ ap (take c.min-room.result) c.as_slice.ensures)
          ∙ behind c.args.limit c.min-room.result held c.args.found c.requires.within room;
    }
