use Rattle.std.proofs.Common.{◌++◌, ap, sym, ◌∙◌, [], ◌∷◌, append_assoc, take}
use Rattle.std.proofs.lemmas.List.{take_more}
use Rattle.std.proofs.lemmas.Option.{slice_get_within, get_or_from_slice_get}
use Rattle.palm_node.proofs.leaf.Leaf.append_rows_reserved.Goals as goal

pub loop-i-preserved : goal.loop-i-preserved
loop-i-preserved c =
    let leaf = c.args.self.now in
    let row = c.row.result in
    let i = c.loop-i.i in
    record {
      rows =
          c.push_reserved.ensures.items ∙ ap (λ rows. rows ++ row ∷ []) c.loop-i.invariant.rows ∙ append_assoc c.args.rows.now.items (take i leaf) (row ∷ [])
          ∙ ap (λ r. c.args.rows.now.items ++ (take i leaf ++ r ∷ [])) (sym (get_or_from_slice_get leaf i row row c.row.ensures))
          ∙ ap (λ rows. c.args.rows.now.items ++ rows) (sym (take_more leaf i row (slice_get_within leaf i row c.row.ensures)));
      capacity = c.push_reserved.ensures.capacity ∙ c.loop-i.invariant.capacity;
    }
