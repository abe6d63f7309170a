use Rattle.std.proofs.Common.{rules}
use Rattle.std.proofs.lemmas.List.Sorted.{answers_always}
use Rattle.palm_base.specs.Table.{row_key}
use Rattle.palm_base.proofs.RowSearch.{searched}
use Rattle.palm_base.proofs.search.find_row.Goals as goal

-- The closure gives a row's key.
pub returns : goal.returns
returns c =
    let facts = c.binary_search_by_key.ensures in
    let by_key = facts.position row_key (answers_always _ _ _ (λ f a r g called. search rules)) in
    searched _ c.args.rows.now c.requires _ facts.bound by_key
