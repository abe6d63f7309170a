use Rattle.std.proofs.Common.{rules, ◌≡◌, ◌-◌, true, false, ltb, take, drop, filter, length, get_or, refl, ap, ◌∙◌, arith}
use Rattle.std.proofs.lemmas.Bool.{ltb-true, lt-leb}
use Rattle.std.proofs.lemmas.List.{length-drop, take_all}
use Rattle.std.proofs.lemmas.List.Sorted.{IsPartitionPoint-from_clause, IsPartitionedBy-ltb}
use Rattle.palm_base.proofs.RowPlaces.{keys_rise}
use Rattle.palm_base.specs.Table.{row_key, lies_within}
use Rattle.palm_base.specs.declared.row.Row.{Row}
use Rattle.palm_leaf.proofs.Ranges.{none_before}
use Rattle.palm_leaf.proofs.rows.list_range.Goals as goal

before : (c : goal.After-list_within) (row : Row) → ltb (row_key row) c.args.from ≡ true → lies_within c.args.from c.args.to row ≡ false
before c row less = rw (lt-leb c.args.from (row_key row) (ltb-true (row_key row) c.args.from less)) refl

pub returns : goal.returns
returns c =
    let rows = c.args.rows.now in
    let first = c.partition_point-first.result in
    let parted = IsPartitionedBy-ltb row_key rows c.args.from (keys_rise rows c.requires.table) in
    let point = IsPartitionPoint-from_clause (λ row. ltb (row_key row) c.args.from) _ _ c.partition_point-first.ensures.partitioned parted (λ a r q k. search rules) in
    let none = none_before (lies_within c.args.from c.args.to) rows first (λ i other least below. before c (get_or rows i other) (point.0 i other least below)) in
    c.list_within.ensures
    ∙ ap (λ found. take c.args.limit (filter (lies_within c.args.from c.args.to) found)) (take_all (length rows - first) (drop first rows) (omega (arith, length-drop first rows)))
    ∙ ap (take c.args.limit) none
