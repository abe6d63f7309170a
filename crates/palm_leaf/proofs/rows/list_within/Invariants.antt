use Rattle.std.proofs.Common.{◌≡◌, ◌≤◌, vec_capacity, drop, take, filter, length}
use Rattle.palm_base.specs.Table.{lies_within}
use Rattle.palm_leaf.proofs.Ranges.{listed_with}
use Rattle.palm_leaf.proofs.rows.list_within.Given as goal

-- The rows so far and those to come are all that are looked for.
abbrev pub invariant-loop-row : goal.invariant-loop-row
invariant-loop-row l = record {
  whole : listed_with (lies_within l.from l.to) l.limit l.found.items (drop l.row-index l.rows) ≡ take l.limit (filter (lies_within l.from l.to) l.rows);
  few : length l.found.items ≤ l.row-index;
  below : length l.found.items ≤ l.limit;
  capacity : vec_capacity l.found ≡ vec_capacity l.fn.found;
}
