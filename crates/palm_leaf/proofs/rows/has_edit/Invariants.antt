use Rattle.std.proofs.Common.{◌≡◌, map, drop}
use Rattle.palm_leaf.specs.Asked.{has_edit, part_of}
use Rattle.palm_leaf.proofs.rows.has_edit.Given as goal

-- An edit is among the parts that are still to be seen where there is one at all.
abbrev pub invariant-loop-one : goal.invariant-loop-one
invariant-loop-one l = has_edit (map part_of (drop l.one-index l.asked)) ≡ has_edit (map part_of l.asked)
