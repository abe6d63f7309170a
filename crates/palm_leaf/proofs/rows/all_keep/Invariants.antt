use Rattle.std.proofs.Common.{◌≡◌, map, drop}
use Rattle.palm_leaf.specs.Asked.{all_keep, part_of}
use Rattle.palm_leaf.proofs.rows.all_keep.Given as goal

-- The parts that are still to be seen are all Sets and look-ups where all parts are.
abbrev pub invariant-loop-one : goal.invariant-loop-one
invariant-loop-one l = all_keep (map part_of (drop l.one-index l.asked)) ≡ all_keep (map part_of l.asked)
