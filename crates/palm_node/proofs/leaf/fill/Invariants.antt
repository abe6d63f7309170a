use Rattle.std.proofs.Common.{◌≡◌, length, take}
use Rattle.std.specs.List.{AllByRecursion}
use Rattle.arrayvec.specs.ArrayVec.{array_vec_len}
use Rattle.palm_base.specs.Key.{IsKey}
use Rattle.palm_base.specs.declared.bounds.TheConstants.{MOST_LEAF_ROWS}
use Rattle.palm_node.specs.LeafRows.{rows_of}
use Rattle.palm_node.proofs.leaf.fill.Given as goal

-- the rows so far are held
abbrev pub invariant-loop-i : goal.invariant-loop-i
invariant-loop-i l = record {
  room : length l.keys ≡ MOST_LEAF_ROWS;
  len : array_vec_len l.rates ≡ l.i;
  rows : rows_of l.keys l.rates.items ≡ take l.i l.rows;
  prefixes : AllByRecursion IsKey (take l.i l.keys);
}
