use Rattle.std.proofs.Common.{◌≡◌, ◌++◌, drop, length}
use Rattle.std.specs.Vec.{vec_capacity}
use Rattle.palm_level.specs.Splices.{spliced, children_of, children_left, PlacesRise}
use Rattle.palm_level.proofs.node_work.splice.Given as goal

-- the children before the next change are spliced
abbrev pub invariant-loop-change : goal.invariant-loop-change
invariant-loop-change l = record {
  done : l.children.items ++ spliced l.from (children_of l.inner) (drop l.change-index l.changes) ≡ children_left l.inner l.changes;
  places : PlacesRise l.from (length l.inner.children) (drop l.change-index l.changes);
  capacity : vec_capacity l.children ≡ vec_capacity l.initial.children;
}
