use Rattle.std.proofs.Common.{◌≡◌, ◌≤◌, take, length, vec_len, vec_capacity}
use Rattle.palm_route.specs.Marks.{marks_from}
use Rattle.palm_route.proofs.grouping.marks_of.Given as goal

-- the parts so far are marked, and there is room for the marks of the others
abbrev pub invariant-loop-place : goal.invariant-loop-place
invariant-loop-place l = record {
  marks : l.marks.items ≡ marks_from 0 (take l.place l.routed);
  len : vec_len l.marks ≡ l.place;
  room : length l.routed ≤ vec_capacity l.marks;
}
