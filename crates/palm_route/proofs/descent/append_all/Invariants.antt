use Rattle.std.proofs.Common.{◌≡◌, ◌≤◌, length}
use Rattle.std.specs.List.{flat_map}
use Rattle.std.specs.Vec.{vec_capacity}
use Rattle.palm_route.specs.Shares.{routed_of}
use Rattle.palm_route.proofs.descent.append_all.Given as goal

-- the routed parts so far are moved, and there is room for all
abbrev pub invariant-loop-work : goal.invariant-loop-work
invariant-loop-work l = record {
  room : length (flat_map routed_of l.fn.works.items) ≤ vec_capacity l.routed;
  joined : l.routed.items ≡ flat_map routed_of l.yielded;
}
