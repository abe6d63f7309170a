use Rattle.std.proofs.Common.{◌≡◌, ◌≤◌, length, map, take}
use Rattle.std.specs.List.{AllByRecursion}
use Rattle.std.specs.Vec.{vec_capacity}
use Rattle.palm_arena.specs.Leaves.{leaves_at}
use Rattle.palm_arena.specs.Reads.{map_of}
use Rattle.palm_route.specs.declared.part.Routed.{Routed}
use Rattle.palm_route.specs.Groups.{IsRoutedTo}
use Rattle.palm_route.proofs.descent.DescentWorkJob.run.Given as goal

-- the parts so far are routed, and there is room for all
abbrev pub invariant-loop-part : goal.invariant-loop-part
invariant-loop-part l = record {
  arena : l.self.arena.now ≡ l.fn.self.arena.now;
  shape : l.self.shape ≡ l.fn.self.shape;
  parts : map (λ (one : Routed). one.part) l.self.routed.items ≡ take l.part-index l.fn.self.parts.now;
  routed : AllByRecursion (IsRoutedTo (leaves_at (map_of l.fn.self.arena.now.places) l.fn.self.shape)) l.self.routed.items;
  room : length l.fn.self.parts.now ≤ vec_capacity l.self.routed;
}
