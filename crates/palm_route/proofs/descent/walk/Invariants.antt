use Rattle.std.proofs.Common.{◌≡◌}
use Rattle.palm_arena.specs.Leaves.{leaves_at}
use Rattle.palm_arena.specs.Reads.{map_of}
use Rattle.palm_route.proofs.Descents.{Stands}
use Rattle.palm_route.proofs.descent.walk.Given as goal

-- the key's leaf is under the node that is reached
abbrev pub invariant-loop-level : goal.invariant-loop-level
invariant-loop-level l = record {
  part : l.routed.part ≡ l.fn.routed.part;
  stands : Stands (map_of l.arena.places) l.fn.routed.part.key l.fn.shape.levels l._level l.routed.path l.routed.low l.routed.leaf (leaves_at (map_of l.arena.places) l.fn.shape);
}
