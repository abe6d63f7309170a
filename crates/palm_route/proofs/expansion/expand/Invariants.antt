use Rattle.std.proofs.Common.{◌≡◌, take}
use Rattle.std.specs.List.{AllByRecursion}
use Rattle.palm_arena.specs.Leaves.{leaves_at}
use Rattle.palm_arena.specs.Reads.{map_of}
use Rattle.palm_route.specs.Edits.{EditsPrefix}
use Rattle.palm_route.specs.Parts.{parts_of}
use Rattle.palm_route.proofs.expansion.expand.Given as goal

-- the entries so far have their parts, and their edits are of prefixes
abbrev pub invariant-loop-place : goal.invariant-loop-place
invariant-loop-place l = record {
  parts : l.parts ≡ parts_of (leaves_at (map_of l.fn.arena.places) l.fn.shape) 0 (take l.place l.batch);
  prefixes : AllByRecursion (λ entry. EditsPrefix entry.call) (take l.place l.batch);
}
