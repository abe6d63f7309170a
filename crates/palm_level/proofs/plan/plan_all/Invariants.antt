use Rattle.std.proofs.Common.{◌≡◌, ◌++◌, ◌<◌, map, length}
use Rattle.std.specs.List.{AllByRecursion}
use Rattle.palm_arena.specs.Reads.{map_of}
use Rattle.palm_level.specs.Runs.{runs}
use Rattle.palm_level.specs.Groups.{touched_of}
use Rattle.palm_level.specs.Plans.{Fits, IsPlanned, planned_key}
use Rattle.palm_level.proofs.plan.plan_all.Given as goal

-- the parents of the changes before the rest are planned
abbrev pub invariant-loop-rest : goal.invariant-loop-rest
invariant-loop-rest l = record {
  parents : map planned_key l.planned.items ++ map (touched_of (map_of l.arena.places)) (runs l.rest) ≡ map (touched_of (map_of l.arena.places)) (runs l.changes);
  planned : AllByRecursion (IsPlanned (map_of l.arena.places)) l.planned.items;
  fits : AllByRecursion (Fits (map_of l.arena.places)) (runs l.rest);
  paths : AllByRecursion (λ change. 0 < length change.path) l.rest;
}

abbrev pub decreases-loop-rest : goal.decreases-loop-rest
decreases-loop-rest l = length l.rest
