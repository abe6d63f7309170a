use Rattle.std.proofs.Common.{◌≡◌, map}
use Rattle.std.specs.List.{AllByRecursion}
use Rattle.palm_share.specs.Jobs.{Holds}
use Rattle.palm_look.specs.Shares.{entries_of}
use Rattle.palm_look.specs.declared.look_ups.LookWork.{LookWork}
use Rattle.palm_look.proofs.look_ups.works_of.Given as goal

-- the work on the shares so far
abbrev pub invariant-loop-entries : goal.invariant-loop-entries
invariant-loop-entries l = record {
  entries : map entries_of l.works.items ≡ map (λ share. share.now) l.yielded;
  begin : AllByRecursion (Holds (λ (work : LookWork). (work.tree.now ≡ l.tree) × (work.keys.now ≡ l.keys))) l.works.items;
}
