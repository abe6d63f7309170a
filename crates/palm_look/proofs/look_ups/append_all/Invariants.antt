use Rattle.std.proofs.Common.{◌≡◌}
use Rattle.std.specs.List.{AllByRecursion, flat_map}
use Rattle.palm_look.specs.Shares.{answers_of, IsDone}
use Rattle.palm_look.proofs.look_ups.append_all.Given as goal

-- the answers of the shares so far, which are done
abbrev pub invariant-loop-work : goal.invariant-loop-work
invariant-loop-work l = record {
  joined : l.answers.items ≡ flat_map answers_of l.yielded;
  done : AllByRecursion IsDone l.yielded;
}
