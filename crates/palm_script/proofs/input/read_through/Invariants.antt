use Rattle.std.proofs.Common.{◌≡◌, ◌≤◌, ◌-◌, length}
use Rattle.std.specs.Io.KnownBytes.{Consumes}
use Rattle.palm_script.proofs.input.read_through.Given as goal

abbrev pub invariant-loop-bytes : goal.invariant-loop-bytes
invariant-loop-bytes g l =
    let left = g.S.Source.left in
    let faults = g.S.Source.faults in
    record {
      bytes : Consumes (left l.fn.src) (left l.src) l.bytes.items;
      most : length l.bytes.items ≤ 67_108_865;
      faults : faults l.src ≡ faults l.fn.src;
    }

abbrev pub decreases-loop-bytes : goal.decreases-loop-bytes
decreases-loop-bytes g l = 67_108_866 - length l.bytes.items
