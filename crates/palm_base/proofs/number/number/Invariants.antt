use Rattle.std.proofs.Common.{◌≡◌, ◌<◌, ◌^◌, drop}
use Rattle.std.specs.Int.Digits.{number_from_digits, number_from_digits_after}
use Rattle.palm_base.specs.Prefix.{digits_in}
use Rattle.palm_base.proofs.number.number.Given as goal

abbrev pub invariant-loop-b : goal.invariant-loop-b
invariant-loop-b l = record {
  same : number_from_digits_after 10 l.value (digits_in (drop l.b-index l.field)) ≡ number_from_digits 10 (digits_in l.field);
  small : l.value < 10 ^ l.b-index;
}
