use Rattle.std.proofs.Common.{◌≡◌, ◌+◌, ◌-◌, ◌*◌, ◌^◌, drop}
use Rattle.palm_base.specs.Prefix.{digits_in}
use Rattle.palm_base.specs.Key.{packed}
use Rattle.palm_base.proofs.digits.Digits.from_digits.Given as goal

-- what is packed so far, with what is left, is the whole text
abbrev pub invariant-loop-b : goal.invariant-loop-b
invariant-loop-b l = record {
  weight : l.weight ≡ 16 ^ (15 - l.b-index);
  packed : l.word + packed (15 - l.b-index) (digits_in (drop l.b-index l.text)) * 16 ≡ packed 15 (digits_in l.text) * 16;
}
