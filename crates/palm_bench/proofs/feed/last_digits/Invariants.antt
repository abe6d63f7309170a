use Rattle.std.proofs.Common.{◌≡◌, length, All, false}
use Rattle.palm_base.specs.Prefix.{is_no_digit}
use Rattle.palm_bench.proofs.feed.last_digits.Given as goal

abbrev pub invariant-loop-place : goal.invariant-loop-place
invariant-loop-place g l = record {
  many : length l.text ≡ g.row.N;
  digits : All (λ b. is_no_digit b ≡ false) l.text;
}
