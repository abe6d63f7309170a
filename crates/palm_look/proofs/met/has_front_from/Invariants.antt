use Rattle.std.proofs.Common.{◌≡◌, ℕ, ◌≤◌, ◌<◌, take}
use Rattle.palm_base.specs.Key.{key}
use Rattle.palm_look.specs.Met.{HasNone}
use Rattle.palm_look.proofs.met.has_front_from.Given as goal

-- no key is that of a front that was looked for
abbrev pub invariant-loop-digits : goal.invariant-loop-digits
invariant-loop-digits l = record {
  none : (n : ℕ) → l.least ≤ n → n < l.digits → HasNone (λ k. k ≡ key (take n l.number)) l.keys;
}
