-- Lists that have one item for each caller.
use Rattle.std.proofs.Common.{◌≡◌, ℕ, ◌<◌, length, map, get_or, arith}
use Rattle.std.proofs.lemmas.List.FromFn.{length-map-range_with_len, get_or-map-range_with_len}
use Rattle.palm_script.specs.Storms.{callers}

pub each_caller : {X : Type 0} (of : ℕ → X) → length (map of callers) ≡ 64
unfolding callers
each_caller of = length-map-range_with_len of 0 64

pub at_caller : {X : Type 0} (of : ℕ → X) (none : X) (caller : ℕ) → caller < 64 → get_or (map of callers) caller none ≡ of caller
unfolding callers
at_caller of none caller small = get_or-map-range_with_len of 0 64 caller caller none small (omega arith)
