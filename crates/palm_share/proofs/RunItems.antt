-- Items that were run are there, and stand in a vector that was written whole.
use Rattle.std.proofs.Common.{◌≡◌, ℕ, List, [], ◌∷◌, ◌++◌, length, take, drop, take_all, ap, ◌∙◌, arith}
use Rattle.std.specs.Prelude.{Option, None, Some}
use Rattle.std.specs.List.{AllZip, AllByRecursion}
use Rattle.std.proofs.lemmas.List.{append-nil, drop_all}
use Rattle.palm_share.specs.Jobs.{Holds, Relates}

pub all_there : {X : Type 0} (R : X → X → Type 0) (before after : List (Option X)) → AllZip (Relates R) before after → AllByRecursion (Holds (λ (x : X). Unit {0})) after
all_there R [] [] ran = tt
all_there R [] (item ∷ after) ran = absurd ran
all_there R (item ∷ before) [] ran = absurd ran
all_there R (None ∷ before) (other ∷ after) ran = absurd ran.0
all_there R (Some item ∷ before) (None ∷ after) ran = absurd ran.0
all_there R (Some item ∷ before) (Some other ∷ after) ran = (tt, all_there R before after ran.1)

-- What stands in a vector after all of its places are written.
pub whole_written : {X : Type 0} (xs new : List X) (n : ℕ) → n ≡ length xs → length new ≡ length xs → take n (new ++ drop (length new) xs) ≡ new
whole_written xs new n count same =
    ap (λ (l : List _). take n (new ++ l)) (drop_all (length new) xs (omega (arith, same))) ∙ ap (take n) (append-nil new) ∙ take_all n new (omega (arith, count, same))
