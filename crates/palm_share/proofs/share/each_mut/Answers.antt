use Rattle.std.proofs.Common.{◌≡◌, ℕ, suc, ◌<◌, List, [], ◌∷◌, length, subst, arith}
use Rattle.std.specs.Prelude.{slice_index_or}
use Rattle.std.specs.List.{AllZip}
use Rattle.palm_share.specs.Jobs.{Relates}
use Rattle.palm_share.proofs.share.each_mut.Goals as goal

-- what holds at each place holds of the two lists side by side
side_by_side : {X : Type 0} (R : X → X → Type 0) (xs ys : List X) → length ys ≡ length xs
    → ((i : ℕ) (d : X) → i < length xs → R (slice_index_or xs i d) (slice_index_or ys i d)) → AllZip R xs ys
side_by_side R [] [] len h = tt
side_by_side R [] (y ∷ ys) len h = absurd (omega arith)
side_by_side R (x ∷ xs) [] len h = absurd (omega arith)
side_by_side R (x ∷ xs) (y ∷ ys) len h = (h 0 x (omega arith), side_by_side R xs ys (omega arith) (λ i d lt. h (suc i) d (omega arith)))

pub returns-clause-ran : goal.returns-clause-ran
returns-clause-ran g c =
    side_by_side (Relates g.J.Job.ran) c.args.items.now c.for_each_mut.new.s c.for_each_mut.auto.s (λ i d lt.
    let at = (c.for_each_mut.ensures i d lt).1 in
    let new = slice_index_or c.for_each_mut.new.s i d in
    subst (λ o. Relates g.J.Job.ran o new) at.argument_is (subst (λ o. Relates g.J.Job.ran at.argument.now o) at.left at.call))
