-- What stands for children after a level's work, and how much of it is new.
use Rattle.std.proofs.Common.{◌≡◌, ◌≤◌, ◌+◌, ℕ, suc, Bool, true, false, cond, List, [], ◌∷◌, ◌++◌, length, refl, ap, arith, length-append}
use Rattle.std.specs.Prelude.{sum_by}
use Rattle.std.specs.List.{AllByRecursion, filter}
use Rattle.std.proofs.lemmas.List.Sums.{sum_by-cons}
use Rattle.palm_node.specs.declared.id.NodeId.{NodeId}
use Rattle.palm_arena.specs.Standing.{Result, is_hit, StandsForItself}
use Rattle.palm_level.specs.Families.{pieces_under, past_first}

-- What stands for children is no more than they and the pieces past the first.
pub under_more : (W : NodeId → Bool) (l : ℕ) (rs : List (Result l)) → AllByRecursion (StandsForItself W l) rs → length (pieces_under l rs) ≤ length rs + sum_by (λ r. past_first r.pieces) (filter (is_hit W l) rs)
under_more W l [] a = omega arith
under_more W l (r ∷ rs) a = by (is_hit W l r) refl (under_more W l rs a.1)
  where
    by : (b : Bool) → is_hit W l r ≡ b → length (pieces_under l rs) ≤ length rs + sum_by (λ r. past_first r.pieces) (filter (is_hit W l) rs)
        → length (r.pieces ++ pieces_under l rs) ≤ suc (length rs) + sum_by (λ r. past_first r.pieces) (cond b (r ∷ filter (is_hit W l) rs) (filter (is_hit W l) rs))
    by true h ih = let c = sum_by-cons (λ (r : Result l). past_first r.pieces) r (filter (is_hit W l) rs) in simp length-append (omega arith)
    by false h ih = let one : length r.pieces ≡ 1 = ap length (a.0 h) in simp length-append (omega arith)
