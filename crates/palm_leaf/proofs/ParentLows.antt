-- The low that a leaf's parent has written, by the last step of the way to it.
use Rattle.std.proofs.Common.{◌≡◌, ℕ, suc, ◌-◌, cond, List, [], ◌∷◌, length, Some, sym, ap, arith, ◌∙◌}
use Rattle.std.specs.Prelude.{◌==◌, slice_get}
use Rattle.palm_node.specs.declared.id.NodeId.{NodeId}
use Rattle.palm_leaf.specs.Routed.{written_low}

pub last_step : (path : List (NodeId × ℕ)) (low : ℕ) (step : NodeId × ℕ) → slice_get path (length path - 1) ≡ Some step → written_low path low ≡ cond (step.1 == 0) 0 low
last_step [] low step e = absurd cc
last_step (own ∷ []) low step e =
    let same : own ≡ step = cc in
    ap (λ (s : NodeId × ℕ). cond (s.1 == 0) 0 low) same
last_step (own ∷ next ∷ path) low step e =
    let one : length (own ∷ next ∷ path) - 1 ≡ suc (length (next ∷ path) - 1) = omega arith in
    last_step (next ∷ path) low step (ap (slice_get (own ∷ next ∷ path)) (sym one) ∙ e)
