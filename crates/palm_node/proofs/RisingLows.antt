-- Lows that strictly rise, in parts of lists of pieces.
use Rattle.std.proofs.Common.{◌≡◌, ℕ, zero, suc, ◌+◌, List, [], ◌∷◌, map, take, drop, arith}
use Rattle.std.specs.List.{AllByRecursion}
use Rattle.std.specs.List.Sorted.{IsStrictlyIncreasing}
use Rattle.palm_node.specs.declared.id.Piece.{Piece}
use Rattle.palm_node.specs.InnerNode.{Rise, later_lows}

abbrev piece_lows : List Piece → List ℕ
piece_lows pieces = map (λ piece. piece.low) pieces

pub rise_increasing : (numbers : List ℕ) → Rise numbers → IsStrictlyIncreasing numbers
rise_increasing [] rise k less = absurd (omega arith)
rise_increasing (x ∷ []) rise k less = absurd (omega arith)
rise_increasing (x ∷ y ∷ ys) rise zero less = rise.0.0
rise_increasing (x ∷ y ∷ ys) rise (suc k) less =
    let e : suc k + 1 ≡ suc (k + 1) = omega arith in
    rw e (rise_increasing (y ∷ ys) rise.1 k (omega (arith, less)))

low_take : (P : ℕ → Type 0) (k : ℕ) (pieces : List Piece) → AllByRecursion P (piece_lows pieces) → AllByRecursion P (piece_lows (take k pieces))
low_take P zero pieces all = tt
low_take P (suc k) [] all = tt
low_take P (suc k) (piece ∷ pieces) all = (all.0, low_take P k pieces all.1)

rise_take : (k : ℕ) (pieces : List Piece) → Rise (piece_lows pieces) → Rise (piece_lows (take k pieces))
rise_take zero pieces rise = tt
rise_take (suc k) [] rise = tt
rise_take (suc k) (piece ∷ pieces) rise = (low_take _ k pieces rise.0, rise_take k pieces rise.1)

rise_drop : (k : ℕ) (pieces : List Piece) → Rise (piece_lows pieces) → Rise (piece_lows (drop k pieces))
rise_drop zero pieces rise = rise
rise_drop (suc k) [] rise = tt
rise_drop (suc k) (piece ∷ pieces) rise = rise_drop k pieces rise.1

-- The lows past the first of a front rise, and so do those of the rest.
pub later_take : (k : ℕ) (pieces : List Piece) → Rise (later_lows pieces) → Rise (later_lows (take k pieces))
later_take zero pieces rise = tt
later_take (suc k) [] rise = tt
later_take (suc k) (piece ∷ pieces) rise = rise_take k pieces rise

pub later_drop : (k : ℕ) (pieces : List Piece) → Rise (later_lows pieces) → Rise (later_lows (drop k pieces))
later_drop zero pieces rise = rise
later_drop (suc k) [] rise = tt
later_drop (suc k) (piece ∷ pieces) rise = rise_drop 1 (drop k pieces) (rise_drop k pieces rise)
