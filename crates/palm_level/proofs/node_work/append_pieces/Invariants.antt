use Rattle.std.proofs.Common.{◌≡◌, ◌++◌, take}
use Rattle.std.specs.Vec.{vec_capacity}
use Rattle.palm_level.proofs.node_work.append_pieces.Given as goal

-- the pieces so far are appended
abbrev pub invariant-loop-piece : goal.invariant-loop-piece
invariant-loop-piece l = (l.children.items ≡ l.initial.children.items ++ take l.piece-index l.pieces) × (vec_capacity l.children ≡ vec_capacity l.initial.children)
