use Rattle.std.proofs.Common.{◌≡◌, take, map}
use Rattle.palm_node.proofs.inner.list_pieces.Given as goal

-- the parts of the pieces so far are listed
abbrev pub invariant-loop-piece : goal.invariant-loop-piece
invariant-loop-piece l = record {
  ids : l.ids.items ≡ map (λ piece. piece.id) (take l.piece-index l.pieces);
  lows : l.lows.items ≡ map (λ piece. piece.low) (take l.piece-index l.pieces);
}
