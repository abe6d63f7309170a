-- The cut: a list in as few pieces as a width allows, of nearly equal sizes, the larger ones first.
use Rattle.std.specs.Prelude.{ℕ, ◌+◌, ◌-◌, ◌/◌, ◌%◌, nat_lt, if◌then◌else◌, List, [], ◌∷◌, length, take, drop}
use Rattle.std.proofs.Common.{zero, suc}

-- How many pieces t items are cut into at a width: none for no item, and otherwise as few as hold them.
-- So at the width 16 one to 16 items make 1 piece, and 17 make 2.
abbrev pub piece_count : ℕ → ℕ → ℕ
piece_count width t = (t + width - 1) / width

-- How many items the piece at a place has: the items are shared out evenly, and the first pieces have what is left over,
-- one each. So 17 items at the width 16 make pieces of 9 and 8, and 34 make 12, 11 and 11.
abbrev pub piece_size : ℕ → ℕ → ℕ → ℕ
piece_size width t i =
    let count = piece_count width t in
    if nat_lt i (t % count) then t / count + 1 else t / count

-- So many pieces of a list, of which the first `more` have one item more than `size`, and the others `size`.
-- So 2 pieces of a, b, c, of which 1 has more than 1 item, are (a, b) and (c).
abbrev pub even_pieces : {X : Type 0} → ℕ → ℕ → ℕ → List X → List (List X)
even_pieces zero more size items = []
even_pieces (suc count) zero size items = take size items ∷ even_pieces count zero size (drop size items)
even_pieces (suc count) (suc more) size items = take (suc size) items ∷ even_pieces count more size (drop (suc size) items)

-- A list in its pieces at a width. So a, b, c at the width 2 is cut into (a, b) and (c).
unfoldable pub cut : {X : Type 0} → ℕ → List X → List (List X)
cut width items =
    let t = length items in
    let count = piece_count width t in
    even_pieces count (t % count) (t / count) items
