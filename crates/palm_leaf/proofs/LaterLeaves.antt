-- The leaves past the first that rows are cut into.
use Rattle.std.proofs.Common.{◌≡◌, ℕ, ◌+◌, ◌<◌, ◌≤◌, List, [], ◌∷◌, ◌++◌, map, take, drop, length, get_or, refl, sym, ap, arith, ◌∙◌, append_assoc}
use Rattle.std.proofs.lemmas.List.{append-nil}
use mathlib.Core.List.{map-append}
use Rattle.palm_base.specs.Key.{key}
use Rattle.palm_base.specs.Table.{row_key, IsTable}
use Rattle.palm_base.specs.Cut.{piece_count, piece_size}
use Rattle.palm_base.specs.Pass.{first_low, with_lows, leaves_of}
use Rattle.palm_base.specs.declared.bounds.TheConstants.{MOST_LEAF_ROWS, LEAST_LEAF_ROWS}
use Rattle.palm_base.specs.declared.row.Row.{Row}
use Rattle.palm_base.proofs.CutSteps.{pieces_left, IsCutTo, left_first, left_next, left_last, cut_first, cut_next, next_fits}
use Rattle.palm_base.proofs.Tables.{table_drop}
use Rattle.palm_leaf.specs.Worked.{low_and_rows}
use Rattle.palm_leaf.specs.declared.leaf_work.NewLeaf.{NewLeaf}

-- The leaves over pieces of rows, each at the key of its first row.
abbrev pub leaves_over : List (List Row) → List (ℕ × List Row)
leaves_over parts = map {B = ℕ × List Row} (λ part. (first_low row_key part, part)) parts

-- How many rows the first piece has.
abbrev pub first_size : List Row → ℕ
first_size rows = piece_size MOST_LEAF_ROWS (length rows) 0

-- Where there is a row there is a piece.
pub some_pieces : (t : ℕ) → 0 < t → 0 < piece_count MOST_LEAF_ROWS t
some_pieces t some = omega arith

-- Past the first piece the others are left.
pub first_cut : (rows : List Row) → 0 < length rows → IsCutTo MOST_LEAF_ROWS (length rows) 1 (drop (first_size rows) rows)
first_cut rows some = cut_next MOST_LEAF_ROWS (length rows) 0 rows (some_pieces (length rows) some) (cut_first LEAST_LEAF_ROWS rows (omega arith))

pub first_key : (part : List Row) (row : Row) (k : ℕ) → 0 < length part → k ≡ key (get_or part 0 row).prefix → k ≡ first_low row_key part
first_key [] row k some e = absurd (omega arith)
first_key (first ∷ part) row k some e = e

-- The leaves so far with those of the pieces that are left are all.
pub record LaterSoFar (rows : List Row) (i : ℕ) (rest : List Row) (made : List NewLeaf) : Type 0 where
  pub whole : map low_and_rows made ++ leaves_over (pieces_left MOST_LEAF_ROWS (length rows) i rest) ≡ leaves_over (pieces_left MOST_LEAF_ROWS (length rows) 1 (drop (first_size rows) rows))
  pub cut : IsCutTo MOST_LEAF_ROWS (length rows) i rest
  pub table : IsTable rest

pub none_made : (rows : List Row) (rest : List Row) (made : List NewLeaf) (size : ℕ) → 0 < length rows → IsTable rows → size ≡ first_size rows → rest ≡ drop size rows → made ≡ [] → LaterSoFar rows 1 rest made
none_made rows rest made size some table sized is none =
    let here : rest ≡ drop (first_size rows) rows = is ∙ ap (λ n. drop n rows) sized in
    rw (none, here) record {
      whole = refl;
      cut = first_cut rows some;
      table = table_drop (first_size rows) rows table;
    }

-- One leaf more is one fewer that is left.
pub one_made : (rows : List Row) (i : ℕ) (rest behind : List Row) (made : List NewLeaf) (leaf : NewLeaf) (size : ℕ) → i < piece_count MOST_LEAF_ROWS (length rows)
    → size ≡ piece_size MOST_LEAF_ROWS (length rows) i → leaf.leaf ≡ take size rest → behind ≡ drop size rest → leaf.low ≡ first_low row_key leaf.leaf
    → LaterSoFar rows i rest made → LaterSoFar rows (i + 1) behind (made ++ leaf ∷ [])
one_made rows i rest behind made leaf size less sized part is low far =
    let t = length rows in
    let left = leaves_over (pieces_left MOST_LEAF_ROWS t (i + 1) (drop (piece_size MOST_LEAF_ROWS t i) rest)) in
    let own : leaf.leaf ≡ take (piece_size MOST_LEAF_ROWS t i) rest = part ∙ ap (λ n. take n rest) sized in
    let here : behind ≡ drop (piece_size MOST_LEAF_ROWS t i) rest = is ∙ ap (λ n. drop n rest) sized in
    let next = take (piece_size MOST_LEAF_ROWS t i) rest in
    let same : ◌≡◌ {A = ℕ × List Row} (leaf.low, leaf.leaf) (first_low row_key next, next) =
    ap (λ (l : ℕ). (l, leaf.leaf)) (low ∙ ap (first_low row_key) own) ∙ ap (λ (p : List Row). (first_low row_key next, p)) own in
    rw here record {
      whole =
          ap (λ (ls : List (ℕ × List Row)). ls ++ left) (map-append low_and_rows made (leaf ∷ []))
          ∙ append_assoc (map low_and_rows made) ((leaf.low, leaf.leaf) ∷ []) left
          ∙ ap (λ (l : ℕ × List Row). map low_and_rows made ++ l ∷ left) same
          ∙ ap (λ (ps : List (List Row)). map low_and_rows made ++ leaves_over ps) (sym (left_next MOST_LEAF_ROWS t i rest less))
          ∙ far.whole;
      cut = cut_next MOST_LEAF_ROWS t i rest less far.cut;
      table = table_drop (piece_size MOST_LEAF_ROWS t i) rest far.table;
    }

-- The next piece is no more than a leaf holds.
pub next_is_few : (rows : List Row) (i : ℕ) (rest part : List Row) (made : List NewLeaf) (size : ℕ) → i < piece_count MOST_LEAF_ROWS (length rows)
    → size ≡ piece_size MOST_LEAF_ROWS (length rows) i → part ≡ take size rest → LaterSoFar rows i rest made → (0 < length part) × (length part ≤ MOST_LEAF_ROWS)
next_is_few rows i rest part made size less sized is far =
    let fits = (next_fits MOST_LEAF_ROWS (length rows) i rest less far.cut).1 in
    rw (is, sized) (omega (arith, fits.0), fits.1)

-- All are made.
pub all_made : (rows : List Row) (i : ℕ) (rest : List Row) (made : List NewLeaf) → 0 < length rows → piece_count MOST_LEAF_ROWS (length rows) ≤ i
    → LaterSoFar rows i rest made
    → (low : ℕ) → ◌≡◌ {A = List (ℕ × List Row)} ((low, take (first_size rows) rows) ∷ map low_and_rows made) (leaves_of low rows)
all_made rows i rest made some all far low =
    let t = length rows in
    let none : leaves_over (pieces_left MOST_LEAF_ROWS t i rest) ≡ [] = ap leaves_over (left_last MOST_LEAF_ROWS t i rest all) in
    let later : map low_and_rows made ≡ leaves_over (pieces_left MOST_LEAF_ROWS t 1 (drop (first_size rows) rows)) =
    sym (append-nil (map low_and_rows made)) ∙ ap (λ (ls : List (ℕ × List Row)). map low_and_rows made ++ ls) (sym none) ∙ far.whole in
    ap (λ (ls : List (ℕ × List Row)). (low, take (first_size rows) rows) ∷ ls) later
    ∙ ap (with_lows row_key (λ part. part) low) (sym (left_next MOST_LEAF_ROWS t 0 rows (some_pieces t some)) ∙ left_first MOST_LEAF_ROWS rows)
