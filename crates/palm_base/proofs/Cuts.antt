-- The cut: its pieces joined, counted and measured.
use Rattle.std.proofs.Common.{◌≡◌, ℕ, zero, suc, ◌+◌, ◌*◌, ◌/◌, ◌%◌, ◌<◌, ◌≤◌, cond, List, [], ◌∷◌, length, take, drop, Some, refl, ap, sym, ◌∙◌, arith, ◌⊎◌, inl, inr}
use Rattle.std.specs.Prelude.{nat_lt, slice_get}
use Rattle.std.specs.List.{flat_map}
use Rattle.std.proofs.lemmas.Bool.{cases_lt, lt-ltb, le-ltb}
use Rattle.std.proofs.lemmas.Bool.Decides.{nat_tests}
use Rattle.std.proofs.lemmas.List.{take-append-drop, length-take, length-drop, nil_from_length, take_all}
use Rattle.std.proofs.Math.Nat.{mul-le-mul_right, mul-le-mul_left}
use Rattle.palm_base.specs.Cut.{piece_count, even_pieces, cut}
use Rattle.palm_base.specs.Laws.{PiecesJoin, PiecesAreCounted, PiecesAreSized, PiecesAreWide, FewAreOnePiece}

joined : {X : Type 0} (count more size : ℕ) (items : List X) → more ≤ count → length items ≡ count * size + more
    → flat_map (λ piece. piece) (even_pieces count more size items) ≡ items
joined zero more size items few all = sym (nil_from_length items (omega arith))
joined (suc count) zero size items few all =
    let rest : length (drop size items) ≡ count * size + 0 = simp length-drop (omega arith) in
    rw (joined count zero size (drop size items) (omega arith) rest) (take-append-drop size items)
joined (suc count) (suc more) size items few all =
    let rest : length (drop (suc size) items) ≡ count * size + more = simp length-drop (omega arith) in
    rw (joined count more size (drop (suc size) items) (omega arith) rest) (take-append-drop (suc size) items)

counted : {X : Type 0} (count more size : ℕ) (items : List X) → length (even_pieces count more size items) ≡ count
counted zero more size items = refl
counted (suc count) zero size items = ap suc (counted count zero size (drop size items))
counted (suc count) (suc more) size items = ap suc (counted count more size (drop (suc size) items))

-- The first so many items of a longer list are so many.
front_length : {X : Type 0} (n : ℕ) (items piece : List X) → n ≤ length items → Some (take n items) ≡ Some piece → length piece ≡ n
front_length n items piece few at =
    let same : take n items ≡ piece = cc in
    let long : length (take n items) ≡ n = simp length-take (omega arith) in
    ap length (sym same) ∙ long

-- The piece at a place has one item more where it is among the first.
sized : {X : Type 0} (count more size i : ℕ) (items piece : List X) → more ≤ count → length items ≡ count * size + more
    → slice_get (even_pieces count more size items) i ≡ Some piece → length piece ≡ cond (nat_lt i more) (size + 1) size
sized zero more size i items piece few all at = cc
sized (suc count) zero size zero items piece few all at = front_length size items piece (omega arith) at
sized (suc count) zero size (suc i) items piece few all at =
    let rest : length (drop size items) ≡ count * size + 0 = simp length-drop (omega arith) in
    let later : nat_lt (suc i) 0 ≡ nat_lt i 0 = grind (arith, nat_tests) in
    rw later (sized count zero size i (drop size items) piece (omega arith) rest at)
sized (suc count) (suc more) size zero items piece few all at =
    rw (lt-ltb 0 (suc more) (omega arith)) (front_length (suc size) items piece (omega arith) at ∙ omega arith)
sized (suc count) (suc more) size (suc i) items piece few all at =
    let rest : length (drop (suc size) items) ≡ count * size + more = simp length-drop (omega arith) in
    let later : nat_lt (suc i) (suc more) ≡ nat_lt i more = grind (arith, nat_tests) in
    rw later (sized count more size i (drop (suc size) items) piece (omega arith) rest at)

-- ---- how many pieces

-- The width so many times holds all items, and one time fewer would not.
enough : (width t : ℕ) → 0 < width → t ≤ piece_count width t * width
enough width t some = omega arith

pub needed : (width t : ℕ) → 0 < width → piece_count width t * width < t + width
needed width t some = omega arith

no_pieces : (width count : ℕ) → count * width < width → count ≡ 0
no_pieces width zero need = refl
no_pieces width (suc count) need = absurd (omega arith)

one_piece : (width t count : ℕ) → 0 < t → t ≤ width → t ≤ count * width → count * width < t + width → count ≡ 1
one_piece width t zero some few hold need = absurd (omega arith)
one_piece width t (suc zero) some few hold need = refl
one_piece width t (suc (suc count)) some few hold need = absurd (omega arith)

some_pieces : (width t count : ℕ) → 0 < t → t ≤ count * width → 0 < count
some_pieces width t zero some hold = absurd (omega arith)
some_pieces width t (suc count) some hold = omega arith

two_pieces : (width t count : ℕ) → width < t → t ≤ count * width → 2 ≤ count
two_pieces width t zero many hold = absurd (omega arith)
two_pieces width t (suc zero) many hold = absurd (omega arith)
two_pieces width t (suc (suc count)) many hold = omega arith

-- ---- how wide they are: `count` pieces of `size` items, and `more` items over

size_low : (half t count size more : ℕ) → 2 ≤ count → t ≡ count * size + more → more < count → count * (half + half) < t + (half + half) → half ≤ size
size_low half t count size more two all over need = by (cases_lt size half)
  where
    by : (size < half) ⊎ (half ≤ size) → half ≤ size
    by (inl small) =
        let least : count * suc size ≤ count * half = mul-le-mul_left count small in
        let twice : 2 * half ≤ count * half = mul-le-mul_right half two in
        absurd (omega arith)
    by (inr wide) = wide

size_high : (width t count size more : ℕ) → 0 < count → t ≡ count * size + more → t ≤ count * width → size ≤ width
size_high width t count size more some all hold = by (cases_lt width size)
  where
    by : (width < size) ⊎ (size ≤ width) → size ≤ width
    by (inl large) =
        let most : count * suc width ≤ count * size = mul-le-mul_left count large in
        absurd (omega arith)
    by (inr fits) = fits

size_more : (width t count size more : ℕ) → t ≡ count * size + more → 0 < more → t ≤ count * width → size < width
size_more width t count size more all over hold = by (cases_lt size width)
  where
    by : (size < width) ⊎ (width ≤ size) → size < width
    by (inl fits) = fits
    by (inr large) =
        let most : count * width ≤ count * size = mul-le-mul_left count large in
        absurd (omega arith)

-- A piece is as wide as the bounds of both sizes say.
between : (low high size more i n : ℕ) → low ≤ size → size ≤ high → (0 < more → size < high) → n ≡ cond (nat_lt i more) (size + 1) size → (low ≤ n) × (n ≤ high)
between low high size more i n least most over is = by (cases_lt i more)
  where
    by : (i < more) ⊎ (more ≤ i) → (low ≤ n) × (n ≤ high)
    by (inl first) =
        let larger : n ≡ size + 1 = rw (lt-ltb i more first) at is in
        let room : size < high = over (omega arith) in
        (omega arith, omega arith)
    by (inr later) =
        let smaller : n ≡ size = rw (le-ltb i more later) at is in
        (omega arith, omega arith)

-- ---- the laws

pub cut_none : {X : Type 0} (width : ℕ) → 0 < width → cut {X = X} width [] ≡ []
unfolding cut
cut_none width some =
    let none : piece_count width 0 ≡ 0 = no_pieces width (piece_count width 0) (omega arith) in
    rw none

pub few_are_one_piece : {X : Type 0} → FewAreOnePiece X
unfolding cut
few_are_one_piece width items some few =
    let t = length items in
    let one : piece_count width t ≡ 1 = one_piece width t (piece_count width t) some few (enough width t (omega arith)) (needed width t (omega arith)) in
    let over : t % 1 ≡ 0 = omega arith in
    let size : t / 1 ≡ t = omega arith in
    rw (one, over, size) (ap (λ piece. piece ∷ []) (take_all t items (omega arith)))

pub pieces_join : {X : Type 0} → PiecesJoin X
unfolding cut
pieces_join width [] some = rw (cut_none width some)
pieces_join width (x ∷ items) some = by (piece_count width (suc (length items))) (enough width (suc (length items)) some)
  where
    by : (count : ℕ) → suc (length items) ≤ count * width
        → flat_map (λ piece. piece) (even_pieces count (suc (length items) % count) (suc (length items) / count) (x ∷ items)) ≡ x ∷ items
    by count hold =
        let one : 0 < count = some_pieces width (suc (length items)) count (omega arith) hold in
        joined count (suc (length items) % count) (suc (length items) / count) (x ∷ items) (omega arith) (omega arith)

pub pieces_are_counted : {X : Type 0} → PiecesAreCounted X
unfolding cut
pieces_are_counted width items =
    let t = length items in
    let count = piece_count width t in
    counted count (t % count) (t / count) items

pub pieces_are_sized : {X : Type 0} → PiecesAreSized X
unfolding cut
pieces_are_sized {X} width [] piece i some at =
    let none : piece_count width 0 ≡ 0 = no_pieces width (piece_count width 0) (omega arith) in
    let no_piece : List (List X) = [] in
    let nothing : slice_get no_piece i ≡ Some piece = rw none at at in
    cc
pieces_are_sized width (x ∷ items) piece i some at = by (piece_count width (suc (length items))) (enough width (suc (length items)) some) at
  where
    by : (count : ℕ) → suc (length items) ≤ count * width
        → slice_get (even_pieces count (suc (length items) % count) (suc (length items) / count) (x ∷ items)) i ≡ Some piece
        → length piece ≡ cond (nat_lt i (suc (length items) % count)) (suc (length items) / count + 1) (suc (length items) / count)
    by count hold at =
        let one : 0 < count = some_pieces width (suc (length items)) count (omega arith) hold in
        sized count (suc (length items) % count) (suc (length items) / count) i (x ∷ items) piece (omega arith) (omega arith) at

pub pieces_are_wide : {X : Type 0} → PiecesAreWide X
pieces_are_wide half items piece i some many at =
    by (piece_count (half + half) (length items)) (enough (half + half) (length items) (omega arith)) (needed (half + half) (length items) (omega arith))
    (pieces_are_sized (half + half) items piece i (omega arith) at)
  where
    by : (count : ℕ) → length items ≤ count * (half + half) → count * (half + half) < length items + (half + half)
        → length piece ≡ cond (nat_lt i (length items % count)) (length items / count + 1) (length items / count)
        → (half ≤ length piece) × (length piece ≤ half + half)
    by count hold need is =
        let t = length items in
        let two : 2 ≤ count = two_pieces (half + half) t count many hold in
        let all : t ≡ count * (t / count) + t % count = omega arith in
        let over : t % count < count = omega arith in
        between half (half + half) (t / count) (t % count) i (length piece)
        (size_low half t count (t / count) (t % count) two all over need)
        (size_high (half + half) t count (t / count) (t % count) (omega arith) all hold)
        (λ more. size_more (half + half) t count (t / count) (t % count) all more hold)
        is
