-- Two tables of the same rows are one.
use Rattle.std.proofs.Common.{◌≡◌, ℕ, ◌<◌, List, [], ◌∷◌, refl, sym, ap, arith, ◌⊎◌, inl, inr}
use Rattle.std.specs.List.{AllByRecursion}
use Rattle.std.specs.List.Sorted.{IsPermutation}
use Rattle.std.proofs.lemmas.List.Elements.{All-from_recursion, recursion_from_All}
use Rattle.std.proofs.lemmas.List.Sorted.{IsPermutation-sym, All-permutation}
use Rattle.palm_base.specs.Table.{row_key, IsTable}
use Rattle.palm_base.proofs.Tables.{Below}
use Rattle.palm_base.specs.declared.row.Row.{Row}

-- The row is among these.
abbrev In : Row → List Row → Type 0
In row [] = ⊥
In row (x ∷ xs) = (row ≡ x) ⊎ In row xs

all_in : (rows : List Row) → AllByRecursion (λ row. In row rows) rows
all_in [] = tt
all_in (x ∷ xs) = (inl refl, more xs (all_in xs))
  where
    more : (ys : List Row) → AllByRecursion (λ row. In row xs) ys → AllByRecursion (λ row. In row (x ∷ xs)) ys
    more [] all = tt
    more (y ∷ ys) all = (inr all.0, more ys all.1)

below_in : (k : ℕ) (row : Row) (rows : List Row) → Below k rows → In row rows → k < row_key row
below_in k row [] below inside = absurd inside
below_in k row (x ∷ xs) below (inl same) = rw same below.0
below_in k row (x ∷ xs) below (inr inside) = below_in k row xs below.1 inside

-- Rows above the first's key are among the others.
among_others : (x : Row) (xs rows : List Row) → Below (row_key x) rows → AllByRecursion (λ row. In row (x ∷ xs)) rows
    → AllByRecursion (λ row. In row xs) rows
among_others x xs [] below all = tt
among_others x xs (row ∷ rows) below all = (by all.0, among_others x xs rows below.1 all.1)
  where
    by : In row (x ∷ xs) → In row xs
    by (inl same) = let key = ap row_key same in absurd (omega (arith, below.0))
    by (inr inside) = inside

-- The first rows of two tables of the same rows are one.
same_first : (x y : Row) (xs ys : List Row) → Below (row_key x) xs → Below (row_key y) ys → In x (y ∷ ys) → In y (x ∷ xs) → x ≡ y
same_first x y xs ys a b (inl same) inside = same
same_first x y xs ys a b (inr later) (inl same) = sym same
same_first x y xs ys a b (inr later) (inr inside) =
    let less = below_in (row_key y) x ys b later in
    let more = below_in (row_key x) y xs a inside in
    absurd (omega arith)

-- Two tables each of whose rows the other has are one.
same_rows : (xs ys : List Row) → IsTable xs → IsTable ys → AllByRecursion (λ row. In row ys) xs → AllByRecursion (λ row. In row xs) ys → xs ≡ ys
same_rows [] [] a b left right = refl
same_rows [] (y ∷ ys) a b left right = absurd right.0
same_rows (x ∷ xs) [] a b left right = absurd left.0
same_rows (x ∷ xs) (y ∷ ys) a b left right =
    let first : x ≡ y = same_first x y xs ys a.0 b.0 left.0 right.0 in
    let above : Below (row_key y) xs = rw first at a.0 in
    let under : Below (row_key x) ys = rw (sym first) at b.0 in
    let rest : xs ≡ ys = same_rows xs ys a.1 b.1 (among_others y ys xs above left.1) (among_others x xs ys under right.1) in
    cc

in_permutation : (xs ys : List Row) → IsPermutation xs ys → AllByRecursion (λ row. In row xs) ys
in_permutation xs ys same =
    recursion_from_All (λ row. In row xs) ys (All-permutation (λ row. In row xs) xs ys same (All-from_recursion (λ row. In row xs) xs (all_in xs)))

-- Tables that are permutations of one another are one.
pub same_tables : (xs ys : List Row) → IsTable xs → IsTable ys → IsPermutation xs ys → xs ≡ ys
same_tables xs ys a b same = same_rows xs ys a b (in_permutation ys xs (IsPermutation-sym xs ys same)) (in_permutation xs ys same)
