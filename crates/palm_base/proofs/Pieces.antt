-- The pieces of a cut: what holds of the items holds in each piece, and no piece is empty.
use Rattle.std.proofs.Common.{ℕ, ◌+◌, ◌<◌, ◌≤◌, List, [], ◌∷◌, ◌++◌, length, arith, ◌⊎◌, inl, inr}
use Rattle.std.specs.List.{flat_map, AllByRecursion}
use Rattle.std.proofs.lemmas.Bool.{cases_lt}
use Rattle.palm_base.specs.Cut.{cut}
use Rattle.palm_base.proofs.Cuts.{cut_none, few_are_one_piece, pieces_are_wide}
use Rattle.palm_base.proofs.Every.{every_at}

pub every_split : {X : Type 0} (P : X → Type 0) (xs ys : List X) → AllByRecursion P (xs ++ ys) → AllByRecursion P xs × AllByRecursion P ys
every_split P [] ys all = (tt, all)
every_split P (x ∷ xs) ys all = let rest = every_split P xs ys all.1 in ((all.0, rest.0), rest.1)

-- What holds of each item holds of each item of each piece.
pub every_part : {X : Type 0} (P : X → Type 0) (parts : List (List X)) → AllByRecursion P (flat_map (λ part. part) parts)
    → AllByRecursion (AllByRecursion P) parts
every_part P [] all = tt
every_part P (part ∷ parts) all = let both = every_split P part (flat_map (λ part. part) parts) all in (both.0, every_part P parts both.1)

abbrev pub HasSome : {X : Type 0} → List X → Type 0
HasSome xs = 0 < length xs

-- No piece is empty.
pub pieces_have_some : {X : Type 0} (half : ℕ) (items : List X) → 0 < half → AllByRecursion HasSome (cut (half + half) items)
pieces_have_some half [] some = rw (cut_none (half + half) (omega arith)) tt
pieces_have_some half (x ∷ items) some = by (cases_lt (half + half) (length (x ∷ items)))
  where
    by : (half + half < length (x ∷ items)) ⊎ (length (x ∷ items) ≤ half + half) → AllByRecursion HasSome (cut (half + half) (x ∷ items))
    by (inl many) =
        every_at HasSome (cut (half + half) (x ∷ items))
        (λ i piece at. let wide = pieces_are_wide half (x ∷ items) piece i some many at in omega arith)
    by (inr few) = rw (few_are_one_piece (half + half) (x ∷ items) (omega arith) few) (omega arith, tt)
