-- How many parts a batch has on a tree, by the tree's value: the leaves matter only by where their ranges begin.
use Rattle.std.specs.Prelude.{ℕ, sum_by, List, [], ◌∷◌, ◌++◌, length}
use Rattle.std.specs.List.{flat_map}
use Rattle.std.proofs.Common.{zero, suc}
use Rattle.palm_base.specs.Key.{key}
use Rattle.palm_base.specs.Tree.{Subtree, Tree}
use Rattle.palm_base.specs.declared.call.Call.{Call}
use Rattle.palm_base.specs.declared.call.Call.TheVariants.{Set, Del, Get, Rate, List as Listing}
use Rattle.palm_base.specs.declared.call.Entry.{Entry}
use Rattle.palm_route.specs.Parts.{list_keys}

-- The keys at which the ranges of the leaves under children begin. The first child's range begins at `low`, as its parent's
-- does, and each other's at its own low. `go` gives those under one child by the key at which the child's range begins.
-- So from 5 on two leaves with the lows 0 and 20 have 5 and 20.
abbrev pub lows_of_children : {T : Type 0} → (ℕ → T → List ℕ) → ℕ → List (ℕ × T) → List ℕ
lows_of_children go low [] = []
lows_of_children go low (child ∷ children) = go low child.1 ++ flat_map (λ later. go later.0 later.1) children

-- The same under a node whose own range begins at `low`. So from 5 on a leaf's is 5, and those of a node over two leaves with
-- the separator 20 are 5 and 20.
abbrev pub lows_under : (n : ℕ) → ℕ → Subtree n → List ℕ
lows_under zero low rows = low ∷ []
lows_under (suc n) low children = lows_of_children (lows_under n) low children

-- The keys at which the ranges of a tree's leaves begin, from left to right. So those of a root over two leaves with the
-- separator 20 are 0 and 20.
abbrev pub lows_in : Tree → List ℕ
lows_in tree = lows_under tree.0 0 tree.1

-- How many parts a call has where the leaves' ranges begin at these keys: one of a Set, a Del or a Get, one for each digit of
-- a Rate's number, and one for each leaf that a List meets. So Rate 442 has 3 whatever the leaves are, and over the lows 0, 20
-- and 30 a List from 10 to 25 has 2.
abbrev pub part_count : List ℕ → Call → ℕ
part_count lows (Set prefix rate) = 1
part_count lows (Del prefix) = 1
part_count lows (Get prefix) = 1
part_count lows (Rate number) = length number
part_count lows (Listing from to limit) = length (list_keys (key from) (key to) lows)

-- How many parts a batch has on a tree. So Get 44, Rate 442 have 4 on every tree.
abbrev pub parts_on : Tree → List Entry → ℕ
parts_on tree batch = sum_by (λ entry. part_count (lows_in tree) entry.call) batch
