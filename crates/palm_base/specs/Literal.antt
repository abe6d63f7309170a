-- The rules of trees as one would say them first. The forms that the other definitions use compute and prove better, and
-- say the same.
use Rattle.std.specs.Prelude.{◌≡◌, ℕ, ◌+◌, ◌<◌, ◌≤◌, ◌==◌, nat_le, Bool, false, ◌||◌, if◌then◌else◌, List, [], ◌∷◌, length, filter}
use Rattle.std.specs.List.{AllByRecursion}
use Rattle.std.proofs.Common.{zero, suc}
use Rattle.palm_base.specs.Table.{row_key, IsTable, after_all}
use Rattle.palm_base.specs.Tree.{Subtree, Tree, rows_in, rows_of}
use Rattle.palm_base.specs.Pass.{edit_key, first_low, leaves_of, Outcome, joined, leaf_outcome, inner_outcome, base_level}
use Rattle.palm_base.specs.Lawful.{HasFromTo}
use Rattle.palm_base.specs.declared.bounds.TheConstants.{LEAST_LEAF_ROWS, MOST_LEAF_ROWS, LEAST_CHILDREN, MOST_CHILDREN}
use Rattle.palm_base.specs.declared.call.Call.{Call}

-- ---- where an edit goes

-- Some child has a low that is at most k. So with the lows 19 and 28 some has for 20, and none for 18.
abbrev pub has_low : {X : Type 0} → ℕ → List (ℕ × X) → Bool
has_low k [] = false
has_low k (child ∷ children) = nat_le child.0 k || has_low k children

-- The place of the last child whose low is at most k. So with the lows 0, 19 and 28 it is 0 for 18, and 1 for 19 to 27.
abbrev pub last_place : {X : Type 0} → ℕ → List (ℕ × X) → ℕ
last_place k [] = 0
last_place k (child ∷ children) = if has_low k children then last_place k children + 1 else 0

-- What becomes of children, of which the first has this place: each gets the edits that go to its place.
-- So of two children from the place 1 on the first gets the edits of place 1, and the second those of place 2.
abbrev pub by_place : (n : ℕ) → (ℕ → Subtree n → List Call → Outcome n) → (Call → ℕ) → ℕ → List (ℕ × Subtree n) → List Call → Outcome n
by_place n go place_of place [] edits = record { pieces = []; loose = [] }
by_place n go place_of place (child ∷ children) edits =
    joined (go child.0 child.1 (filter (λ edit. place_of edit == place) edits)) (by_place n go place_of (place + 1) children edits)

-- What becomes of children: each edit goes to the last child whose low is at most the edit's key.
-- So of children with the lows 0, 19 and 28 the second gets the edits with keys of 19 to 27.
abbrev pub below_by_place : (n : ℕ) → (ℕ → Subtree n → List Call → Outcome n) → List (ℕ × Subtree n) → List Call → Outcome n
below_by_place n go children edits = by_place n go (λ edit. last_place (edit_key edit) children) 0 children edits

-- What becomes of a node below the root, where each edit goes by its place. So a leaf gets the edits for which it is the
-- last at each node above it.
unfoldable pub pass_by_place : (n : ℕ) → ℕ → Subtree n → List Call → Outcome n
pass_by_place zero low rows edits = leaf_outcome low (after_all rows edits)
pass_by_place (suc n) low children edits = inner_outcome n low (below_by_place n (pass_by_place n) children edits)

-- And of what is under a root. So a root leaf is cut, and an inner root's children get the edits of their places.
abbrev pub base_pass_by_place : (n : ℕ) → Subtree n → List Call → Outcome (base_level n)
base_pass_by_place zero rows edits = record { pieces = leaves_of 0 (after_all rows edits); loose = [] }
base_pass_by_place (suc n) children edits = below_by_place n (pass_by_place n) children edits

-- ---- what makes a tree lawful

-- The lows strictly rise. So 0, 19, 28 do.
abbrev pub LowsRise : {X : Type 0} → List (ℕ × X) → Type 0
LowsRise [] = Unit {0}
LowsRise (child ∷ children) = AllByRecursion (λ later. child.0 < later.0) children × LowsRise children

-- A key is below the low of the next child, where there is one. So 18 is below the next of 19, and any key is before none.
abbrev pub IsBelowNext : {X : Type 0} → List (ℕ × X) → ℕ → Type 0
IsBelowNext [] k = Unit {0}
IsBelowNext (next ∷ children) k = k < next.0

-- Each row under a child has a key that is at least the child's low and below the low of the next.
-- So with the lows 0 and 19 the rows with keys below 19 stand under the first child, and all others under the second.
abbrev pub RowsArePlaced : (n : ℕ) → List (ℕ × Subtree n) → Type 0
RowsArePlaced n [] = Unit {0}
RowsArePlaced n (child ∷ children) =
    AllByRecursion (λ row. child.0 ≤ row_key row) (rows_in n child.1)
    × AllByRecursion (λ row. IsBelowNext children (row_key row)) (rows_in n child.1)
    × RowsArePlaced n children

-- The children of one node: the low of the first is written 0, the lows strictly rise, and the rows are placed by them.
-- So leaves of the rows 1, 10 and 2, 20 are separated by 0 and the key of 2, and not by 0 and the key of 20.
pub record AreSeparated (n : ℕ) (children : List (ℕ × Subtree n)) : Type 0 where
  pub first : first_low (λ child. child.0) children ≡ 0
  pub lows : LowsRise children
  pub rows : RowsArePlaced n children

-- A node below the root, and all under it, is filled and separated. So a leaf of LEAST_LEAF_ROWS rows is one, and an empty
-- leaf isn't.
abbrev pub IsNode : (n : ℕ) → Subtree n → Type 0
IsNode zero rows = HasFromTo LEAST_LEAF_ROWS MOST_LEAF_ROWS rows
IsNode (suc n) children =
    HasFromTo LEAST_CHILDREN MOST_CHILDREN children × AreSeparated n children × AllByRecursion (λ child. IsNode n child.1) children

-- A root, and all under it, is filled and separated. So the empty leaf is one, and an inner node of one child isn't.
abbrev pub IsRoot : (n : ℕ) → Subtree n → Type 0
IsRoot zero rows = length rows ≤ MOST_LEAF_ROWS
IsRoot (suc n) children = HasFromTo 2 MOST_CHILDREN children × AreSeparated n children × AllByRecursion (λ child. IsNode n child.1) children

-- A lawful tree: its rows strictly rise from left to right, its nodes are filled, and its lows separate what they should.
-- So the empty leaf is one, and a leaf of 2, 10 in this order isn't.
pub record IsLawfulLiterally (tree : Tree) : Type 0 where
  pub rows : IsTable (rows_of tree)
  pub nodes : IsRoot tree.0 tree.1
