-- What stands last at or before a key: a row, or where the range of the key's leaf begins.
use Rattle.std.specs.Prelude.{◌≡◌, ℕ, ◌≤◌, ◌⊎◌, ◌==◌, if◌then◌else◌, List, [], ◌∷◌, None, Some}
use Rattle.std.specs.List.{AllByRecursion}
use Rattle.std.proofs.Common.{suc}
use Rattle.palm_base.specs.Prefix.{IsPrefix}
use Rattle.palm_base.specs.Key.{key, IsKey}
use Rattle.palm_base.specs.Table.{row_key, rate_at}
use Rattle.palm_base.specs.Tree.{rows_of}
use Rattle.palm_base.specs.declared.row.Row.{Row}
use Rattle.palm_node.specs.declared.id.NodeId.{NodeId}
use Rattle.palm_node.specs.declared.node.Node.TheVariants.{Leaf}
use Rattle.palm_arena.specs.Reads.{map_of}
use Rattle.palm_arena.specs.declared.place.Place.{Place}
use Rattle.palm_tree.specs.TreeValue.{TreeState, tree_in}
use Rattle.palm_tree.specs.declared.floor.Spot.{Spot}
use Rattle.palm_tree.specs.declared.floor.Floor.{Floor}
use Rattle.palm_tree.specs.declared.floor.Floor.TheVariants.{Last, Low, Start}

-- No row has a key from one on to another, both included. So of 1, 10 and 2 none lies within the keys of 11 and 19.
abbrev pub NoneWithin : ℕ → ℕ → List Row → Type 0
NoneWithin from to rows = (k : ℕ) → from ≤ k → k ≤ to → rate_at k rows ≡ None

-- The row is the last at or before a key. So of 1, 10 and 2 that of 10 is for the key of 19.
pub record IsLast (rows : List Row) (k : ℕ) (row : Row) : Type 0 where
  pub prefix : IsPrefix row.prefix
  pub within : row_key row ≤ k
  pub rated : rate_at (row_key row) rows ≡ Some row.rate
  pub later : NoneWithin (suc (row_key row)) k rows

-- No row lies from this prefix on to a key. So with 1, 10 and 2 none does from 11 on to the key of 19.
pub record IsLowest (rows : List Row) (k : ℕ) (low : List ℕ) : Type 0 where
  pub prefix : IsPrefix low
  pub within : key low ≤ k
  pub none : NoneWithin (key low) k rows

-- What stands last at or before a key among rows: a row, a prefix from which on there is none, or nothing at all.
-- So among 10 and 2 it is nothing for the key of 1.
abbrev pub IsFloor : List Row → ℕ → Floor → Type 0
IsFloor rows k (Last row) = IsLast rows k row
IsFloor rows k (Low low) = IsLowest rows k low
IsFloor rows k Start = NoneWithin 0 k rows

-- Where a range begins: before all keys, or at the key of a prefix. So 0 is one.
abbrev pub IsLow : ℕ → Type 0
IsLow low = (low ≡ 0) ⊎ IsKey low

-- At the id stands the leaf whose range has a key, and the range begins at `low`: from there on to the key its rows have the
-- rates that all rows have. So over the leaves of 1, 10 and of 2 the second leaf is the one for the key of 3.
pub record IsLeafFor (places : List Place) (all : List Row) (k : ℕ) (id : NodeId) (low : ℕ) : Type 0 where
  pub rows : List Row
  pub here : map_of places id ≡ Some (Leaf rows)
  pub from : AllByRecursion (λ row. low ≤ row_key row) rows
  pub least : low ≤ k
  pub is_low : IsLow low
  pub rated : (j : ℕ) → low ≤ j → j ≤ k → rate_at j rows ≡ rate_at j all

-- The leaf of a key in a tree's arena is at this spot. So over the leaves of 1, 10 and of 2 that of the key of 3 is at the second
-- leaf's id, with the key of 2.
abbrev pub IsSpotFor : TreeState → ℕ → Spot → Type 0
IsSpotFor state k spot = IsLeafFor state.places (rows_of (tree_in state)) k spot.id spot.low

-- How many digits a number shares at its front with a bound, fewer than the bound has. So 4421 shares 2 with 4430, and 1
-- with 44.
abbrev pub shared_below : List ℕ → List ℕ → ℕ
shared_below [] number = 0
shared_below (d ∷ []) number = 0
shared_below (d ∷ next ∷ bound) [] = 0
shared_below (d ∷ next ∷ bound) (e ∷ number) = if d == e then suc (shared_below (next ∷ bound) number) else 0
