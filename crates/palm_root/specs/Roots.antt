-- What is left below the root of a pass's tree, and what stands at the root.
use Rattle.std.specs.Prelude.{◌≡◌, ◌≤◌, ◌⊎◌, ◌+◌, ℕ, ◌-◌, nat_lt, if◌then◌else◌, List, [], ◌∷◌, ◌++◌, length, map, Option, None, Some, MatchOption}
use Rattle.std.specs.List.{flat_map}
use Rattle.std.specs.List.Sorted.{IsPermutation}
use Rattle.std.proofs.Common.{zero, suc}
use Rattle.palm_base.specs.declared.bounds.TheConstants.{MOST_CHILDREN}
use Rattle.palm_base.specs.Lawful.{IsOrderly}
use Rattle.palm_base.specs.Pass.{top, passed_tree}
use Rattle.palm_node.specs.declared.id.NodeId.{NodeId}
use Rattle.palm_node.specs.declared.id.Piece.{Piece}
use Rattle.palm_node.specs.declared.node.Node.{Node}
use Rattle.palm_node.specs.declared.change.Change.{Change}
use Rattle.palm_node.specs.declared.change.Changes.{Changes}
use Rattle.palm_arena.specs.declared.shape.Shape.{Shape}
use Rattle.palm_arena.specs.Cells.{Cell, Owns, HasCells}
use Rattle.palm_arena.specs.Placed.{Placed, value_of, values, bare, cells_under}
use Rattle.palm_arena.specs.Standing.{Kept, kept_cells, kept_rows, removed_of}
use Rattle.palm_arena.specs.Passes.{Pass, IsPass, StandsAt, IsRepaired, outcome_of, untouched_in}
use Rattle.palm_arena.specs.Levels.{HasRaised}

-- The level below the root of a tree of so many levels, counted from the leaves at 1, and that of the root where it is a leaf.
-- So it is 2 of three levels, and 1 of two and of one.
abbrev pub level_below : ℕ → ℕ
level_below zero = 1
level_below (suc zero) = 1
level_below (suc (suc n)) = suc n

-- The changes of the level below the root stand for a pass over the tree at a shape. So for a root over leaves they are changes
-- of leaves, and for a root leaf that of this leaf.
pub record StandsBelow (p : Pass) (nodes : NodeId → Option Node) (shape : Shape) (changes : Changes) : Type 0 where
  pub root : shape.root ≡ p.tree.1.0
  pub levels : shape.levels ≡ suc p.tree.0
  pub stands : StandsAt p (level_below shape.levels) nodes changes

-- The cell of an id, where a node stands there. So the cell of id 3, where a leaf stands, is (3, this leaf).
abbrev pub cell_at : NodeId → Option Node → List Cell
cell_at id None = []
cell_at id (Some node) = (id, node) ∷ []

-- The root's own cell, where it is an inner node. So a root over leaves has one, and a root leaf none.
abbrev pub root_cells : (NodeId → Option Node) → Shape → List Cell
root_cells nodes shape = let own = cell_at shape.root (nodes shape.root) in if nat_lt 1 shape.levels then own else []

-- The pieces are what is left below the root: they stand for what the serial rule makes of what is under it, so many levels
-- above the leaves, beside some cells of the root's own and what the removed nodes hold. So below a root over two leaves, of
-- which the second is removed, the first is left, with the rows of the second loose.
pub record HasLeft (p : Pass) (own : List Cell) (nodes : NodeId → Option Node) (changes : Changes) (below : ℕ) (level : List Piece) : Type 0 where
  pub is-pass : IsPass p
  pub n : ℕ
  pub below-is : below ≡ n
  pub children : List (ℕ × Placed n)
  pub pieces : bare children ≡ level
  pub same : top n (values n children) ≡ passed_tree (value_of p.tree) p.edits
  pub orderly : IsOrderly n (values n children)
  pub kept : List Kept
  pub removed : changes.removed ≡ map removed_of kept
  pub loose : IsPermutation (changes.loose ++ flat_map kept_rows kept) (outcome_of p).loose
  pub owned : Owns nodes (own ++ (cells_under n children ++ (flat_map kept_cells kept ++ p.rest)))

-- What was found below the root: the pieces that are left there, where the map has the untouched nodes beside the root's own
-- cell, or that the root stays as it is. So by none the tree after the pass stands there already, and by (0, 5), (7, 6) these two
-- are left.
abbrev pub IsFound : Pass → (NodeId → Option Node) → Changes → Shape → Option (List Piece) → Type 0
IsFound p nodes changes shape found = MatchOption found (IsRepaired p nodes changes shape) (λ level. HasLeft p (root_cells nodes shape) nodes changes (shape.levels - 2) level × HasCells nodes (root_cells nodes shape ++ untouched_in p))

-- The pieces are those of the first change. So where the first change has (0, 5), (7, 6), they are these.
abbrev pub IsHeadOf : List Change → List Piece → Type 0
IsHeadOf changes pieces = (first : Change) × (more : List Change) × (changes ≡ first ∷ more) × (pieces ≡ first.pieces)

-- How many steps a root takes over so many pieces: one of an empty leaf over none, none over one piece, and else fewer than
-- twice as many as there are nodes over the pieces. So it is at most 3 over 17 pieces, which have two nodes over them and the
-- root over these.
abbrev pub HasPut : ℕ → ℕ → ℕ → Type 0
HasPut count before after = ((count ≡ 0) × (after ≤ before + 1)) ⊎ HasRaised count before after

-- What is left of changes within n are no more pieces than a node's children and n more, and n isn't 0. So 20 pieces are few
-- within 4, and not within 3.
abbrev pub IsFew : ℕ → Option (List Piece) → Type 0
IsFew n left = MatchOption left (Unit {0}) (λ level. (1 ≤ n) × (length level ≤ MOST_CHILDREN + n))
