-- A pass of edits over a tree in an arena, as the stages of a batch hand it on.
--
-- A stage is asked for some pass with which the changes stand, and it answers for every such pass. So what holds between the
-- levels holds for every map before the pass, every shape, all edits and all routed leaves with which it stood.
use Rattle.std.specs.Prelude.{◌≡◌, ℕ, ◌≤◌, ◌-◌, Bool, true, false, List, [], ◌∷◌, ◌++◌, length, map, sum_by, Option}
use Rattle.std.specs.List.{flat_map, AllByRecursion, list_any}
use Rattle.std.specs.List.Sorted.{IsPermutation}
use Rattle.std.proofs.Common.{zero, suc}
use Rattle.palm_base.specs.Tree.{Tree}
use Rattle.palm_base.specs.Table.{after_all}
use Rattle.palm_base.specs.Pass.{Outcome, is_edit, base_level, base_pass, passed_tree}
use Rattle.palm_base.specs.Lawful.{IsLawful}
use Rattle.palm_base.specs.Lows.{LowsAreKeys, SetsPrefix}
use Rattle.palm_base.specs.declared.call.Call.{Call}
use Rattle.palm_node.specs.declared.id.NodeId.{NodeId}
use Rattle.palm_node.specs.declared.node.Node.{Node}
use Rattle.palm_node.specs.declared.change.Changes.{Changes}
use Rattle.palm_arena.specs.declared.shape.Shape.{Shape}
use Rattle.palm_arena.specs.Reads.{same_place}
use Rattle.palm_arena.specs.Cells.{Cell, Owns, HasCells}
use Rattle.palm_arena.specs.Placed.{PlacedTree, value_in, value_of, cells_of}
use Rattle.palm_arena.specs.Sites.{Site, raised, sites_below}
use Rattle.palm_arena.specs.Standing.{untouched_cells, Kept, kept_cells, kept_rows, removed_of, Stands}

-- A pass: the tree before it with its ids, the edits in order, the leaves to which something is routed, and the nodes that
-- are in no tree. So one of Set 44 90 alone, which goes to the leaf at 2, has this edit, and 2 as its one routed leaf.
pub record Pass : Type 0 where
  pub tree : PlacedTree
  pub edits : List Call
  pub routed : List NodeId
  pub rest : List Cell

-- The id is among these. So 2 is among 1, 2, and 3 isn't.
abbrev pub is_among : List NodeId → NodeId → Bool
is_among ids id = list_any (λ other. same_place other id) ids

-- The site of the pass's root: it has no way to it, its low is 0, and all edits go to it.
-- So of Set 44 90 over the leaf b at 3 it is that of (3, b) with this edit.
abbrev pub root_site : (p : Pass) → Site p.tree.0
root_site p = record { path = []; low = 0; place = p.tree.1; edits = p.edits }

-- The sites of the leaves n levels below a site, from left to right.
-- So one level below the root over the leaves 1 and 2 they are those of 1 and of 2, and no level below a leaf it is its own.
abbrev pub leaf_sites : (n : ℕ) → Site n → List (Site zero)
leaf_sites zero site = site ∷ []
leaf_sites (suc n) site = flat_map (leaf_sites n) (sites_below n site)

-- The edits that go to a leaf leave its rows as they are, or something is routed to it.
-- So Set 44 120 may go to the leaf of 44 120 where nothing is routed to it, and Set 44 90 may not.
abbrev pub IsTouchedOrStill : List NodeId → Site zero → Type 0
IsTouchedOrStill routed site = is_among routed site.place.0 ≡ false → after_all site.place.1 site.edits ≡ site.place.1

-- What a pass is over: a lawful tree whose lows are keys, Sets and Dels of prefixes, and leaves of it, outside of which no
-- edit changes a row. So Set 44 90 over the empty leaf at 3 is one where 3 is routed to, and isn't where no leaf is.
pub record IsPass (p : Pass) : Type 0 where
  pub lawful : IsLawful (value_of p.tree)
  pub lows : LowsAreKeys (value_of p.tree)
  pub edits : AllByRecursion (λ edit. is_edit edit ≡ true) p.edits
  pub prefixes : AllByRecursion SetsPrefix p.edits
  pub leaves : AllByRecursion (λ id. is_among (map (λ (site : Site zero). site.place.0) (leaf_sites p.tree.0 (root_site p))) id ≡ true) p.routed
  pub still : AllByRecursion (IsTouchedOrStill p.routed) (leaf_sites p.tree.0 (root_site p))

-- A map holds the pass's tree at a shape, beside what is in no tree.
-- So where the tree is the leaf a at 3 alone, the map has a at 3, and the shape is the root 3 with 1 level.
pub record Begins (p : Pass) (nodes : NodeId → Option Node) (shape : Shape) : Type 0 where
  pub is-pass : IsPass p
  pub root : shape.root ≡ p.tree.1.0
  pub levels : shape.levels ≡ suc p.tree.0
  pub owned : Owns nodes (cells_of p.tree.0 p.tree.1 ++ p.rest)

-- The changes of a level, counted from the leaves at 1, stand for the pass. The level is l + 1, and the root is d levels above
-- it. So for the leaves under a root over leaves the level is 1, l is 0 and d is 1.
pub record StandsAt (p : Pass) (level : ℕ) (nodes : NodeId → Option Node) (changes : Changes) : Type 0 where
  pub is-pass : IsPass p
  pub d : ℕ
  pub l : ℕ
  pub root : Site (raised l d)
  pub level-is : level ≡ suc l
  pub tree-is : ◌≡◌ {A = PlacedTree} (raised l d, root.place) p.tree
  pub path-is : root.path ≡ []
  pub low-is : root.low ≡ 0
  pub edits-are : root.edits ≡ p.edits
  pub stands : Stands d l root (is_among p.routed) p.rest nodes changes

-- What the serial rule makes of what is under the pass's root.
-- So of a root leaf of 44 120 by Set 44 90 it is one piece of 44 90, with the low 0 and nothing loose.
abbrev pub outcome_of : (p : Pass) → Outcome (base_level p.tree.0)
outcome_of p = base_pass p.tree.0 (value_in p.tree.0 p.tree.1.1) p.edits

-- The nodes of the pass's tree that no routed leaf is at or under, as cells.
-- So of a root over the leaves 1 and 2 it is the cell of 1 where 2 is the one routed leaf.
abbrev pub untouched_in : Pass → List Cell
untouched_in p = untouched_cells (is_among p.routed) p.tree.0 p.tree.1

-- The tree after the pass stands at a shape, beside what the removed nodes of the changes hold. Each untouched node of the tree
-- before it is at its id still, and as it was.
-- So after Set 44 90 over the empty leaf at 3 it may be the root 3 with 1 level, where 3 has the leaf of 44 90 and nothing is
-- loose or removed.
pub record IsRepaired (p : Pass) (nodes : NodeId → Option Node) (changes : Changes) (shape : Shape) : Type 0 where
  pub is-pass : IsPass p
  pub tree : PlacedTree
  pub kept : List Kept
  pub root : shape.root ≡ tree.1.0
  pub levels : shape.levels ≡ suc tree.0
  pub tree-is : value_of tree ≡ passed_tree (value_of p.tree) p.edits
  pub removed : changes.removed ≡ map removed_of kept
  pub loose : IsPermutation (changes.loose ++ flat_map kept_rows kept) (outcome_of p).loose
  pub owned : Owns nodes (cells_of tree.0 tree.1 ++ (flat_map kept_cells kept ++ p.rest))
  pub untouched : HasCells nodes (untouched_in p)

-- A tree stands at a shape, beside what is in no tree.
-- So the empty tree does at the root 3 with 1 level where the leaf of no rows stands at 3.
pub record StandsAlone (value : Tree) (rest : List Cell) (nodes : NodeId → Option Node) (shape : Shape) : Type 0 where
  pub tree : PlacedTree
  pub root : shape.root ≡ tree.1.0
  pub levels : shape.levels ≡ suc tree.0
  pub value-is : value_of tree ≡ value
  pub owned : Owns nodes (cells_of tree.0 tree.1 ++ rest)

-- Changes hold at most so much: at most n nodes, and at most n pieces past each node's first.
-- So they are within 2 where one node has three pieces and another one.
pub record IsWithin (n : ℕ) (changes : Changes) : Type 0 where
  pub nodes : length changes.nodes ≤ n
  pub pieces : sum_by (λ change. length change.pieces - 1) changes.nodes ≤ n
