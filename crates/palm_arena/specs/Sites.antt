-- The nodes of a tree level by level, each with the edits of a pass that go to it.
use Rattle.std.specs.Prelude.{ℕ, List, [], ◌∷◌, ◌++◌, map, filter}
use Rattle.std.specs.List.{flat_map}
use Rattle.std.proofs.Common.{zero, suc}
use Rattle.palm_base.specs.Pass.{Outcome, goes_left, goes_right, pass, base_pass}
use Rattle.palm_base.specs.declared.call.Call.{Call}
use Rattle.palm_node.specs.declared.id.NodeId.{NodeId}
use Rattle.palm_arena.specs.Cells.{Cell}
use Rattle.palm_arena.specs.Placed.{Placed, value_in, node_of}

-- A node of the tree before a pass: the way to it from the root, its low as its parent has it, itself with all that is under
-- it, and the edits that go to it, in order. A first child's low is written 0, and so is the root's.
-- So of a root 0 over the leaves 1 and 2 with the separator 20, the edit Set 30 5 is at the site of 2, whose low is 20.
pub record Site (l : ℕ) : Type 0 where
  pub path : List (NodeId × ℕ)
  pub low : ℕ
  pub place : Placed l
  pub edits : List Call

-- The sites of these children of a node, the first of which is its child `i`: each edit goes to the last child whose low is
-- at most its key. So by the lows 0, 20 and 30 an edit that goes by 25 is at the site of the second child, whose low is 20.
abbrev pub sites_of_children : (l : ℕ) → List (NodeId × ℕ) → NodeId → ℕ → List (ℕ × Placed l) → List Call → List (Site l)
sites_of_children l path id i [] edits = []
sites_of_children l path id i (child ∷ []) edits = record { path = path ++ (id, i) ∷ []; low = child.0; place = child.1; edits = edits } ∷ []
sites_of_children l path id i (child ∷ next ∷ children) edits =
    record { path = path ++ (id, i) ∷ []; low = child.0; place = child.1; edits = filter (goes_left next.0) edits }
    ∷ sites_of_children l path id (suc i) (next ∷ children) (filter (goes_right next.0) edits)

-- The sites of a node's children.
-- So those of the root 0 over 1 and 2 with the separator 20 are that of 1 with the way (0, 0) and the low 0, and that of 2 with
-- the way (0, 1) and the low 20.
abbrev pub sites_below : (l : ℕ) → Site (suc l) → List (Site l)
sites_below l site = sites_of_children l site.path site.place.0 0 site.place.1 site.edits

-- The level `d` levels above the level l. It is l + d, counted in steps that go up. So 2 levels above the level 1 it is 3.
abbrev pub raised : ℕ → ℕ → ℕ
raised l zero = l
raised l (suc d) = raised (suc l) d

-- The sites of the level l of a tree whose root is d levels above it, from left to right. Leaves are the level 0 here.
-- So those of the level 0 under a root over the leaves 1 and 2, where d is 1, are those of 1 and 2.
abbrev pub sites_at : (d l : ℕ) → Site (raised l d) → List (Site l)
sites_at zero l root = root ∷ []
sites_at (suc d) l root = flat_map (sites_below l) (sites_at d (suc l) root)

-- The node itself, without what is under it. So that of the leaf b at 2 is (2, b), whatever edits go to it.
abbrev pub cell_of_site : (l : ℕ) → Site l → Cell
cell_of_site l site = (site.place.0, node_of l site.place.1)

-- The nodes above the level l.
-- So above the leaves under a root 0, where d is 1, it is the cell of 0, and above the root itself there is none.
abbrev pub cells_above : (d l : ℕ) → Site (raised l d) → List Cell
cells_above zero l root = []
cells_above (suc d) l root = cells_above d (suc l) root ++ map (cell_of_site (suc l)) (sites_at d (suc l) root)

-- What the serial rule makes of the node at a site that has d levels above it: a root leaf is cut however few its rows are,
-- and every other node is passed. An inner root is not asked: it is made anew over what its children become.
-- So a root leaf left with 3 rows is one piece of 3, and a leaf below a root left with 3 has no piece, and 3 loose rows.
abbrev pub outcome_at : (l d : ℕ) → Site l → Outcome l
outcome_at zero zero site = base_pass zero site.place.1 site.edits
outcome_at zero (suc d) site = pass zero site.low site.place.1 site.edits
outcome_at (suc l) d site = pass (suc l) site.low (value_in (suc l) site.place.1) site.edits
