-- A tree's shape as text: how many levels and rows it has, and then its nodes, level by level from the root, each level
-- from left to right. A root over the leaves of 10 at 5 and of 19 at 6 and 20 at 7 would be
--
--     tree 2 3
--     inner 2 19
--     leaf 1 10 5
--     leaf 2 19 6 20 7
use Rattle.std.specs.Prelude.{ℕ, List, [], ◌∷◌, ◌++◌, length, map, drop, codes}
use Rattle.std.specs.List.{flat_map}
use Rattle.std.specs.Fmt.{decimal}
use Rattle.std.proofs.Common.{zero, suc}
use Rattle.palm_base.specs.Key.{digits_of}
use Rattle.palm_base.specs.Text.{digits_text, rows_text}
use Rattle.palm_base.specs.Tree.{Subtree, Tree, levels_of, rows_of}
use Rattle.palm_base.specs.declared.row.Row.{Row}

-- A leaf: how many rows it has, and each row. So that of 10 at 5 is "leaf 1 10 5".
abbrev pub leaf_line : List Row → List ℕ
leaf_line rows = codes "leaf " ++ (rows_text rows ++ codes "\n")

-- A separator, after a blank: the prefix whose key it is. So that of the key of 19 is " 19".
abbrev pub separator_text : ℕ → List ℕ
separator_text low = codes " " ++ digits_text (digits_of low)

-- An inner node: how many children it has, and the lows of all but the first. So "inner 2 19" has two.
abbrev pub inner_line : {X : Type 0} → List (ℕ × X) → List ℕ
inner_line children =
    codes "inner " ++ (decimal (length children) ++ (flat_map (λ child. separator_text child.0) (drop 1 children) ++ codes "\n"))

-- The nodes of one level, and then those of the levels below: all inner nodes of a level stand before the first leaf. So under
-- a root over two leaves they are the root's line and two lines of leaves.
abbrev pub level_lines : (n : ℕ) → List (Subtree n) → List ℕ
level_lines zero leaves = flat_map leaf_line leaves
level_lines (suc n) nodes = flat_map inner_line nodes ++ level_lines n (flat_map (λ children. map (λ child. child.1) children) nodes)

-- The text of a tree's shape. So that of the empty leaf is "tree 1 0" and "leaf 0".
abbrev pub shape_text : Tree → List ℕ
shape_text tree =
    codes "tree " ++ (decimal (levels_of tree) ++ (codes " " ++ (decimal (length (rows_of tree)) ++ (codes "\n" ++ level_lines tree.0 (tree.1 ∷ [])))))
