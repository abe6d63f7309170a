-- Worked examples of the serial rule and of a tree's shape, which the checker computes. Prefixes of two digits are meant
-- by their numbers, and each has its number as its rate.
use Rattle.std.proofs.Common.{◌≡◌, ℕ, zero, suc, ◌/◌, ◌%◌, List, [], ◌∷◌, ◌++◌, length, map, take, refl, arith}
use Rattle.std.specs.Prelude.{codes, replicate}
use Rattle.std.specs.Fmt.{digits}
use Rattle.palm_base.specs.Key.{key}
use Rattle.palm_base.specs.Cut.{cut}
use Rattle.palm_base.specs.Tree.{Tree, levels_of}
use Rattle.palm_base.specs.Pass.{set_of, leaf_outcome, pass, top, top_in, batch_tree, tree_after}
use Rattle.palm_base.specs.Lawful.{IsLawful}
use Rattle.palm_base.specs.Shape.{shape_text}
use Rattle.palm_base.specs.declared.row.Row.{Row}
use Rattle.palm_base.specs.declared.call.Call.{Call}
use Rattle.palm_base.specs.declared.call.Call.TheVariants.{Del, Get}
use Rattle.palm_base.specs.declared.call.Entry.{Entry}

-- The prefix of two digits that a number spells.
abbrev two : ℕ → List ℕ
two p = (p / 10) ∷ (p % 10) ∷ []

abbrev row : ℕ → Row
row p = record { prefix = two p; rate = p }

-- So many numbers from the first on.
abbrev counted : ℕ → ℕ → List ℕ
counted first zero = []
counted first (suc count) = first ∷ counted (suc first) count

-- The rows of so many prefixes from the first on, and the Sets and the Dels of them.
abbrev rows : ℕ → ℕ → List Row
rows first count = map row (counted first count)

abbrev sets : ℕ → ℕ → List Call
sets first count = map set_of (rows first count)

abbrev dels : ℕ → ℕ → List Call
dels first count = map (λ p. Del (two p)) (counted first count)

abbrev empty : Tree
empty = (zero, [])

-- ---- leaves

-- A leaf left with 7 rows is removed, and they are loose.
leaf-few : leaf_outcome 0 (rows 10 7) ≡ record { pieces = []; loose = rows 10 7 }
unfolding cut
leaf-few = refl

-- One left with none is removed.
leaf-none : leaf_outcome 0 [] ≡ record { pieces = []; loose = [] }
unfolding cut
leaf-none = refl

-- One left with 17 is cut. Its first piece keeps its low, and the second has that of its own first row.
leaf-many : leaf_outcome 7 (rows 10 17) ≡ record { pieces = (7, rows 10 9) ∷ (key (two 19), rows 19 8) ∷ []; loose = [] }
unfolding cut
leaf-many = refl

-- ---- batches

-- A root leaf holds 16 rows.
sets-16 : batch_tree empty (sets 10 16) ≡ (zero, rows 10 16)
unfolding cut top pass top_in
sets-16 = refl

-- The 17th makes two leaves, and a root over them.
sets-17 : batch_tree empty (sets 10 17) ≡ (suc zero, (0, rows 10 9) ∷ (key (two 19), rows 19 8) ∷ [])
unfolding cut top pass top_in
sets-17 = refl

-- Where one of the 8 rows is taken out, its leaf is removed, and the other 7 come back to the leaf that is left.
del-of_17 : batch_tree (batch_tree empty (sets 10 17)) (dels 26 1) ≡ (zero, rows 10 16)
unfolding cut top pass top_in
del-of_17 = refl

-- Calls that aren't edits leave the tree.
gets-leave : batch_tree (batch_tree empty (sets 10 17)) (Get (two 26) ∷ Get (two 44) ∷ []) ≡ batch_tree empty (sets 10 17)
unfolding cut top pass top_in
gets-leave = refl

-- Where all rows are taken out, the empty leaf is left.
dels-all : batch_tree (batch_tree empty (sets 10 17)) (dels 10 17) ≡ empty
unfolding cut top pass top_in
dels-all = refl

-- The calls of a caller, cut in batches of these lengths, on the empty table.
abbrev entries : List Call → List Entry
entries calls = map (λ call. record { caller = 0; place = 0; call = call }) calls

-- 34 Sets in one batch make three leaves of nearly one size.
sets-34 : tree_after empty (entries (sets 10 34)) (34 ∷ []) ≡ (suc zero, (0, rows 10 12) ∷ (key (two 22), rows 22 11) ∷ (key (two 33), rows 33 11) ∷ [])
unfolding cut top pass top_in
sets-34 = refl

-- One by one they fill the last leaf over and over: the shape depends on the cutting.
sets-34_by_one : tree_after empty (entries (sets 10 34)) (replicate 34 1) ≡ (suc zero, (0, rows 10 9) ∷ (key (two 19), rows 19 9) ∷ (key (two 28), rows 28 16) ∷ [])
unfolding cut top pass top_in
sets-34_by_one = refl

-- Where all rows of the first leaf are taken out, the next leaf becomes the first, and its range then begins at 0:
-- a Set of 05 goes to it.
range-widens : batch_tree (batch_tree (batch_tree empty (sets 10 34)) (dels 10 12)) (sets 5 1)
    ≡ (suc zero, (0, row 5 ∷ rows 22 11) ∷ (key (two 33), rows 33 11) ∷ [])
unfolding cut top pass top_in
range-widens = refl

-- ---- three levels

abbrev three : ℕ → List ℕ
three p = (p / 100) ∷ (p / 10 % 10) ∷ (p % 10) ∷ []

-- The rows of so many prefixes of three digits.
abbrev longer_rows : ℕ → ℕ → List Row
longer_rows first count = map (λ p. record { prefix = three p; rate = p }) (counted first count)

abbrev tree_of_400 : Tree
tree_of_400 = batch_tree empty (map set_of (longer_rows 100 400))

-- 400 rows make 25 leaves of 16, over which stand inner nodes of 13 and 12 children, and the root.
sets-400 : levels_of tree_of_400 ≡ 3
unfolding cut top pass top_in
sets-400 = refl

-- Its shape begins so: the root, and then the first of the two inner nodes.
abbrev front_of_400 : List ℕ
front_of_400 = codes "tree 3 400\ninner 2 308\ninner 13 116"

shape-400 : take (length front_of_400) (shape_text tree_of_400) ≡ front_of_400
unfolding cut top pass top_in digits
shape-400 = refl

-- Of them all but 10 are taken out: the inner nodes are left with too few children, and what is under them comes
-- back to a leaf that is the root.
dels-390 : batch_tree tree_of_400 (map (λ p. Del (three p)) (counted 110 390)) ≡ (zero, longer_rows 100 10)
unfolding cut top pass top_in
dels-390 = refl

-- ---- lawful trees

lawful-empty : IsLawful empty
lawful-empty = (0, (omega arith, tt))

-- A root over one leaf isn't lawful: the leaf would be the root.
unlawful-alone : IsLawful (suc zero, (0, rows 10 9) ∷ []) → ⊥
unlawful-alone lawful = let sizes = lawful.1.0 in absurd (omega arith)

-- Nor is a leaf below the root that has 7 rows.
unlawful-few : IsLawful (suc zero, (0, rows 10 7) ∷ (key (two 17), rows 17 8) ∷ []) → ⊥
unlawful-few lawful = let sizes = lawful.1.2.0.1.0 in absurd (omega arith)

-- Nor is a leaf of two rows with one key.
unlawful-twice : IsLawful (zero, row 10 ∷ row 10 ∷ []) → ⊥
unlawful-twice lawful = let first = lawful.1.1.0 in absurd (omega arith)

-- ---- shapes

shape-empty : shape_text empty ≡ codes "tree 1 0\nleaf 0\n"
unfolding digits
shape-empty = refl

shape-17 : shape_text (batch_tree empty (sets 10 17))
    ≡ codes "tree 2 17\ninner 2 19\n"
    ++ (codes "leaf 9 10 10 11 11 12 12 13 13 14 14 15 15 16 16 17 17 18 18\n"
    ++ codes "leaf 8 19 19 20 20 21 21 22 22 23 23 24 24 25 25 26 26\n")
unfolding cut top pass top_in digits
shape-17 = refl
