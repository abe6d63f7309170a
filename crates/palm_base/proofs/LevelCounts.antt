-- A tree of many levels has many rows, and there are only so many prefixes.
use Rattle.std.proofs.Common.{◌≡◌, ℕ, zero, suc, ◌+◌, ◌*◌, ◌^◌, ◌<◌, ◌≤◌, true, ◌&&◌, ◌==◌, List, [], ◌∷◌, length, arith, ◌⊎◌, inl, inr}
use Rattle.std.specs.Prelude.{nat_lt}
use Rattle.std.proofs.lemmas.Bool.{or_cases, and_parts, ltb-true, eqb-true, cases_lt}
use Rattle.std.proofs.lemmas.List.{length-append}
use Rattle.std.proofs.Math.Nat.{mul-le-mul_right, pow-suc, one-le-pow, pow-le-pow_right}
use Rattle.palm_base.specs.Prefix.{AreDigits, comes_before}
use Rattle.palm_base.specs.Table.{IsTable}
use Rattle.palm_base.specs.Tree.{Subtree, rows_in}
use Rattle.palm_base.specs.Pass.{rows_under}
use Rattle.palm_base.specs.Lawful.{Sound, InOrder, Root}
use Rattle.palm_base.specs.Lows.{PrefixesHold}
use Rattle.palm_base.specs.FurtherLaws.{HighTreesHoldMany, LawfulTreesAreLow}
use Rattle.palm_base.proofs.KeyOrder.{keys_keep_order}
use Rattle.palm_base.proofs.SoundNodes.{in_order_rises}
use Rattle.palm_base.proofs.RisingTables.{rising_is_table}
use Rattle.palm_base.specs.declared.bounds.TheConstants.{LEAST_LEAF_ROWS, LEAST_CHILDREN}
use Rattle.palm_base.specs.declared.row.Row.{Row}

-- ---- how many prefixes

-- A number for each list of at most k digits, below 11 ^ k and in their order: a digit counts one more than it is, so that
-- a list stands before the longer ones that it begins.
abbrev rank : ℕ → List ℕ → ℕ
rank k [] = 0
rank zero (d ∷ digits) = 0
rank (suc k) (d ∷ digits) = suc d * 11 ^ k + rank k digits

rank_below : (k : ℕ) (digits : List ℕ) → AreDigits digits → rank k digits < 11 ^ k
rank_below k [] small = one-le-pow k 11 (omega arith)
rank_below zero (d ∷ digits) small = one-le-pow 0 11 (omega arith)
rank_below (suc k) (d ∷ digits) small =
    let rest = rank_below k digits small.1 in
    let first : suc d * 11 ^ k ≤ 10 * 11 ^ k = mul-le-mul_right (11 ^ k) (omega arith) in
    rw pow-suc (omega arith)

rank_order : (k : ℕ) (p q : List ℕ) → AreDigits p → AreDigits q → length p ≤ k → length q ≤ k → comes_before p q ≡ true → rank k p < rank k q
rank_order k [] [] a b l m before = cc
rank_order zero [] (e ∷ others) a b l m before = absurd (omega arith)
rank_order (suc k) [] (e ∷ others) a b l m before =
    let some : 0 < 11 ^ k = one-le-pow k 11 (omega arith) in
    let first : 1 * 11 ^ k ≤ suc e * 11 ^ k = mul-le-mul_right (11 ^ k) (omega arith) in
    omega arith
rank_order k (d ∷ digits) [] a b l m before = cc
rank_order zero (d ∷ digits) (e ∷ others) a b l m before = absurd (omega arith)
rank_order (suc k) (d ∷ digits) (e ∷ others) a b l m before =
    by (rank_order k digits others a.1 b.1 (omega arith) (omega arith)) (or_cases (nat_lt d e) (d == e && comes_before digits others) before)
  where
    by : (comes_before digits others ≡ true → rank k digits < rank k others) → (nat_lt d e ≡ true) ⊎ ((d == e && comes_before digits others) ≡ true)
        → rank (suc k) (d ∷ digits) < rank (suc k) (e ∷ others)
    by later (inl smaller) =
        let less = ltb-true d e smaller in
        let more : suc (suc d) * 11 ^ k ≤ suc e * 11 ^ k = mul-le-mul_right (11 ^ k) (omega arith) in
        let rest = rank_below k digits a.1 in
        omega arith
    by later (inr both) =
        let parts = and_parts (d == e) (comes_before digits others) both in
        let same = eqb-true d e parts.0 in
        let rest = later parts.1 in
        rw same (omega arith)

-- The rows of a table are no more than the ranks from the first row's on.
ranks_left : (row : Row) (rows : List Row) → IsTable (row ∷ rows) → PrefixesHold (row ∷ rows) → rank 15 row.prefix + length (row ∷ rows) ≤ 11 ^ 15
ranks_left row [] table prefixes = let below = rank_below 15 row.prefix prefixes.0.small in omega (arith, below)
ranks_left row (next ∷ rows) table prefixes =
    let rest = ranks_left next rows table.1 prefixes.1 in
    let before = (keys_keep_order row.prefix next.prefix prefixes.0 prefixes.1.0).1 table.0.0 in
    let less = rank_order 15 row.prefix next.prefix prefixes.0.small prefixes.1.0.small prefixes.0.few prefixes.1.0.few before in
    omega (arith, less, rest)

-- A table of prefixes has at most 11 ^ 15 rows.
pub prefixes_are_few : (rows : List Row) → IsTable rows → PrefixesHold rows → length rows ≤ 11 ^ 15
prefixes_are_few [] table prefixes = omega arith
prefixes_are_few (row ∷ rows) table prefixes = let left = ranks_left row rows table prefixes in omega (arith, left)

-- ---- how many rows

children_hold : (n least : ℕ) → ((l h : ℕ) (node : Subtree n) → Sound n l h node → least ≤ length (rows_in n node))
    → (l h : ℕ) (children : List (ℕ × Subtree n)) → InOrder n l h children → length children * least ≤ length (rows_under n children)
children_hold n least each l h [] chain = omega arith
children_hold n least each l h (child ∷ children) chain =
    let first = each l _ child.1 chain.0.1 in
    let rest = children_hold n least each _ h children chain.1 in
    simp length-append (omega arith)

-- A node below the root with n levels below it has at least so many rows.
node_holds : (n l h : ℕ) (node : Subtree n) → Sound n l h node → LEAST_LEAF_ROWS * LEAST_CHILDREN ^ n ≤ length (rows_in n node)
node_holds zero l h rows sound = omega arith
node_holds (suc n) l h children sound =
    let all = children_hold n (LEAST_LEAF_ROWS * LEAST_CHILDREN ^ n) (node_holds n) l h children sound.2 in
    let least : LEAST_CHILDREN * (LEAST_LEAF_ROWS * LEAST_CHILDREN ^ n) ≤ length children * (LEAST_LEAF_ROWS * LEAST_CHILDREN ^ n) =
    mul-le-mul_right (LEAST_LEAF_ROWS * LEAST_CHILDREN ^ n) sound.0.0 in
    rw pow-suc (omega arith)

root_holds : (n h : ℕ) (children : List (ℕ × Subtree n)) → Root (suc n) h children
    → 2 * (LEAST_LEAF_ROWS * LEAST_CHILDREN ^ n) ≤ length (rows_under n children)
root_holds n h children root =
    let all = children_hold n (LEAST_LEAF_ROWS * LEAST_CHILDREN ^ n) (node_holds n) 0 h children root.2 in
    let least : 2 * (LEAST_LEAF_ROWS * LEAST_CHILDREN ^ n) ≤ length children * (LEAST_LEAF_ROWS * LEAST_CHILDREN ^ n) =
    mul-le-mul_right (LEAST_LEAF_ROWS * LEAST_CHILDREN ^ n) root.0.0 in
    omega arith

pub high_trees_hold_many : HighTreesHoldMany
high_trees_hold_many (zero, rows) n lawful levels = absurd (omega arith)
high_trees_hold_many (suc m, children) n lawful levels =
    let same : m ≡ n = omega arith in
    rw (← same) (root_holds m lawful.0 children lawful.1)

low : (n h : ℕ) (node : Subtree n) → Root n h node → PrefixesHold (rows_in n node) → n ≤ 16
low zero h rows root prefixes = omega arith
low (suc n) h children root prefixes = by (cases_lt n 16)
  where
    by : (n < 16) ⊎ (16 ≤ n) → suc n ≤ 16
    by (inl less) = less
    by (inr more) =
        let many = root_holds n h children root in
        let up : LEAST_CHILDREN ^ 16 ≤ LEAST_CHILDREN ^ n = pow-le-pow_right (omega arith) more in
        let few =
        prefixes_are_few (rows_under n children) (rising_is_table 0 h (rows_under n children) (in_order_rises n 0 h children root.2)) prefixes in
        absurd (omega arith)

pub lawful_trees_are_low : LawfulTreesAreLow
lawful_trees_are_low tree lawful prefixes = let few = low tree.0 lawful.0 tree.1 lawful.1 prefixes in omega arith
