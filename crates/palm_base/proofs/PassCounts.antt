-- A pass keeps each row once: it is under a piece or loose. So no two loose rows have one key.
use Rattle.std.proofs.Common.{◌≡◌, ℕ, zero, suc, ◌+◌, ◌<◌, ◌≤◌, Bool, true, false, cond, List, [], ◌∷◌, ◌++◌, length, filter, ap, ◌∙◌, arith}
use Rattle.std.specs.List.{sum_by}
use Rattle.std.proofs.lemmas.List.{append-nil}
use Rattle.std.proofs.lemmas.List.Sums.{sum_by-append}
use Rattle.palm_base.specs.Table.{after, after_all, IsTable}
use Rattle.palm_base.specs.Cut.{cut}
use Rattle.palm_base.specs.Tree.{Subtree, Tree, rows_in, rows_of}
use Rattle.palm_base.specs.Pass.{Outcome, goes_left, goes_right, rows_under, leaves_of, nodes_over, joined, is_small, below, leaf_outcome, inner_outcome, pass, base_level, base_pass}
use Rattle.palm_base.specs.Lawful.{Sound, InOrder, Root, IsLawful}
use Rattle.palm_base.specs.declared.bounds.TheConstants.{LEAST_LEAF_ROWS, MOST_LEAF_ROWS, LEAST_CHILDREN, MOST_CHILDREN}
use Rattle.palm_base.proofs.Tables.{calls_keep_tables}
use Rattle.palm_base.proofs.TableSplits.{all_split}
use Rattle.palm_base.proofs.Cuts.{pieces_join}
use Rattle.palm_base.proofs.RisingRows.{rising_range, under_range, from_range}
use Rattle.palm_base.proofs.RisingTables.{rising_is_table}
use Rattle.palm_base.proofs.KeyCounts.{has, one_each}
use Rattle.palm_base.proofs.LiteralTrees.{root_to}
use Rattle.palm_base.proofs.SoundNodes.{rows_of_leaves, rows_of_nodes, rows_join, sound_rises, in_order_rises}
use Rattle.palm_base.specs.declared.row.Row.{Row}
use Rattle.palm_base.specs.declared.call.Call.{Call}

module _ (f : Row → ℕ) where
  -- The rows under the pieces and the loose rows come to what the table comes to.
  abbrev Keeps : (n : ℕ) → List Row → Outcome n → Type 0
  Keeps n table outcome = sum_by f (rows_under n outcome.pieces) + sum_by f outcome.loose ≡ sum_by f table

  leaves_keep : (low : ℕ) (rows : List Row) → Keeps zero rows (record { pieces = leaves_of low rows; loose = [] })
  leaves_keep low rows =
      let same : sum_by f (rows_under zero (leaves_of low rows)) ≡ sum_by f rows =
      ap (sum_by f) (rows_of_leaves low (cut MOST_LEAF_ROWS rows) ∙ pieces_join MOST_LEAF_ROWS rows (omega arith)) in
      omega arith

  leaf_keeps : (low : ℕ) (rows : List Row) → Keeps zero rows (leaf_outcome low rows)
  leaf_keeps low rows = by (is_small LEAST_LEAF_ROWS rows)
    where
      by : (small : Bool) → Keeps zero rows (cond small (record { pieces = []; loose = rows }) (record { pieces = leaves_of low rows; loose = [] }))
      by true = omega arith
      by false = leaves_keep low rows

  inner_keeps : (n low : ℕ) (table : List Row) (left : Outcome n) → Keeps n table left → Keeps (suc n) table (inner_outcome n low left)
  inner_keeps n low table left keeps = by (is_small LEAST_CHILDREN left.pieces)
    where
      by : (small : Bool)
          → Keeps (suc n) table (cond small (record { pieces = []; loose = rows_under n left.pieces ++ left.loose }) (record { pieces = nodes_over low left.pieces; loose = left.loose }))
      by true = rw (sum_by-append f (rows_under n left.pieces) left.loose) (omega arith)
      by false =
          let same : sum_by f (rows_under (suc n) (nodes_over low left.pieces)) ≡ sum_by f (rows_under n left.pieces) =
          ap (sum_by f)
          (rows_of_nodes n low (cut MOST_CHILDREN left.pieces) ∙ ap (rows_under n) (pieces_join MOST_CHILDREN left.pieces (omega arith))) in
          omega arith

  joined_keeps : (n : ℕ) (table more : List Row) (left right : Outcome n) → Keeps n table left → Keeps n more right
      → Keeps n (table ++ more) (joined left right)
  joined_keeps n table more left right keeps also =
      let kept = sum_by-append f (rows_under n left.pieces) (rows_under n right.pieces) in
      let gone = sum_by-append f left.loose right.loose in
      let all = sum_by-append f table more in
      rw (rows_join n left.pieces right.pieces, kept, gone, all) (omega arith)

  abbrev PassKeeps : ℕ → Type 0
  PassKeeps n =
      (l h low : ℕ) (node : Subtree n) (edits : List Call) → Sound n l h node → Keeps n (after_all (rows_in n node) edits) (pass n low node edits)

  below_keeps : (n : ℕ) → PassKeeps n → (l h : ℕ) (children : List (ℕ × Subtree n)) (edits : List Call) → InOrder n l h children → 0 < length children
      → Keeps n (after_all (rows_under n children) edits) (below n (pass n) children edits)
  below_keeps n law l h [] edits chain some = absurd (omega arith)
  below_keeps n law l h (child ∷ []) edits chain some = rw append-nil (law l h child.0 child.1 edits chain.0.1)
  below_keeps n law l h (child ∷ next ∷ children) edits chain some =
      let m = next.0 in
      let rest = rows_under n (next ∷ children) in
      let under = under_range l m (rows_in n child.1) (rising_range l m (rows_in n child.1) (sound_rises n l m child.1 chain.0.1)) in
      let from = from_range m h rest (rising_range m h rest (in_order_rises n m h (next ∷ children) chain.1)) in
      let here = filter (goes_left m) edits in
      let there = filter (goes_right m) edits in
      rw (all_split m (rows_in n child.1) rest edits under from)
      (joined_keeps n (after_all (rows_in n child.1) here) (after_all rest there) (pass n child.0 child.1 here) (below n (pass n) (next ∷ children) there)
      (law l m child.0 child.1 here chain.0.1)
      (below_keeps n law m h (next ∷ children) there chain.1 (omega arith)))

  pass_keeps : (n : ℕ) → PassKeeps n
  unfolding pass
  pass_keeps zero l h low rows edits sound = leaf_keeps low (after_all rows edits)
  pass_keeps (suc n) l h low children edits sound =
      inner_keeps n low (after_all (rows_under n children) edits) (below n (pass n) children edits)
      (below_keeps n (pass_keeps n) l h children edits sound.2 (let sizes = sound.0 in omega arith))

  -- So does a pass of what is under a root.
  pub base_keeps : (n h : ℕ) (node : Subtree n) (edits : List Call) → Root n h node
      → Keeps (base_level n) (after_all (rows_in n node) edits) (base_pass n node edits)
  base_keeps zero h rows edits root = leaves_keep 0 (after_all rows edits)
  base_keeps (suc n) h children edits root = below_keeps n (pass_keeps n) 0 h children edits root.2 (let sizes = root.0 in omega arith)

-- Calls one after another leave a table.
pub calls_keep : (rows : List Row) (calls : List Call) → IsTable rows → IsTable (after_all rows calls)
calls_keep rows [] table = table
calls_keep rows (call ∷ calls) table = calls_keep (after rows call) calls (calls_keep_tables rows call table)

-- Of the loose rows of a lawful tree at most one has a key.
pub loose_once : (tree : Tree) (edits : List Call) → IsLawful tree → (k : ℕ) → sum_by (has k) (base_pass tree.0 tree.1 edits).loose ≤ 1
loose_once tree edits lawful k =
    let keeps = base_keeps (has k) tree.0 lawful.0 tree.1 edits lawful.1 in
    let table = rising_is_table 0 lawful.0 (rows_of tree) (root_to tree.0 lawful.0 tree.1 lawful.1).1 in
    let once = one_each k (after_all (rows_of tree) edits) (calls_keep (rows_of tree) edits table) in
    omega arith
