-- A batch: its tree is lawful and has the rows that its calls leave, and so has a history's, however it is cut.
use Rattle.std.proofs.Common.{◌≡◌, ℕ, zero, suc, ◌+◌, ◌<◌, ◌≤◌, List, [], ◌∷◌, length, map, filter, refl, sym, ap, subst, arith, ◌∙◌, ◌⊎◌, inl, inr}
use Rattle.std.specs.List.{AllByRecursion}
use Rattle.std.proofs.lemmas.Bool.{cases_lt}
use Rattle.std.proofs.lemmas.List.{append-nil}
use Rattle.palm_base.specs.Table.{row_key, after, after_all}
use Rattle.palm_base.specs.Cut.{cut}
use Rattle.palm_base.specs.Tree.{Subtree, Tree, rows_in, rows_of}
use Rattle.palm_base.specs.Pass.{Outcome, is_edit, edit_key, set_of, rows_under, leaves_of, below, pass, top, top_in, base_level, base_pass, passed_tree, orphans_of, batch_tree}
use Rattle.palm_base.specs.Lawful.{RowIsIn, IsIn, Rising, Root, IsLawful}
use Rattle.palm_base.specs.TreeLaws.{BatchesKeepRows, BatchesKeepLaw, SecondPassIsWhole}
use Rattle.palm_base.specs.declared.bounds.TheConstants.{LEAST_LEAF_ROWS, MOST_LEAF_ROWS}
use Rattle.palm_base.proofs.Every.{every_filter}
use Rattle.palm_base.proofs.TableSplits.{Adds, all_add}
use Rattle.palm_base.proofs.Cuts.{cut_none, few_are_one_piece, pieces_join}
use Rattle.palm_base.proofs.CutParts.{cut_sizes}
use Rattle.palm_base.proofs.RisingRows.{rising_wider, rising_all, put_all}
use Rattle.palm_base.proofs.SoundNodes.{in_order_wider, leaves_in_order, rows_of_leaves}
use Rattle.palm_base.proofs.Passes.{pass_holds, below_holds}
use Rattle.palm_base.proofs.Tops.{IsTreeOf, top_holds}
use Rattle.palm_base.proofs.Orphans.{put_sorted}
use Rattle.palm_base.proofs.Sets.{sets_are, base_sets}
use Rattle.palm_base.specs.declared.row.Row.{Row}
use Rattle.palm_base.specs.declared.call.Call.{Call}
use Rattle.palm_base.specs.declared.call.Call.TheVariants.{Set, Del, Get, Rate, List as Listing}

-- ---- one pass and the root over its pieces

-- The tree over the pieces of a pass is lawful, and has the table once the loose rows are put back.
record PassedTo (high : ℕ) (table : List Row) (n : ℕ) (outcome : Outcome n) : Type 0 where
  tree : IsTreeOf high (rows_under n outcome.pieces) (top n outcome.pieces)
  loose : AllByRecursion (RowIsIn 0 high) outcome.loose
  rows : put_all (rows_under n outcome.pieces) outcome.loose ≡ table

leaf_tree : (h : ℕ) (rows : List Row) → Rising 0 h rows → IsTreeOf h (rows_under zero (leaves_of 0 rows)) (top zero (leaves_of 0 rows))
leaf_tree h [] rise = rw (cut_none MOST_LEAF_ROWS (omega arith)) (unfold top top_in in record { root = (omega arith, tt); same = refl })
leaf_tree h (row ∷ rows) rise = by (cases_lt MOST_LEAF_ROWS (length (row ∷ rows)))
  where
    by : (MOST_LEAF_ROWS < length (row ∷ rows)) ⊎ (length (row ∷ rows) ≤ MOST_LEAF_ROWS)
        → IsTreeOf h (rows_under zero (leaves_of 0 (row ∷ rows))) (top zero (leaves_of 0 (row ∷ rows)))
    by (inl many) =
        let sizes = cut_sizes LEAST_LEAF_ROWS (row ∷ rows) (omega arith) many in
        let whole = pieces_join MOST_LEAF_ROWS (row ∷ rows) (omega arith) in
        top_holds zero h (leaves_of 0 (row ∷ rows)) (leaves_in_order 0 0 h (cut MOST_LEAF_ROWS (row ∷ rows)) sizes (rw whole rise))
    by (inr few) =
        rw (few_are_one_piece MOST_LEAF_ROWS (row ∷ rows) (omega arith) few)
        (unfold top top_in in record { root = (few, rise); same = sym (append-nil (row ∷ rows)) })

base_holds : (n h : ℕ) (node : Subtree n) (edits : List Call) → Root n h node → AllByRecursion (Adds (IsIn 0 h)) edits
    → PassedTo h (after_all (rows_in n node) edits) (base_level n) (base_pass n node edits)
base_holds zero h rows edits root adds =
    let left = after_all rows edits in
    record {
      tree = leaf_tree h left (rising_all 0 h rows edits root.1 adds);
      loose = tt;
      rows = rows_of_leaves 0 (cut MOST_LEAF_ROWS left) ∙ pieces_join MOST_LEAF_ROWS left (omega arith);
    }
base_holds (suc n) h children edits root adds =
    let holds = below_holds n (pass_holds n) 0 h children edits root.2 (let sizes = root.0 in omega arith) adds in
    record {
      tree = top_holds n h (below n (pass n) children edits).pieces holds.pieces;
      loose = holds.loose;
      rows = holds.rows;
    }

-- ---- both passes

sets_add : (P : ℕ → Type 0) (rows : List Row) → AllByRecursion (λ row. P (row_key row)) rows → AllByRecursion (Adds P) (map set_of rows)
sets_add P [] all = tt
sets_add P (row ∷ rows) all = (λ set. all.0, sets_add P rows all.1)

-- Calls that aren't edits leave the rows.
edits_only : (rows : List Row) (calls : List Call) → after_all rows (filter is_edit calls) ≡ after_all rows calls
edits_only rows [] = refl
edits_only rows (Set prefix rate ∷ calls) = edits_only (after rows (Set prefix rate)) calls
edits_only rows (Del prefix ∷ calls) = edits_only (after rows (Del prefix)) calls
edits_only rows (Get prefix ∷ calls) = edits_only rows calls
edits_only rows (Rate number ∷ calls) = edits_only rows calls
edits_only rows (Listing from to limit ∷ calls) = edits_only rows calls

pub batch_holds : (h : ℕ) (tree : Tree) (calls : List Call) → Root tree.0 h tree.1 → AllByRecursion (Adds (IsIn 0 h)) calls
    → IsTreeOf h (after_all (rows_of tree) calls) (batch_tree tree calls)
batch_holds h tree calls root adds =
    let edits = filter is_edit calls in
    let edits_add = every_filter (Adds (IsIn 0 h)) (Adds (IsIn 0 h)) is_edit (λ call adds passes. adds) calls adds in
    let loose = (base_pass tree.0 tree.1 edits).loose in
    let first = base_holds tree.0 h tree.1 edits root edits_add in
    let between = passed_tree tree edits in
    let orphans = orphans_of tree edits in
    let inside = all_add (IsIn 0 h) [] (map set_of loose) tt (sets_add (IsIn 0 h) loose first.loose) in
    let second = base_holds between.0 h between.1 (map set_of orphans) first.tree.root (sets_add (IsIn 0 h) orphans inside) in
    let none = base_sets between.0 h between.1 (map set_of orphans) first.tree.root (sets_are orphans) in
    let left = rows_under (base_level between.0) (base_pass between.0 between.1 (map set_of orphans)).pieces in
    let same = sym (ap (λ rows. put_all left rows) none) ∙ second.rows ∙ put_sorted 0 h (rows_of between) [] loose tt first.loose
    ∙ ap (λ rows. put_all rows loose) first.tree.same ∙ first.rows ∙ edits_only (rows_of tree) calls in
    subst (λ rows. IsTreeOf h rows (batch_tree tree calls)) same second.tree

-- ---- every lawful tree and every batch

-- A number above the keys of all calls.
pub highest : List Call → ℕ
highest [] = 0
highest (call ∷ calls) = suc (edit_key call) + highest calls

pub adds_below : (h : ℕ) (calls : List Call) → highest calls ≤ h → AllByRecursion (Adds (IsIn 0 h)) calls
unfolding highest
adds_below h [] most = tt
adds_below h (call ∷ calls) most = (λ set. (omega arith, omega arith), adds_below h calls (omega arith))

pub root_wider : (n h h' : ℕ) (node : Subtree n) → Root n h node → h ≤ h' → Root n h' node
root_wider zero h h' rows root more = (root.0, rising_wider 0 h 0 h' rows root.1 (omega arith) more)
root_wider (suc n) h h' children root more = (root.0, root.1, in_order_wider n 0 h 0 h' children root.2 (omega arith) more)

lawful_batch : (tree : Tree) (calls : List Call) (lawful : IsLawful tree)
    → IsTreeOf (lawful.0 + highest calls) (after_all (rows_of tree) calls) (batch_tree tree calls)
lawful_batch tree calls lawful =
    let h = lawful.0 + highest calls in
    batch_holds h tree calls (root_wider tree.0 lawful.0 h tree.1 lawful.1 (omega arith)) (adds_below h calls (omega arith))

pub batches_keep_rows : BatchesKeepRows
batches_keep_rows tree calls lawful = (lawful_batch tree calls lawful).same

pub batches_keep_law : BatchesKeepLaw
batches_keep_law tree calls lawful = (lawful.0 + highest calls, (lawful_batch tree calls lawful).root)

pub second_pass_is_whole : SecondPassIsWhole
second_pass_is_whole tree rows lawful = base_sets tree.0 lawful.0 tree.1 (map set_of rows) lawful.1 (sets_are rows)

-- One pass leaves a lawful tree too.
pub pass_keeps_law : (tree : Tree) (edits : List Call) → IsLawful tree → IsLawful (passed_tree tree edits)
pass_keeps_law tree edits lawful =
    let h = lawful.0 + highest edits in
    (h, (base_holds tree.0 h tree.1 edits (root_wider tree.0 lawful.0 h tree.1 lawful.1 (omega arith)) (adds_below h edits (omega arith))).tree.root)
