-- Histories: they leave what their calls leave, and however one is cut, its tree is lawful and has the rows that it leaves.
use Rattle.std.proofs.Common.{◌≡◌, ℕ, ◌+◌, List, [], ◌∷◌, ◌++◌, length, take, drop, refl, sym, ap, arith, ◌∙◌}
use Rattle.std.specs.Prelude.{sum}
use Rattle.std.proofs.lemmas.List.Sums.{sum_by-cons}
use Rattle.std.proofs.lemmas.List.{length-drop, map-append, nil_from_length, take-append-drop}
use Rattle.palm_base.specs.Table.{answer, after, after_all}
use Rattle.palm_base.specs.Tree.{Tree, rows_of}
use Rattle.palm_base.specs.History.{calls_of, table_after, replies_to}
use Rattle.palm_base.specs.Pass.{batch_tree, tree_after}
use Rattle.palm_base.specs.Lawful.{IsLawful}
use Rattle.palm_base.specs.Laws.{HistoriesGoByCalls}
use Rattle.palm_base.specs.TreeLaws.{CuttingsKeepRows, CuttingsKeepLaw}
use Rattle.palm_base.proofs.Tables.{after_all_append}
use Rattle.palm_base.proofs.Batches.{batches_keep_rows, batches_keep_law}
use Rattle.palm_base.specs.declared.row.Row.{Row}
use Rattle.palm_base.specs.declared.call.Entry.{Entry}
use Rattle.palm_base.specs.declared.call.Reply.{Reply}

-- One history after another: the table that both leave, and the replies to both.
pub table_after-append : (rows : List Row) (xs ys : List Entry) → table_after rows (xs ++ ys) ≡ table_after (table_after rows xs) ys
table_after-append rows [] ys = refl
table_after-append rows (x ∷ xs) ys = table_after-append (after rows x.call) xs ys

pub replies_to-append : (rows : List Row) (xs ys : List Entry) → replies_to rows (xs ++ ys) ≡ replies_to rows xs ++ replies_to (table_after rows xs) ys
replies_to-append rows [] ys = refl
replies_to-append rows (x ∷ xs) ys = ap (λ (replies : List Reply). answer rows x.call ∷ replies) (replies_to-append (after rows x.call) xs ys)

pub histories_go_by_calls : HistoriesGoByCalls
histories_go_by_calls rows [] = refl
histories_go_by_calls rows (entry ∷ entries) = histories_go_by_calls (after rows entry.call) entries

-- The calls of the first n entries and those of the others are the calls of all.
calls_parted : (n : ℕ) (rows : List Row) (entries : List Entry)
    → after_all (after_all rows (calls_of (take n entries))) (calls_of (drop n entries)) ≡ after_all rows (calls_of entries)
calls_parted n rows entries =
    sym (after_all_append rows (calls_of (take n entries)) (calls_of (drop n entries)))
    ∙ ap (after_all rows) (together ∙ ap calls_of (take-append-drop n entries))
  where
    together : calls_of (take n entries) ++ calls_of (drop n entries) ≡ calls_of (take n entries ++ drop n entries)
    together = rw map-append

cuttings_go_by_calls : (tree : Tree) (entries : List Entry) (lengths : List ℕ) → IsLawful tree → sum lengths ≡ length entries
    → rows_of (tree_after tree entries lengths) ≡ after_all (rows_of tree) (calls_of entries)
cuttings_go_by_calls tree entries [] lawful whole =
    ap (λ entries. after_all (rows_of tree) (calls_of entries)) (sym (nil_from_length entries (omega arith)))
cuttings_go_by_calls tree entries (n ∷ lengths) lawful whole =
    let batch = calls_of (take n entries) in
    let total : sum (n ∷ lengths) ≡ n + sum lengths = sum_by-cons (λ length. length) n lengths in
    let rest : sum lengths ≡ length (drop n entries) = simp length-drop (omega arith) in
    cuttings_go_by_calls (batch_tree tree batch) (drop n entries) lengths (batches_keep_law tree batch lawful) rest
    ∙ ap (λ rows. after_all rows (calls_of (drop n entries))) (batches_keep_rows tree batch lawful)
    ∙ calls_parted n (rows_of tree) entries

pub cuttings_keep_rows : CuttingsKeepRows
cuttings_keep_rows tree entries lengths lawful cutting =
    cuttings_go_by_calls tree entries lengths lawful cutting.whole ∙ sym (histories_go_by_calls (rows_of tree) entries)

pub cuttings_keep_law : CuttingsKeepLaw
cuttings_keep_law tree entries [] lawful = lawful
cuttings_keep_law tree entries (n ∷ lengths) lawful =
    let batch = calls_of (take n entries) in
    cuttings_keep_law (batch_tree tree batch) (drop n entries) lengths (batches_keep_law tree batch lawful)
