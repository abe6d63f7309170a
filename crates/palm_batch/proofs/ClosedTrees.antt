-- What closes a tree after a batch: its nodes hold the tree that the batch leaves, with so many rows, or those of before.
use Rattle.std.proofs.Common.{◌≡◌, ℕ, ◌<◌, ◌≤◌, ◌+◌, ◌^◌, List, length, Some, None, sym, ap, ◌∙◌, subst, arith}
use Rattle.std.specs.Prelude.{Option, MatchOption, IsSome, count_by}
use Rattle.std.specs.List.{Contains}
use Rattle.palm_base.specs.History.{calls_of, replies_to, table_after}
use Rattle.palm_base.specs.Lawful.{IsLawful}
use Rattle.palm_base.specs.Lows.{LowsAreKeys}
use Rattle.palm_base.specs.Pass.{batch_tree}
use Rattle.palm_base.specs.Tree.{Tree, rows_of}
use Rattle.palm_base.specs.declared.call.Entry.{Entry}
use Rattle.palm_base.specs.declared.call.Reply.{Reply}
use Rattle.palm_base.proofs.Batches.{batches_keep_rows, batches_keep_law}
use Rattle.palm_base.proofs.Histories.{histories_go_by_calls}
use Rattle.palm_base.proofs.LevelCounts.{prefixes_are_few}
use Rattle.palm_base.proofs.LiteralTrees.{lawful_table}
use Rattle.palm_base.proofs.Lows.{prefixes_in}
use Rattle.palm_base.proofs.Replies.{replies_are_as_many}
use Rattle.palm_node.specs.declared.id.NodeId.{NodeId}
use Rattle.palm_arena.specs.ArenaState.{ArenaState, node_at, node_in, IsHeld, IsVacant, NoneLent}
use Rattle.palm_arena.specs.Reads.{map_of, IsWhole}
use Rattle.palm_arena.specs.declared.place.Place.{Place}
use Rattle.palm_arena.specs.declared.shape.Shape.{Shape}
use Rattle.palm_tree.specs.TreeValue.{tree_of, HoldsTree}
use Rattle.palm_tree.proofs.Values.{tree_reads}
use Rattle.palm_batch.specs.Passing.{IsTree}
use Rattle.palm_batch.specs.Replies.{is_new, is_gone}
use Rattle.palm_batch.proofs.RowCounts.{rows_counted}

-- ---- the rows

-- A tree's rows and a batch of at most so many calls come to a number that fits a word.
pub rows_fit : (tree : Tree) (batch : List Entry) (replies : List Reply) (rows : ℕ) → IsLawful tree → LowsAreKeys tree → replies ≡ replies_to (rows_of tree) batch
    → length (rows_of tree) ≡ rows → length batch ≤ 65536 → rows + length replies < 2 ^ 64
rows_fit tree batch replies rows lawful lows are count most =
    let few = prefixes_are_few (rows_of tree) (lawful_table tree lawful) (prefixes_in tree.0 tree.1 lows) in
    let many = ap length are ∙ replies_are_as_many (rows_of tree) batch in
    omega (arith, few, many, count, most)

-- No more rows are taken out than were there or were put in.
pub rows_stand : (tree : Tree) (batch : List Entry) (replies : List Reply) (rows : ℕ) → IsLawful tree → replies ≡ replies_to (rows_of tree) batch
    → length (rows_of tree) ≡ rows → count_by is_gone replies ≤ rows + count_by is_new replies
rows_stand tree batch replies rows lawful are count =
    let counted = rows_counted (rows_of tree) batch (lawful_table tree lawful) in
    rw are (omega (arith, counted, count))

-- The rows of the batch's tree are as many as the replies tell.
pub rows_close : (tree : Tree) (batch : List Entry) (replies : List Reply) (rows left : ℕ) → IsLawful tree → replies ≡ replies_to (rows_of tree) batch
    → length (rows_of tree) ≡ rows → left + count_by is_gone replies ≡ rows + count_by is_new replies → length (rows_of (batch_tree tree (calls_of batch))) ≡ left
rows_close tree batch replies rows left lawful are count told =
    let counted = rows_counted (rows_of tree) batch (lawful_table tree lawful) in
    let same : length (rows_of (batch_tree tree (calls_of batch))) ≡ length (table_after (rows_of tree) batch) =
    ap length (batches_keep_rows tree (calls_of batch) lawful ∙ sym (histories_go_by_calls (rows_of tree) batch)) in
    let now = subst (λ replies. left + count_by is_gone replies ≡ rows + count_by is_new replies) are told in
    omega (arith, counted, same, now, count)

-- The tree after a batch has the rows that its calls leave, and is lawful.
pub rows_left : (old now : Tree) (batch : List Entry) → IsLawful old → now ≡ batch_tree old (calls_of batch) → rows_of now ≡ table_after (rows_of old) batch
rows_left old now batch lawful is = ap rows_of is ∙ batches_keep_rows old (calls_of batch) lawful ∙ sym (histories_go_by_calls (rows_of old) batch)

pub law_left : (old now : Tree) (batch : List Entry) → IsLawful old → now ≡ batch_tree old (calls_of batch) → IsLawful now
law_left old now batch lawful is = subst IsLawful (sym is) (batches_keep_law old (calls_of batch) lawful)

-- ---- the nodes

-- The nodes hold the tree that they read as.
pub tree_closes : (arena : ArenaState) (shape : Shape) (rows : ℕ) (tree : Tree) → arena.begun ≡ None → NoneLent arena.places → IsTree tree (map_of arena.places) shape
    → length (rows_of tree) ≡ rows → HoldsTree arena shape rows
tree_closes arena shape rows tree idle none is count =
    let same = tree_reads arena.places shape tree is.reads-as in
    record {
      idle = idle;
      none_lent = none;
      whole = is.whole;
      lawful = subst IsLawful (sym same) is.lawful;
      lows = subst LowsAreKeys (sym same) is.lows;
      count = ap (λ (t : Tree). length (rows_of t)) same ∙ count;
    }

-- They hold the tree of before where they are those of before.
pub tree_stays : (before now : ArenaState) (shape : Shape) (rows : ℕ) → HoldsTree before shape rows → now.places ≡ before.places → now.begun ≡ None → HoldsTree now shape rows
tree_stays before now shape rows holds same idle = record {
  idle = idle;
  none_lent = subst NoneLent (sym same) holds.none_lent;
  whole = subst (λ places. IsWhole (map_of places) shape) (sym same) holds.whole;
  lawful = subst (λ places. IsLawful (tree_of places shape)) (sym same) holds.lawful;
  lows = subst (λ places. LowsAreKeys (tree_of places shape)) (sym same) holds.lows;
  count = subst (λ places. length (rows_of (tree_of places shape)) ≡ rows) (sym same) holds.count;
}

-- ---- what was left alone

held_is_no_gap : (places : List Place) (id : NodeId) → IsHeld places id → ¬ IsVacant places id
held_is_no_gap places id held vacant = let none = subst (λ place. IsSome (node_in place)) vacant held in cc

pub others_stay : (begun : Option (List Place)) (old places : List Place) (moved : List NodeId) → begun ≡ Some old
    → MatchOption begun (Unit {0}) (λ old. (id : NodeId) → ¬ IsVacant places id → ¬ Contains moved id → IsHeld places id × (node_at old id ≡ node_at places id))
    → (id : NodeId) → IsHeld places id → ¬ Contains moved id → node_at old id ≡ node_at places id
others_stay begun old places moved is still id held other =
    let stands = subst (λ begun. MatchOption begun (Unit {0}) (λ old. (id : NodeId) → ¬ IsVacant places id → ¬ Contains moved id → IsHeld places id × (node_at old id ≡ node_at places id))) is still in
    (stands id (held_is_no_gap places id held) other).1
