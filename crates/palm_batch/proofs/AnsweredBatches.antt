-- What the leaves of a tree answer the parts of a batch are the answers to the batch.
use Rattle.std.proofs.Common.{◌≡◌, ℕ, List, [], ◌∷◌, drop, ap}
use Rattle.std.specs.Prelude.{Option}
use Rattle.std.specs.List.{AllByRecursion}
use Rattle.palm_base.specs.Tree.{Tree, rows_of}
use Rattle.palm_base.specs.declared.call.Entry.{Entry}
use Rattle.palm_base.proofs.Lows.{prefixes_in}
use Rattle.palm_node.specs.declared.id.NodeId.{NodeId}
use Rattle.palm_node.specs.declared.node.Node.{Node}
use Rattle.palm_arena.specs.declared.shape.Shape.{Shape}
use Rattle.palm_arena.specs.Leaves.{LeafPlace, leaves_at}
use Rattle.palm_route.specs.Edits.{EditsPrefix}
use Rattle.palm_route.specs.Parts.{lows_of, parts_of}
use Rattle.palm_route.proofs.Ascents.{Ascends, first_low}
use Rattle.palm_route.proofs.Descents.{tree_ascends, leaves_rise}
use Rattle.palm_leaf.proofs.LeavesAnswer.{the_leaves_answer}
use Rattle.palm_batch.specs.Passing.{IsTree, answers_at}
use Rattle.palm_batch.specs.Replies.{AreAnswers}
use Rattle.palm_base.proofs.LiteralTrees.{lawful_table}
use Rattle.palm_batch.proofs.PassedTrees.{tree_there, parts_have_keys}

lows_begin : (high : ℕ) (places : List LeafPlace) → Ascends 0 high places → lows_of places ≡ 0 ∷ drop 1 (lows_of places)
lows_begin high [] up = absurd up
lows_begin high (place ∷ places) up = ap (λ low. low ∷ lows_of places) (first_low 0 high place places up)

pub leaves_answer_batch : (nodes : NodeId → Option Node) (shape : Shape) (tree : Tree) (batch : List Entry) → IsTree tree nodes shape → AllByRecursion (λ entry. EditsPrefix entry.call) batch
    → AreAnswers (leaves_at nodes shape) (drop 1 (lows_of (leaves_at nodes shape))) (rows_of tree) batch (answers_at nodes shape batch)
leaves_answer_batch nodes shape tree batch is edits =
    let there = tree_there tree nodes shape is in
    let places = leaves_at nodes shape in
    let up = tree_ascends nodes shape there in
    record {
      begin = lows_begin up.0 places up.1;
      rise = leaves_rise nodes shape there;
      table = lawful_table tree is.lawful;
      prefixes = prefixes_in tree.0 tree.1 is.lows;
      are = the_leaves_answer nodes shape tree (parts_of places 0 batch) is.reads-as is.lawful (parts_have_keys places 0 batch edits);
    }
