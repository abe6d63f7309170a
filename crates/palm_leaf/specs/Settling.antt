-- Leaves that were given back, and what is left to do for them: the later ones are put into the arena, and removed ones dropped.
use Rattle.std.specs.Prelude.{◌≡◌, List, [], ◌∷◌, ◌++◌, length, map, Option}
use Rattle.std.specs.List.{flat_map}
use Rattle.palm_node.specs.declared.id.NodeId.{NodeId}
use Rattle.palm_node.specs.declared.id.Piece.{Piece}
use Rattle.palm_node.specs.declared.node.Node.{Node}
use Rattle.palm_arena.specs.Cells.{Cell, Turns}
use Rattle.palm_leaf.specs.Answers.{rows_at}
use Rattle.palm_leaf.specs.Ends.{LeafEnd, pieces_at, leaf_cells, leaf_cell, change_at}
use Rattle.palm_leaf.specs.Worked.{low_and_rows, outcome_of_plan, answers_of_plan}
use Rattle.palm_leaf.specs.declared.answer.PartAnswer.{PartAnswer}
use Rattle.palm_leaf.specs.declared.leaf_work.NewLeaf.{NewLeaf}
use Rattle.palm_leaf.specs.declared.leaf_work.LeafWork.{LeafWork}
use Rattle.palm_leaf.specs.declared.lending.LeafDone.{LeafDone}
use Rattle.palm_leaf.specs.declared.settling.Gathered.{Gathered}

-- A leaf that was given back after its work. So of the work on the leaf at 2 it is the id 2 with the work's plan.
abbrev pub done_of : LeafWork → LeafDone
done_of work = record { id = work.lease.id; plan = work.plan }

-- What becomes of it: its outcome is the one that its plan shows.
-- So where the leaf b stands at 2, and its plan keeps it with the low 20 and no later leaf, it is the one piece (20, b) of 2.
abbrev pub end_of_done : (NodeId → Option Node) → LeafDone → LeafEnd
end_of_done nodes done = record { node = done.id; path = done.plan.path.now; outcome = outcome_of_plan (rows_at nodes done.id) done.plan }

-- Such leaves as cells. So those of the leaves a at 1 and b at 2 are (1, a), (2, b).
abbrev pub done_cells : (NodeId → Option Node) → List LeafDone → List Cell
done_cells nodes all = map (λ done. leaf_cell nodes done.id) all

-- The answers to their parts. So for a leaf with the answers 120 and 90 and one with the answer 5 they are 120, 90, 5.
abbrev pub answers_of_done : List LeafDone → List PartAnswer
answers_of_done all = flat_map (λ done. answers_of_plan done.plan) all

-- New leaves were put into an arena, and listed behind other pieces.
-- So where the leaf b with the low 28 was put at 3, and (20, 2) was listed, (20, 2), (28, 3) are.
pub record AreTaken (old new : NodeId → Option Node) (before after : List Piece) (later : List NewLeaf) : Type 0 where
  pub ids : List NodeId
  pub many : length ids ≡ length later
  pub pieces-are : after ≡ before ++ pieces_at ids (map low_and_rows later)
  pub turned : Turns old new [] (leaf_cells ids (map low_and_rows later))

-- A leaf has become this end, which was gathered.
-- So where the leaf at 2 has become 9 rows there and 8 at 3, one change is added, of 2 with pieces at 2 and 3, and no answer.
pub record EndsAs (old new : NodeId → Option Node) (end : LeafEnd) (before after : Gathered) : Type 0 where
  pub ids : List NodeId
  pub many : length ids ≡ length end.outcome.pieces
  pub nodes-are : after.nodes ≡ before.nodes ++ change_at ids end ∷ []
  pub loose-are : after.loose.items ≡ before.loose.items ++ end.outcome.loose
  pub answers-are : after.answers ≡ before.answers
  pub turned : Turns old new (leaf_cell old end.node ∷ []) (leaf_cells ids end.outcome.pieces)

-- A leaf that was given back has become the end that its plan shows, with its answers and what is gathered of it.
-- So for Set 44 90 on a root leaf of 44 120 at 2, the change of 2 with the one piece and the answer 120 are added.
pub record EndsWith (old new : NodeId → Option Node) (done : LeafDone) (before after : Gathered) : Type 0 where
  pub ids : List NodeId
  pub many : length ids ≡ length (end_of_done old done).outcome.pieces
  pub nodes-are : after.nodes ≡ before.nodes ++ change_at ids (end_of_done old done) ∷ []
  pub loose-are : after.loose.items ≡ before.loose.items ++ (end_of_done old done).outcome.loose
  pub answers-are : after.answers ≡ before.answers ++ answers_of_plan done.plan
  pub turned : Turns old new (leaf_cell old done.id ∷ []) (leaf_cells ids (end_of_done old done).outcome.pieces)
