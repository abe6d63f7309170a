-- What the parts of a leaf are answered, and what they leave of its rows.
use Rattle.std.specs.Prelude.{ℕ, List, [], ◌∷◌, take, filter, Option, None, Some}
use Rattle.palm_base.specs.Key.{key}
use Rattle.palm_base.specs.Table.{rate_at, lies_within, after_all}
use Rattle.palm_base.specs.declared.row.Row.{Row}
use Rattle.palm_node.specs.declared.id.NodeId.{NodeId}
use Rattle.palm_node.specs.declared.node.Node.{Node}
use Rattle.palm_node.specs.declared.node.Node.TheVariants.{Leaf, Inner}
use Rattle.palm_route.specs.Edits.{edits_of}
use Rattle.palm_route.specs.declared.part.Ask.{Ask}
use Rattle.palm_route.specs.declared.part.Ask.TheVariants as ask
use Rattle.palm_route.specs.declared.part.Part.{Part}
use Rattle.palm_leaf.specs.declared.answer.LeafAnswer.{LeafAnswer}
use Rattle.palm_leaf.specs.declared.answer.LeafAnswer.TheVariants.{Old, Found}
use Rattle.palm_leaf.specs.declared.answer.PartAnswer.{PartAnswer}

-- What an ask by a key is answered on rows. So on the row of 44 at 5 a Set by the key of 44 is answered the old rate 5.
abbrev pub answer_by : ℕ → Ask → List Row → LeafAnswer
answer_by k (ask.Set rate) rows = Old (rate_at k rows)
answer_by k ask.Del rows = Old (rate_at k rows)
answer_by k ask.Look rows = Old (rate_at k rows)
answer_by k (ask.List from to limit) rows = Found (take limit (filter (lies_within (key from) (key to)) rows))

-- What a part is answered on rows. So a part of Set 44 90 on the row 44 120 is answered the old rate 120.
abbrev pub answer_of : List Row → Part → LeafAnswer
answer_of rows part = answer_by part.key part.ask rows

-- The rows after a part: those that its edit leaves, where it has one.
-- So a part of Set 44 90 leaves of the row 44 120 the row 44 90, and a look-up leaves 44 120.
abbrev pub after_part : List Row → Part → List Row
after_part rows part = after_all rows (edits_of (part ∷ []))

-- What parts are answered one after another, each on the rows that the parts before it leave.
-- So on no rows Set 44 5 and a look-up of 44 are answered nothing and then 5.
abbrev pub answers_in : List Row → List Part → List PartAnswer
answers_in rows [] = []
answers_in rows (part ∷ parts) = record { part = part; answer = answer_of rows part } ∷ answers_in (after_part rows part) parts

-- The rows of a node: those of a leaf, and none where no leaf stands.
-- So the leaf of 44 120 has this row, and an inner node has none.
abbrev pub rows_in_node : Option Node → List Row
rows_in_node None = []
rows_in_node (Some (Leaf rows)) = rows
rows_in_node (Some (Inner inner)) = []

-- The rows of the leaf at an id.
-- So they are 44 120 at 2 where the leaf of this row stands there, and none at 3 where nothing stands.
abbrev pub rows_at : (NodeId → Option Node) → NodeId → List Row
rows_at nodes id = rows_in_node (nodes id)
