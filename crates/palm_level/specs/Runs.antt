-- Changes of one parent after another.
use Rattle.std.specs.Prelude.{if◌then◌else◌, List, [], ◌∷◌}
use Rattle.palm_node.specs.declared.id.NodeId.{NodeId}
use Rattle.palm_node.specs.declared.change.Change.{Change}
use Rattle.palm_arena.specs.Reads.{same_place}
use Rattle.palm_level.specs.Splices.{last_step}

-- The node that a changed node is a child of. So that of a change with the path (0, 1), (3, 2) is 3.
abbrev pub parent_of : Change → NodeId
parent_of change = (last_step change.path).0

-- A change before runs: it joins the first of them where it has the same parent, and else is a run of its own.
-- So by their parents 4 before (4, 4), (7) makes (4, 4, 4), (7), and 7 before these makes (7), (4, 4), (7).
abbrev pub add_run : Change → List (List Change) → List (List Change)
add_run change [] = (change ∷ []) ∷ []
add_run change ([] ∷ runs) = (change ∷ []) ∷ runs
add_run change ((first ∷ later) ∷ runs) =
    let joined = (change ∷ first ∷ later) ∷ runs in
    let apart = (change ∷ []) ∷ (first ∷ later) ∷ runs in
    if same_place (parent_of change) (parent_of first) then joined else apart

-- The longest runs of changes of one parent, in order. So of the parents 4, 4, 7 there is one of two and one of one.
abbrev pub runs : List Change → List (List Change)
runs [] = []
runs (change ∷ changes) = add_run change (runs changes)
