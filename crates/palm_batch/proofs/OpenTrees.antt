-- What an opened tree gives the stages.
use Rattle.std.proofs.Common.{◌≡◌, ℕ, sym, subst}
use Rattle.palm_arena.specs.ArenaState.{ArenaState}
use Rattle.palm_arena.specs.Reads.{map_of}
use Rattle.palm_arena.specs.declared.shape.Shape.{Shape}
use Rattle.palm_tree.specs.TreeValue.{tree_of, HoldsTree}
use Rattle.palm_tree.proofs.Values.{value_reads}
use Rattle.palm_batch.specs.Passing.{IsTree}

-- The tree stands in the arena, whatever else its batch has begun.
pub tree_stands : (arena now : ArenaState) (shape : Shape) (rows : ℕ) → HoldsTree arena shape rows → now.places ≡ arena.places → IsTree (tree_of arena.places shape) (map_of now.places) shape
tree_stands arena now shape rows holds same =
    subst (λ places. IsTree (tree_of arena.places shape) (map_of places) shape) (sym same)
    (record { reads-as = value_reads arena shape rows holds; whole = holds.whole; lawful = holds.lawful; lows = holds.lows })
