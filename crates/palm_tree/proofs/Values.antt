-- What an arena that holds a tree reads as.
use Rattle.std.proofs.Common.{◌≡◌, ℕ, ◌-◌, List, sym, ap, subst, arith}
use Rattle.palm_base.specs.Tree.{Tree}
use Rattle.palm_arena.specs.ArenaState.{ArenaState}
use Rattle.palm_arena.specs.Reads.{map_of, reads, ReadsAs}
use Rattle.palm_arena.specs.declared.place.Place.{Place}
use Rattle.palm_arena.specs.declared.shape.Shape.{Shape}
use Rattle.palm_tree.specs.TreeValue.{tree_over, tree_of, HoldsTree}

-- The tree that places read as is their value.
pub tree_reads : (places : List Place) (shape : Shape) (tree : Tree) → ReadsAs (map_of places) shape tree → tree_of places shape ≡ tree
tree_reads places shape tree r = at (shape.levels - 1) (omega (arith, r.0))
  where
    at : (n : ℕ) → n ≡ tree.0 → tree_over n (reads (map_of places) n shape.root) ≡ tree
    at n e = subst (λ (k : ℕ). tree_over k (reads (map_of places) k shape.root) ≡ tree) (sym e) (ap (tree_over tree.0) r.1)

-- And what holds a tree reads as its value.
pub value_reads : (arena : ArenaState) (shape : Shape) (rows : ℕ) → HoldsTree arena shape rows → ReadsAs (map_of arena.places) shape (tree_of arena.places shape)
value_reads arena shape rows holds =
    let whole = holds.whole.tree in
    subst (ReadsAs (map_of arena.places) shape) (sym (tree_reads arena.places shape whole.0 whole.1)) whole.1
