use Rattle.std.proofs.Common.{◌≡◌, List, ℕ, ◌++◌, ◌-◌, ◌∷◌, []}
use Rattle.palm_arena.specs.Reads.{map_of}
use Rattle.palm_tree.specs.Walk.{levels_text, ArePrintable}
use Rattle.palm_tree.proofs.dump.append_levels.Given as goal

-- what is written so far, with the levels that are left, is all of them
abbrev pub invariant-loop-level : goal.invariant-loop-level
invariant-loop-level l =
    let nodes = map_of l.arena.places in
    record {
      text : (w : List ℕ) × (l.out.items ≡ l.fn.out.items ++ w) × (w ++ levels_text nodes (l.fn.shape.levels - l._level) l.ids.items ≡ levels_text nodes l.fn.shape.levels (l.fn.shape.root ∷ []));
      printable : ArePrintable nodes (l.fn.shape.levels - l._level) l.ids.items;
      below : l.below.items ≡ [];
    }
