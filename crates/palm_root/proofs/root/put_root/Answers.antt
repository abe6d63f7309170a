use Rattle.std.proofs.Common.{◌++◌, sym, ◌∙◌}
use Rattle.std.specs.List.{flat_map}
use Rattle.palm_base.specs.Pass.{passed_tree}
use Rattle.palm_arena.specs.Reads.{map_of}
use Rattle.palm_arena.specs.Placed.{value_of}
use Rattle.palm_arena.specs.Standing.{kept_cells}
use Rattle.palm_arena.specs.Passes.{untouched_in}
use Rattle.palm_root.proofs.RootLeft.{left_level, left_stands, left_nothing_stands, no_pieces}
use Rattle.palm_root.proofs.root.put_root.Goals as goal

pub returns-then-is_empty-clause-repaired : goal.returns-then-is_empty-clause-repaired
returns-then-is_empty-clause-repaired g c p changes left has =
    left_nothing_stands p (map_of c.args.arena.now.places) (map_of c.take_leaf.new.arena.places) changes c.args.below c.args.level c.in_ok-shape.shape left (no_pieces c.args.level (sym c.is_empty.ensures ∙ c.if-is_empty.true)) c.in_ok-shape.ensures.taken.0 c.in_ok-shape.ensures.taken.1 has

pub raise-requires-clause-level : goal.raise-requires-clause-level
raise-requires-clause-level g c =
    let p = c.requires.left.0 in
    let left = c.requires.left.2 in
    (passed_tree (value_of p.tree) p.edits, flat_map kept_cells left.kept ++ p.rest, left_level p (map_of c.args.arena.now.places) c.requires.left.1 c.args.below c.args.level left)

pub returns-clause-repaired : goal.returns-clause-repaired
returns-clause-repaired g c p changes left has =
    left_stands p (map_of c.args.arena.now.places) (map_of c.raise.new.arena.places) changes c.args.below c.args.level c.in_ok-shape-2.shape left
    (c.in_ok-shape-2.ensures.raised (passed_tree (value_of p.tree) p.edits) (flat_map kept_cells left.kept ++ p.rest) (left_level p (map_of c.args.arena.now.places) changes c.args.below c.args.level left))
    (c.in_ok-shape-2.ensures.others (untouched_in p) has)
