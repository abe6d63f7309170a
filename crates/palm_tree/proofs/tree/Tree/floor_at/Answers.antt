use Rattle.std.proofs.Common.{Some, sym, ap, ◌∙◌}
use Rattle.palm_arena.specs.Reads.{map_of}
use Rattle.palm_tree.specs.TreeValue.{TreeState}
use Rattle.palm_tree.proofs.LeafFloors.{last_of_all}
use Rattle.palm_tree.proofs.tree.Tree.floor_at.Goals as goal

pub returns-in-Some : goal.returns-in-Some
returns-in-Some c =
    let read = ap (λ (s : TreeState). map_of s.places c.args.spot.id) (sym c.self.view_is) ∙ c.read.ensures.node ∙ ap Some c.in-Leaf.is in
    last_of_all _ _ _ _ _ _ c.in-Some.row c.requires read c.in-Some.ensures.found
