use Rattle.std.proofs.Common.{◌++◌, ◌-◌, List, ap, ◌∙◌}
use Rattle.palm_base.specs.Tree.{rows_of}
use Rattle.palm_base.specs.declared.row.Row.{Row}
use Rattle.palm_tree.specs.Below.{rows_below}
use Rattle.palm_tree.specs.TreeValue.{TreeState, tree_in}
use Rattle.palm_tree.proofs.Children.{root_below, rows_below_root}
use Rattle.palm_tree.proofs.tree.Tree.all_rows.Goals as goal

pub append_below-requires : goal.append_below-requires
append_below-requires c = record { node = root_below c.self.inside.arena c.self.inside.shape c.self.inside.rows c.self.invariant }

pub returns : goal.returns
returns c =
    let inside = c.self.inside in
    let below = rows_below inside.arena.places (inside.shape.levels - 1) inside.shape.root in
    let all = rows_below_root inside.arena.places inside.shape ∙ ap (λ (s : TreeState). rows_of (tree_in s)) c.self.view_is in
    c.from_vec.ensures ∙ c.in_ok-append_below.ensures.ok ∙ ap (λ (l : List Row). l ++ below) c.in_ok-rows.ensures.items ∙ all
