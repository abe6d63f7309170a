use Rattle.std.proofs.Common.{◌<◌, get_or, Some, ap, sym, ◌∙◌, arith}
use Rattle.palm_node.proofs.HeldSteps.{length_held, step_held}
use Rattle.palm_node.proofs.path.Path.get.Goals as goal

pub returns : goal.returns
returns c =
    let path = c.self.inside in
    let len = length_held path.nodes path.children path.len c.self.invariant c.self.view_is in
    let inside : c.args.i < path.len = omega (arith, len, c.requires) in
    step_held path.nodes path.children path.len c.args.i (record { place = 0 }) c.self.invariant c.self.view_is inside
    ∙ ap (λ child. Some (get_or path.nodes c.args.i (record { place = 0 }), child)) (sym c.from.ensures)
