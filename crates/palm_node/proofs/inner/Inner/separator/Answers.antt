use Rattle.std.proofs.Common.{ℕ, ◌-◌, ◌<◌, length, take, Some, ap, sym, ◌∙◌, arith}
use Rattle.std.specs.Prelude.{slice_get}
use Rattle.std.proofs.lemmas.List.{get_or-take, length-take}
use Rattle.std.proofs.lemmas.Option.{slice_get-get_or}
use Rattle.palm_node.specs.InnerNode.{InnerNode}
use Rattle.palm_node.proofs.inner.Inner.separator.Goals as goal

pub returns : goal.returns
returns c =
    let held = c.self.invariant in
    let i = c.args.i in
    let words = c.self.inside.separators in
    let count : ℕ = length c.self.inside.children.items - 1 in
    let some : i < count = omega (arith, ap (λ (node : InnerNode). length node.children) c.self.view_is) in
    ap (λ (node : InnerNode). slice_get node.separators i) (sym c.self.view_is)
    ∙ slice_get-get_or (take count words) i 0 (omega (arith, length-take count words, held.room, held.few))
    ∙ ap Some (get_or-take count words i 0 some)
