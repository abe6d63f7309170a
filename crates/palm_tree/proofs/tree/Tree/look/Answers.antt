use Rattle.std.proofs.Common.{ℕ, ap, subst, sym, arith}
use Rattle.palm_base.specs.Key.{key}
use Rattle.palm_base.specs.Tree.{rows_of}
use Rattle.palm_tree.specs.Floors.{IsFloor}
use Rattle.palm_tree.specs.TreeValue.{tree_in}
use Rattle.palm_tree.proofs.FrontJumps.{front_keys_rise}
use Rattle.palm_tree.proofs.tree.Tree.look.Goals as goal

pub returns-in-To-clause-less : goal.returns-in-To-clause-less
returns-in-To-clause-less c =
    let goes = rw c.in-Rate.is at c.requires.key in
    let front = goes.front in
    let floor = subst (λ (k : ℕ). IsFloor (rows_of (tree_in c.args.self.now)) k c.floor_at.result) (sym goes.key) c.floor_at.ensures in
    let made = c.in-To.ensures _ _ front floor in
    let rise = front_keys_rise c.in-To.len goes.digits c.in-Rate.number front.prefix made.some made.less front.few in
    omega (arith, rise, ap key c.front.ensures, c.key.ensures.key, goes.key)
