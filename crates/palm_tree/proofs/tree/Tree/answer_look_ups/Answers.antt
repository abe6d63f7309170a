use Rattle.std.proofs.Common.{◌≡◌, length, arith}
use Rattle.std.proofs.lemmas.Bool.Decides.{nat_tests}
use Rattle.palm_base.specs.Tree.{rows_of}
use Rattle.palm_tree.specs.TreeValue.{tree_in}
use Rattle.palm_tree.specs.declared.look_ups.TheConstants.{LANES}
use Rattle.palm_tree.proofs.LanesUnderWay.{none_left}
use Rattle.palm_tree.proofs.tree.Tree.answer_look_ups.Goals as goal

pub returns-then-is_empty : goal.returns-then-is_empty
returns-then-is_empty c =
    let none : length c.fill.new.lanes.items ≡ 0 = grind (arith, nat_tests, c.is_empty.ensures, c.if-is_empty.true) in
    none_left (rows_of (tree_in c.args.self.now)) c.args.entries.now c.fill.new.lanes.items c.fill.new.answers.items LANES
    c.in_ok-fill.ensures.under_way (omega arith) c.in_ok-fill.ensures.full none
