use Rattle.std.proofs.Common.{arith}
use Rattle.palm_node.proofs.RisingRows.{table_of_rising}
use Rattle.palm_look.proofs.tests.assert_rise.Goals as goal

pub returns : goal.returns
returns g c = table_of_rising c.args.rows.now (λ k d inside. c.loop-i.invariant k d (omega arith))
