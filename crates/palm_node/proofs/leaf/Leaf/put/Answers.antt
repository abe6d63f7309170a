use Rattle.std.proofs.Common.{ap, sym, ◌∙◌, arith, length}
use Rattle.palm_node.proofs.HeldRows.{length_held, length-rows_of}
use Rattle.palm_node.proofs.leaf.Leaf.put.Goals as goal

pub put_row-requires-clause-room : goal.put_row-requires-clause-room
put_row-requires-clause-room c = omega (arith, c.requires, length_held _ _ c.self.invariant c.self.view_is)

pub returns-clause-no_fewer : goal.returns-clause-no_fewer
returns-clause-no_fewer c =
    omega (arith, c.put_row.ensures.no_fewer, length_held _ _ c.self.invariant c.self.view_is, length-rows_of c.put_row.new.keys c.put_row.new.rates.items (omega (arith, c.put_row.ensures.held.room, c.put_row.ensures.held.few)))

pub returns-clause-few : goal.returns-clause-few
returns-clause-few c =
    omega (arith, c.put_row.ensures.few, length_held _ _ c.self.invariant c.self.view_is, length-rows_of c.put_row.new.keys c.put_row.new.rates.items (omega (arith, c.put_row.ensures.held.room, c.put_row.ensures.held.few)))
