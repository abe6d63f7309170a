use Rattle.std.proofs.Common.{sym, subst, arith}
use Rattle.palm_base.specs.Table.{IsTable}
use Rattle.palm_node.proofs.leaf.Leaf.set_pairs.Goals as goal

pub invariant_of-self : goal.invariant_of-self
invariant_of-self c = record {
  room = c.fill.ensures.width;
  few = omega (arith, c.requires.few, c.fill.ensures.len);
  prefixes = rw c.fill.ensures.len c.fill.ensures.prefixes;
  table = subst IsTable (sym c.fill.ensures.rows) c.requires.table;
}
