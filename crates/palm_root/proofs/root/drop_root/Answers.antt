use Rattle.palm_root.proofs.Sweeping.{gone_home}
use Rattle.palm_root.proofs.RootStill.{dropped_none, dropped_root}
use Rattle.palm_root.proofs.root.drop_root.Goals as goal

pub returns-then-shape-le1-clause-dropped : goal.returns-then-shape-le1-clause-dropped
returns-then-shape-le1-clause-dropped c = dropped_none c.args.arena.now c.args.shape c.if-shape-le1.true

pub drop_node-requires-clause-held : goal.drop_node-requires-clause-held
drop_node-requires-clause-held c = c.requires.held c.if-shape-le1.false

pub returns-clause-dropped : goal.returns-clause-dropped
returns-clause-dropped c = dropped_root c.args.arena.now c.drop_node.new.self c.args.shape c.if-shape-le1.false (c.requires.held c.if-shape-le1.false) c.in_ok-drop_node.ensures.ok

pub returns-clause-none_lent : goal.returns-clause-none_lent
returns-clause-none_lent c = gone_home c.args.arena.now c.drop_node.new.self c.args.shape.root c.in_ok-drop_node.ensures.ok c.requires.none_lent
