use Rattle.palm_base.proofs.EmptyTree.{empty_is_lawful}
use Rattle.palm_tree.specs.TreeValue.{tree_in}
use Rattle.palm_cli.proofs.Statuses.{memory_ends}
use Rattle.palm_cli.proofs.palm.run_words.Goals as goal

pub returns-in-Err-Usage-clause-lawful : goal.returns-in-Err-Usage-clause-lawful
returns-in-Err-Usage-clause-lawful g c = empty_is_lawful (tree_in c.args.engine.now.tree) c.requires.new

pub returns-in-Err-NoMemory-clause-end : goal.returns-in-Err-NoMemory-clause-end
returns-in-Err-NoMemory-clause-end g c = memory_ends _ (g.S.Source.left c.args.src.now) (g.O.Sink.taken c.args.out.now) _ _ _ _

pub returns-in-Err-NoMemory-clause-lawful : goal.returns-in-Err-NoMemory-clause-lawful
returns-in-Err-NoMemory-clause-lawful g c = empty_is_lawful (tree_in c.args.engine.now.tree) c.requires.new
