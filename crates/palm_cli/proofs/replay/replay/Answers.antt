use Rattle.std.proofs.Common.{Err, ap, ◌∙◌}
use Rattle.palm_base.proofs.EmptyTree.{empty_is_lawful}
use Rattle.palm_tree.specs.TreeValue.{tree_in}
use Rattle.palm_cli.specs.Statuses.{is_done}
use Rattle.palm_cli.proofs.ScriptEnds.{finished_by, script_ends, script_stops}
use Rattle.palm_cli.proofs.replay.replay.Goals as goal

pub returns-in_default-clause-lawful : goal.returns-in_default-clause-lawful
returns-in_default-clause-lawful g c = empty_is_lawful (tree_in c.args.engine.now.tree) c.requires.new

pub returns-in-Err-clause-end : goal.returns-in-Err-clause-end
returns-in-Err-clause-end g c =
    let read = c.in-Ok.read in
    let said = c.in-Ok.ensures.ok in
    let after = tree_in c.run_script.new.engine.tree in
    let finished = c.is_done-finished.ensures ∙ ap is_done said.ends ∙ finished_by read.script.fault said.end in
    let ran = c.in-Err.ensures in
    rw c.from.ensures (
    script_stops c.args.settings.now c.in-Err.stop _ said.bytes said.end read.script c.is_done-finished.result after
    said.input said.size said.says finished ran.front (λ is. ran.cause (ap Err is)) (λ is. ran.unfailed (ap Err is))
    )

pub returns-clause-end : goal.returns-clause-end
returns-clause-end g c =
    let read = c.in-Ok.read in
    let said = c.in-Ok.ensures.ok in
    let after = tree_in c.run_script.new.engine.tree in
    let finished = c.is_done-finished.ensures ∙ ap is_done said.ends ∙ finished_by read.script.fault said.end in
    let ran = c.in_default-run_script.ensures in
    rw said.ends (
    script_ends c.faults_stand.ensures c.args.settings.now _ said.bytes said.end read.script c.is_done-finished.result after
    said.input said.size said.says finished ran.text ran.tree ran.kept ran.ticks
    )
