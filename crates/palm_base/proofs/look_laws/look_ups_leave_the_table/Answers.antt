use Rattle.palm_base.proofs.LoneEdits.{look_ups_leave_the_table, edits_are_answered_alone, replies_go_by_edits}
use Rattle.palm_base.proofs.look_laws.look_ups_leave_the_table.Goals as goal

pub returns-clause-table : goal.returns-clause-table
returns-clause-table c = look_ups_leave_the_table

pub returns-clause-edits : goal.returns-clause-edits
returns-clause-edits c = edits_are_answered_alone

pub returns-clause-place : goal.returns-clause-place
returns-clause-place c = replies_go_by_edits
