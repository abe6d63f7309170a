use Rattle.std.proofs.Common.{◌≡◌, ◌∙◌, sym, ap, false, length, map, Some}
use Rattle.palm_leaf.specs.Answers.{rows_in_node}
use Rattle.palm_leaf.specs.Asked.{has_edit, part_of}
use Rattle.palm_leaf.specs.Worked.{parts_of_plan}
use Rattle.palm_leaf.proofs.Working.{worked_removed, worked_itself, worked_fitting}
use Rattle.palm_leaf.proofs.leaf_work.LeafWorkJob.run.Goals as goal

pub returns-else-stays : goal.returns-else-stays
returns-else-stays c rows leaf =
    worked_removed rows c.node.result.now c.args.self.now c.resolve_parts.new.plan c.resolve_parts.ensures.resolved c.node.ensures leaf c.requires.plan.not_kept (c.args.self.now.plan.later.ok.0 ∙ ap length c.requires.plan.no_later) (c.stays.ensures.removed c.if-stays.false)

pub returns-else-edited : goal.returns-else-edited
returns-else-edited c rows leaf =
    let looks : has_edit (parts_of_plan c.args.self.now.plan) ≡ false = ap (λ asked. has_edit (map part_of asked)) (sym c.deref.ensures.value) ∙ sym c.has_edit-edited.ensures ∙ c.if-edited.false in
    worked_itself rows c.node.result.now c.args.self.now c.resolve_parts.new.plan c.resolve_parts.ensures.resolved c.node.ensures leaf c.requires.plan.no_later
    (c.args.self.now.plan.later.ok.0 ∙ ap length c.requires.plan.no_later) looks c.resolve_parts.ensures.few (c.stays.ensures.stays c.if-stays.true)

pub returns-then-self : goal.returns-then-self
returns-then-self c rows leaf =
    let plan = c.requires.plan in
    let held : rows_in_node (Some c.args.self.now.lease.node) ≡ rows = ap (λ n. rows_in_node (Some n)) leaf in
    let fits = rw held at (plan.fits c.if-self.true) in
    let worked = rw held at c.write_parts.ensures in
    worked_fitting rows c.args.self.now (record { lease = c.write_parts.new.lease; plan = c.write_parts.new.plan }) leaf worked.id worked.plan worked.leaf worked.answers plan.no_later
    (c.args.self.now.plan.later.ok.0 ∙ ap length plan.no_later) fits.1 fits.2 worked.no_fewer worked.few
