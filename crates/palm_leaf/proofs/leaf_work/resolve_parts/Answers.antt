use Rattle.std.proofs.Common.{◌≡◌, ◌≤◌, ◌+◌, ◌++◌, ◌∙◌, length, vec_len, arith, ap, Some}
use Rattle.palm_leaf.specs.Answers.{rows_in_node}
use Rattle.palm_leaf.specs.Asked.{set_count}
use Rattle.palm_leaf.specs.Worked.{parts_of_plan}
use Rattle.palm_leaf.proofs.Opened.{all_open_fewer}
use Rattle.palm_leaf.proofs.leaf_work.resolve_parts.Goals as goal

pub resolve-requires-clause-open : goal.resolve-requires-clause-open
resolve-requires-clause-open c =
    let listed : c.append_rows_reserved.new.rows.items ≡ c.in-Leaf.leaf = c.append_rows_reserved.ensures.rows ∙ ap (λ rows. rows ++ c.in-Leaf.leaf) c.requires.plan.no_rows in
    let few : vec_len c.append_rows_reserved.new.rows + set_count (parts_of_plan c.args.plan.now) ≤ length (rows_in_node (Some c.args.node.now)) + set_count (parts_of_plan c.args.plan.now) =
    omega (arith, ap (λ n. length (rows_in_node (Some n))) c.in-Leaf.is, ap length listed, c.append_rows_reserved.new.rows.ok) in
    rw c.deref_mut.ensures.value (all_open_fewer _ _ c.args.plan.now.asked.items few c.requires.plan.waits)
