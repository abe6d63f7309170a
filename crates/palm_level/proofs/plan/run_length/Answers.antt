use Rattle.std.proofs.Common.{arith, ap, ◌∙◌, sym, subst, ◌≡◌, length, take, ℕ}
use Rattle.std.specs.List.{AllByRecursion}
use Rattle.palm_node.specs.declared.id.NodeId.{NodeId}
use Rattle.palm_level.specs.Runs.{parent_of}
use Rattle.palm_level.proofs.RunFronts.{first_run, apart_next, apart_end, differ}
use Rattle.palm_level.proofs.plan.run_length.Goals as goal

pub returns-then-ne-clause-run : goal.returns-then-ne-clause-run
returns-then-ne-clause-run c = first_run c.args.changes.now c.loop-i.i c.last_step_of.result.0 (omega arith) c.requires.some c.loop-i.invariant
    (apart_next c.args.changes.now c.loop-i.i c.last_step_of.result.0 c.index-changes-i.result c.loop-i-test.true c.index-changes-i.is (λ same. differ c.last_step_of-in-loop-i.result.0 c.last_step_of.result.0 (sym c.ne.ensures ∙ c.if-ne.true) (ap (λ (s : NodeId × ℕ). s.0) c.last_step_of-in-loop-i.ensures ∙ ap parent_of (sym c.index-changes-i.is) ∙ sym same)))

pub returns-clause-run : goal.returns-clause-run
returns-clause-run c =
    let n : c.loop-i.i ≡ length c.args.changes.now = omega (arith, c.loop-i.auto, c.loop-i-test.false, c.requires.some) in
    first_run c.args.changes.now (length c.args.changes.now) c.last_step_of.result.0 c.requires.some c.requires.some
    (subst (λ n. AllByRecursion (λ change. parent_of change ≡ c.last_step_of.result.0) (take n c.args.changes.now)) n c.loop-i.invariant) (apart_end c.args.changes.now (length c.args.changes.now) c.last_step_of.result.0 (omega arith))
