use Rattle.std.proofs.Common.{◌≡◌, ℕ, ◌-◌, ◌≤◌, length, take, min, ap, subst, ◌∙◌, arith}
use Rattle.std.specs.List.{AllByRecursion}
use Rattle.std.proofs.lemmas.List.{take_all}
use Rattle.palm_base.specs.History.{replies_to, table_after}
use Rattle.palm_base.specs.Tree.{rows_of}
use Rattle.palm_base.specs.declared.call.Entry.{Entry}
use Rattle.palm_tree.specs.TreeValue.{tree_in}
use Rattle.palm_bench.specs.Kinds.{IsOfKind}
use Rattle.palm_bench.specs.Runs.{with_replies}
use Rattle.palm_bench.specs.declared.feed.Kind.{Kind}
use Rattle.palm_bench.proofs.Running.{batch_run}
use Rattle.palm_bench.proofs.run.run_calls.Goals as goal

pub loop-left-preserved : goal.loop-left-preserved
loop-left-preserved g c =
    let before = rows_of (tree_in c.args.engine.now.tree) in
    let now = rows_of (tree_in c.loop-left.engine.tree) in
    let next = rows_of (tree_in c.run_list.new.self.tree) in
    let most : ℕ = c.args.plan.batch in
    let left : ℕ = c.loop-left.left in
    let count : ℕ = c.min-count.result in
    let roll = c.deref.result.now in
    let batch = c.fill.new.batch.items in
    let fits : count ≡ min left most = c.min-count.ensures ∙ ap (min left) c.from.ensures in
    let same : roll ≡ batch = c.deref.ensures.value in
    let few : length roll ≤ most = omega (arith, ap length same, c.in_ok-fill.ensures.many, fits) in
    let all : take most roll ≡ batch = take_all most roll few ∙ same in
    let kinds : AllByRecursion (λ (entry : Entry). IsOfKind c.args.kind entry.call) batch =
    subst (λ (k : Kind). AllByRecursion (λ (entry : Entry). IsOfKind k entry.call) batch) c.loop-left.invariant.kind c.in_ok-fill.ensures.kinds in
    let told : c.deref-in-loop-left.result.now ≡ replies_to now batch = c.deref-in-loop-left.ensures.value ∙ c.in_ok-replies.ensures.replies ∙ ap (replies_to now) all in
    record {
      ran = batch_run c.args.kind (c.args.plan.count - left) count (c.args.plan.count - (left - count)) before now next c.args.sum c.loop-left.sum c.add_all-sum.result batch
          c.loop-left.invariant.ran (omega (arith, fits, c.loop-left.invariant.few)) c.in_ok-fill.ensures.many kinds
          (c.in_ok-replies.ensures.rows ∙ ap (table_after now) all) (c.add_all-sum.ensures ∙ ap (with_replies c.loop-left.sum) told);
      few = omega (arith, c.loop-left.invariant.few);
      kind = c.fill.ensures.kind ∙ c.loop-left.invariant.kind;
      lawful = c.run_list.ensures.lawful;
    }
