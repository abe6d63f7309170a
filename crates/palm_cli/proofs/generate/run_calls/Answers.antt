use Rattle.std.proofs.Common.{◌≡◌, ℕ, ◌+◌, ◌-◌, ◌≤◌, ◌<◌, min, cond, length, take, drop, ◌++◌, arith, refl, ap, ◌∙◌}
use Rattle.palm_base.specs.History.{replies_to}
use Rattle.palm_base.specs.Tree.{rows_of}
use Rattle.palm_gen.specs.Generator.{history_from}
use Rattle.palm_gen.specs.Summary.{is_hit, rate_in, hits_in, sum_in}
use Rattle.palm_tree.specs.TreeValue.{tree_in}
use Rattle.palm_cli.specs.Generated.{history_said}
use Rattle.palm_cli.proofs.Batches.{first_batch, cost_more, rows_more, tree_more}
use Rattle.palm_base.proofs.EmptyTree.{empty_is_lawful}
use Rattle.palm_cli.proofs.GeneratedCalls.{first_calls, other_calls, replies_more, counts_by}
use Rattle.palm_cli.proofs.generate.run_calls.Goals as goal

pub loop-at-init : goal.loop-at-init
loop-at-init g c =
    let settings = c.args.settings.now in
    let n : settings.calls - 0 ≡ settings.calls = omega arith in
    let whole : history_from (settings.calls - 0) settings.seed 0 ≡ history_said settings = ap (λ (m : ℕ). history_from m settings.seed 0) n in
    record {
      few = omega arith;
      tree = rw (whole, c.requires.new) refl;
      rows = rw (whole, c.requires.new) refl;
      lawful = empty_is_lawful (tree_in c.args.engine.now.tree) c.requires.new;
      ticks = rw (whole, c.requires.new) (omega arith);
      calls = rw (c.new-tally.ensures) refl;
      hits = rw (c.new-tally.ensures, whole, c.requires.new) (omega arith);
      sum = rw (c.new-tally.ensures, whole, c.requires.new) (omega arith);
    }

pub add-requires : goal.add-requires
add-requires g c =
    let k = c.min-count.result in
    let made : c.deref.result.now ≡ history_from k c.loop-at.state c.loop-at.at =
    c.deref.ensures.value ∙ c.in_ok-state.ensures.ok ∙ ap (λ l. l ++ history_from k c.loop-at.state c.loop-at.at) c.clear.ensures.items in
    let many : length c.deref-in-loop-at.result.now ≡ k =
    ap length c.deref-in-loop-at.ensures.value ∙ c.in_ok-replies.ensures.same ∙ ap length made ∙ c.histories_are_long.ensures k c.loop-at.state c.loop-at.at in
    record { fits = omega (arith, many, c.min-count.ensures, c.loop-at.invariant.calls, c.loop-at.invariant.few, c.requires.settings.few_calls) }

pub loop-at-preserved : goal.loop-at-preserved
loop-at-preserved g c =
    let settings = c.args.settings.now in
    let most = settings.batch in
    let n = settings.calls - c.loop-at.at in
    let k = c.min-count.result in
    let rest = history_from n c.loop-at.state c.loop-at.at in
    let batch = c.deref.result.now in
    let left = history_from (settings.calls - (c.loop-at.at + k)) c.in_ok-state.state (c.loop-at.at + k) in
    let now = tree_in c.loop-at.engine.tree in
    let next = tree_in c.answer_batch.new.engine.tree in
    let size : length rest ≡ n = c.histories_are_long.ensures n c.loop-at.state c.loop-at.at in
    let count : k ≡ min (length rest) most = omega (arith, c.min-count.ensures, c.from.ensures, size) in
    let few : k ≤ n = omega (arith, count, size) in
    let some : 0 < length rest = omega (arith, size, c.loop-at-test.true) in
    let made : batch ≡ history_from k c.loop-at.state c.loop-at.at =
    c.deref.ensures.value ∙ c.in_ok-state.ensures.ok ∙ ap (λ l. l ++ history_from k c.loop-at.state c.loop-at.at) c.clear.ensures.items in
    let many : length c.deref-in-loop-at.result.now ≡ k =
    ap length c.deref-in-loop-at.ensures.value ∙ c.in_ok-replies.ensures.same ∙ ap length made ∙ c.histories_are_long.ensures k c.loop-at.state c.loop-at.at in
    let front : batch ≡ take k rest = made ∙ first_calls c.histories_join.ensures c.histories_are_long.ensures n k c.loop-at.state c.loop-at.at few in
    let fewer : settings.calls - (c.loop-at.at + k) ≡ n - k = omega arith in
    let back : left ≡ drop k rest =
    ap (λ (m : ℕ). history_from m c.in_ok-state.state (c.loop-at.at + k)) fewer
    ∙ ap (λ (s : ℕ). history_from (n - k) s (c.loop-at.at + k)) c.in_ok-state.ensures.state
    ∙ other_calls c.histories_join.ensures c.histories_are_long.ensures n k c.loop-at.state c.loop-at.at few in
    let first = first_batch c.requires.settings.some_batch some count front back in
    let replies : c.deref-in-loop-at.result.now ≡ replies_to (rows_of now) batch = c.deref-in-loop-at.ensures.value ∙ c.in_ok-replies.ensures.replies in
    let hits : hits_in (replies_to (rows_of now) rest) ≡ hits_in (replies_to (rows_of now) batch) + hits_in (replies_to (rows_of next) left) =
    replies_more (λ reply. cond (is_hit reply) 1 0) (rows_of now) first c.in_ok-replies.ensures.rows in
    let sums : sum_in (replies_to (rows_of now) rest) ≡ sum_in (replies_to (rows_of now) batch) + sum_in (replies_to (rows_of next) left) =
    replies_more rate_in (rows_of now) first c.in_ok-replies.ensures.rows in
    let hit : hits_in c.deref-in-loop-at.result.now ≡ hits_in (replies_to (rows_of now) batch) = ap hits_in replies in
    let summed : sum_in c.deref-in-loop-at.result.now ≡ sum_in (replies_to (rows_of now) batch) = ap sum_in replies in
    record {
      few = omega (arith, few, c.loop-at.invariant.few);
      tree = tree_more now first c.in_ok-replies.ensures.tree c.loop-at.invariant.tree;
      rows = rows_more (rows_of now) first c.in_ok-replies.ensures.rows c.loop-at.invariant.rows;
      lawful = c.answer_batch.ensures.lawful;
      ticks = omega (arith, cost_more now first c.in_ok-replies.ensures.tree, c.answer_batch.ensures.ticks, c.loop-at.invariant.ticks);
      calls = omega (arith, c.add.ensures.calls, many, c.loop-at.invariant.calls);
      hits = omega (arith, c.add.ensures.hits, hit, hits, c.loop-at.invariant.hits);
      sum = omega (arith, c.add.ensures.sum, summed, sums, c.loop-at.invariant.sum);
    }

pub returns-clause-tally : goal.returns-clause-tally
returns-clause-tally g c =
    let settings = c.args.settings.now in
    let rows = rows_of (tree_in c.loop-at.engine.tree) in
    let none : settings.calls - c.loop-at.at ≡ 0 = omega (arith, c.loop-at-test.false) in
    let hits : hits_in (replies_to rows (history_from (settings.calls - c.loop-at.at) c.loop-at.state c.loop-at.at)) ≡ 0 =
    ap (λ (m : ℕ). hits_in (replies_to rows (history_from m c.loop-at.state c.loop-at.at))) none in
    let sums : sum_in (replies_to rows (history_from (settings.calls - c.loop-at.at) c.loop-at.state c.loop-at.at)) ≡ 0 =
    ap (λ (m : ℕ). sum_in (replies_to rows (history_from m c.loop-at.state c.loop-at.at))) none in
    let calls : c.loop-at.tally.calls ≡ length (history_said settings) =
    omega (arith, c.loop-at.invariant.calls, c.loop-at.invariant.few, c.loop-at-test.false, c.histories_are_long.ensures settings.calls settings.seed 0) in
    counts_by c.loop-at.tally _ _ _ calls (omega (arith, hits, c.loop-at.invariant.hits)) (omega (arith, sums, c.loop-at.invariant.sum))
