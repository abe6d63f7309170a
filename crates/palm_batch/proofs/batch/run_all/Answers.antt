use Rattle.std.proofs.Common.{◌≡◌, ◌+◌, ◌≤◌, length, unwrap_or, sym, ap, ◌∙◌, subst, arith}
use Rattle.std.specs.List.{Contains}
use Rattle.palm_base.specs.History.{calls_of, replies_to}
use Rattle.palm_base.specs.Lawful.{IsLawful}
use Rattle.palm_base.specs.Pass.{batch_tree}
use Rattle.palm_base.specs.Tree.{rows_of}
use Rattle.palm_node.specs.declared.id.NodeId.{NodeId}
use Rattle.palm_arena.specs.ArenaState.{ArenaState, NoneLent, IsHeld, node_at}
use Rattle.palm_arena.specs.Reads.{map_of}
use Rattle.palm_tree.specs.TreeValue.{TreeState, tree_of, tree_in}
use Rattle.palm_tree.proofs.Values.{tree_reads}
use Rattle.palm_batch.specs.Costs.{cost_on}
use Rattle.palm_batch.specs.Passing.{IsTree}
use Rattle.palm_batch.proofs.OpenTrees.{tree_stands}
use Rattle.palm_batch.proofs.ClosedTrees.{rows_fit, rows_stand, rows_close, rows_left, law_left, tree_closes, tree_stays, others_stay}
use Rattle.palm_batch.proofs.batch.run_all.Goals as goal

pub run_passes-ran-requires-clause-tree : goal.run_passes-ran-requires-clause-tree
run_passes-ran-requires-clause-tree g c κs within =
    let own = c.tree.inside in
    (tree_of own.arena.places own.shape, tree_stands own.arena c.begin.new.self own.shape own.rows c.tree.invariant (ap (λ (a : ArenaState). a.places) c.begin.ensures))

pub rows_after-tree-inside-requires-clause-fits : goal.rows_after-tree-inside-requires-clause-fits
rows_after-tree-inside-requires-clause-fits g c =
    let own = c.tree.inside in
    let tree = tree_of own.arena.places own.shape in
    let is = tree_stands own.arena c.begin.new.self own.shape own.rows c.tree.invariant (ap (λ (a : ArenaState). a.places) c.begin.ensures) in
    rows_fit tree c.args.batch.now c.deref.result.now own.rows is.lawful is.lows (c.deref.ensures.value ∙ c.in-Ok.ensures.replies tree is) c.tree.invariant.count c.requires.few_calls

pub rows_after-tree-inside-requires-clause-gone : goal.rows_after-tree-inside-requires-clause-gone
rows_after-tree-inside-requires-clause-gone g c =
    let own = c.tree.inside in
    let tree = tree_of own.arena.places own.shape in
    let is = tree_stands own.arena c.begin.new.self own.shape own.rows c.tree.invariant (ap (λ (a : ArenaState). a.places) c.begin.ensures) in
    rows_stand tree c.args.batch.now c.deref.result.now own.rows is.lawful (c.deref.ensures.value ∙ c.in-Ok.ensures.replies tree is) c.tree.invariant.count

pub invariant_of-tree : goal.invariant_of-tree
invariant_of-tree g c =
    let own = c.tree.inside in
    let tree = tree_of own.arena.places own.shape in
    let is = tree_stands own.arena c.begin.new.self own.shape own.rows c.tree.invariant (ap (λ (a : ArenaState). a.places) c.begin.ensures) in
    let same = ap (λ (a : ArenaState). a.places) c.commit.ensures.committed in
    let after = batch_tree tree (calls_of c.args.batch.now) in
    tree_closes c.commit.new.self c.in-Ok.field-0.shape c.rows_after-tree-inside.result after (ap (λ (a : ArenaState). a.begun) c.commit.ensures.committed)
    (subst NoneLent (sym same) c.run_passes-ran.ensures.none_lent) (subst (λ places. IsTree after (map_of places) c.in-Ok.field-0.shape) (sym same) (c.in-Ok.ensures.tree tree is))
    (rows_close tree c.args.batch.now c.deref.result.now own.rows c.rows_after-tree-inside.result is.lawful (c.deref.ensures.value ∙ c.in-Ok.ensures.replies tree is) c.tree.invariant.count c.rows_after-tree-inside.ensures)

pub invariant_of-tree-in-Err : goal.invariant_of-tree-in-Err
invariant_of-tree-in-Err g c =
    let own = c.tree.inside in
    let back = ap (λ (a : ArenaState). a.places) c.rollback.ensures
    ∙ ap (λ begun. unwrap_or begun c.run_passes-ran.new.arena.places) (c.run_passes-ran.ensures.begun ∙ ap (λ (a : ArenaState). a.begun) c.begin.ensures) in
    tree_stays own.arena c.rollback.new.self own.shape own.rows c.tree.invariant back (ap (λ (a : ArenaState). a.begun) c.rollback.ensures)

pub returns-in-Ok-clause-tree : goal.returns-in-Ok-clause-tree
returns-in-Ok-clause-tree g c =
    let own = c.tree.inside in
    let tree = tree_of own.arena.places own.shape in
    let is = tree_stands own.arena c.begin.new.self own.shape own.rows c.tree.invariant (ap (λ (a : ArenaState). a.places) c.begin.ensures) in
    ap (λ (a : ArenaState). tree_of a.places c.in-Ok.field-0.shape) c.commit.ensures.committed
    ∙ tree_reads c.run_passes-ran.new.arena.places c.in-Ok.field-0.shape (batch_tree tree (calls_of c.args.batch.now)) (c.in-Ok.ensures.tree tree is).reads-as
    ∙ ap (λ (s : TreeState). batch_tree (tree_in s) (calls_of c.args.batch.now)) c.tree.view_is

pub returns-in-Ok-clause-replies : goal.returns-in-Ok-clause-replies
returns-in-Ok-clause-replies g c =
    let own = c.tree.inside in
    let tree = tree_of own.arena.places own.shape in
    let is = tree_stands own.arena c.begin.new.self own.shape own.rows c.tree.invariant (ap (λ (a : ArenaState). a.places) c.begin.ensures) in
    subst (λ (s : TreeState). c.in-Ok.field-0.replies.items ≡ replies_to (rows_of (tree_in s)) c.args.batch.now) c.tree.view_is (c.in-Ok.ensures.replies tree is)

pub returns-in-Ok-clause-rows : goal.returns-in-Ok-clause-rows
returns-in-Ok-clause-rows g c =
    let lawful = subst (λ (s : TreeState). IsLawful (tree_in s)) c.tree.view_is c.tree.invariant.lawful in
    rows_left (tree_in c.args.tree.now) (tree_of c.commit.new.self.places c.in-Ok.field-0.shape) c.args.batch.now lawful (returns-in-Ok-clause-tree g c)

pub returns-in-Ok-clause-lawful : goal.returns-in-Ok-clause-lawful
returns-in-Ok-clause-lawful g c =
    let lawful = subst (λ (s : TreeState). IsLawful (tree_in s)) c.tree.view_is c.tree.invariant.lawful in
    law_left (tree_in c.args.tree.now) (tree_of c.commit.new.self.places c.in-Ok.field-0.shape) c.args.batch.now lawful (returns-in-Ok-clause-tree g c)

pub returns-in-Err-clause-lawful : goal.returns-in-Err-clause-lawful
returns-in-Err-clause-lawful g c = (invariant_of-tree-in-Err g c).lawful

pub returns-in-Ok-clause-ticks : goal.returns-in-Ok-clause-ticks
returns-in-Ok-clause-ticks g c =
    let own = c.tree.inside in
    let tree = tree_of own.arena.places own.shape in
    let same = ap (λ (a : ArenaState). a.places) c.begin.ensures in
    let is = tree_stands own.arena c.begin.new.self own.shape own.rows c.tree.invariant same in
    subst (λ (s : TreeState). c.run_passes-ran.new.steps ≤ c.args.steps.now + cost_on (tree_in s) c.args.batch.now) c.tree.view_is (c.run_passes-ran.ensures.ticks tree is)

pub returns-in-Ok-clause-moved : goal.returns-in-Ok-clause-moved
returns-in-Ok-clause-moved g c =
    let own = c.tree.inside in
    let tree = tree_of own.arena.places own.shape in
    let same = ap (λ (a : ArenaState). a.places) c.begin.ensures in
    let is = tree_stands own.arena c.begin.new.self own.shape own.rows c.tree.invariant same in
    let cost = c.run_passes-ran.ensures.ticks tree is in
    let none = ap (λ (a : ArenaState). length a.moved) c.begin.ensures in
    let told = ap (λ (a : ArenaState). length a.moved) c.commit.ensures.committed in
    let few = c.run_passes-ran.ensures.moved in
    subst (λ (s : TreeState). length c.commit.new.self.moved ≤ cost_on (tree_in s) c.args.batch.now) c.tree.view_is (omega (arith, cost, none, told, few))

pub returns-in-Ok-clause-others : goal.returns-in-Ok-clause-others
returns-in-Ok-clause-others g c =
    let own = c.tree.inside in
    let run = c.run_passes-ran.new.arena in
    let begun = c.run_passes-ran.ensures.begun ∙ ap (λ (a : ArenaState). a.begun) c.begin.ensures in
    let stay = others_stay run.begun own.arena.places run.places run.moved begun c.commit.ensures.still in
    let committed = subst (λ (a : ArenaState). (id : NodeId) → IsHeld a.places id → ¬ Contains a.moved id → node_at own.arena.places id ≡ node_at a.places id) (sym c.commit.ensures.committed) stay in
    subst (λ (s : TreeState). (id : NodeId) → IsHeld c.commit.new.self.places id → ¬ Contains c.commit.new.self.moved id → node_at s.places id ≡ node_at c.commit.new.self.places id) c.tree.view_is committed

pub returns-in-Err-clause-ticks : goal.returns-in-Err-clause-ticks
returns-in-Err-clause-ticks g c =
    let own = c.tree.inside in
    let tree = tree_of own.arena.places own.shape in
    let same = ap (λ (a : ArenaState). a.places) c.begin.ensures in
    let is = tree_stands own.arena c.begin.new.self own.shape own.rows c.tree.invariant same in
    subst (λ (s : TreeState). c.run_passes-ran.new.steps ≤ c.args.steps.now + cost_on (tree_in s) c.args.batch.now) c.tree.view_is (c.run_passes-ran.ensures.ticks tree is)
