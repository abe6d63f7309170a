use Rattle.std.proofs.Common.{◌≡◌, List, [], length, drop, map, subst, sym, ap, ◌∙◌}
use Rattle.std.proofs.lemmas.Bool.{eqb-true}
use Rattle.std.proofs.lemmas.List.{nil_from_length}
use Rattle.palm_base.specs.History.{calls_of}
use Rattle.palm_base.specs.declared.call.Entry.{Entry}
use Rattle.palm_base.proofs.Builds.{batch_of_none}
use Rattle.palm_base.specs.Tree.{Tree, rows_of}
use Rattle.palm_base.specs.Pass.{passed_tree, batch_tree}
use Rattle.palm_arena.specs.Leaves.{leaves_at}
use Rattle.palm_arena.specs.Reads.{map_of}
use Rattle.palm_route.specs.Parts.{lows_of}
use Rattle.palm_batch.specs.Passing.{IsTree, edits_in, set_entry}
use Rattle.palm_batch.specs.Replies.{AreAnswers}
use Rattle.palm_batch.proofs.AnsweredBatches.{leaves_answer_batch}
use Rattle.palm_batch.proofs.SecondPasses.{tree_run, first_cost, both_cost}
use Rattle.palm_batch.proofs.passes.run_passes.Goals as goal

pub join_answers-requires-clause-answers : goal.join_answers-requires-clause-answers
join_answers-requires-clause-answers g c =
    let nodes = map_of c.args.arena.now.places in
    let leaves = leaves_at nodes c.args.shape in
    let tree = c.requires.tree.0 in
    let is = c.requires.tree.1 in (
      leaves,
      drop 1 (lows_of leaves),
      rows_of tree,
      subst (AreAnswers leaves (drop 1 (lows_of leaves)) (rows_of tree) c.args.batch.now) (sym c.in_ok-shape.ensures.answers)
          (leaves_answer_batch nodes c.args.shape tree c.args.batch.now is c.in_ok-shape.ensures.prefixes),
    )

pub run_pass-requires-2-clause-tree : goal.run_pass-requires-2-clause-tree
run_pass-requires-2-clause-tree g c κs within = (passed_tree c.requires.tree.0 (edits_in c.args.batch.now), c.in_ok-shape.ensures.tree c.requires.tree.0 c.requires.tree.1)

pub returns-in_err-shape-clause-ticks : goal.returns-in_err-shape-clause-ticks
returns-in_err-shape-clause-ticks g c = λ tree is. first_cost tree c.args.batch.now (map_of c.args.arena.now.places) c.args.shape c.args.steps.now c.run_pass.new.steps is c.run_pass.ensures.ticks

pub returns-in_err-replies-clause-ticks : goal.returns-in_err-replies-clause-ticks
returns-in_err-replies-clause-ticks g c = λ tree is. first_cost tree c.args.batch.now (map_of c.args.arena.now.places) c.args.shape c.args.steps.now c.run_pass.new.steps is c.run_pass.ensures.ticks

pub returns-in_err-sets-clause-ticks : goal.returns-in_err-sets-clause-ticks
returns-in_err-sets-clause-ticks g c = λ tree is. first_cost tree c.args.batch.now (map_of c.args.arena.now.places) c.args.shape c.args.steps.now c.run_pass.new.steps is c.run_pass.ensures.ticks

pub returns-in_err-shape-2-clause-ticks : goal.returns-in_err-shape-2-clause-ticks
returns-in_err-shape-2-clause-ticks g c = λ tree is.
    both_cost tree c.args.batch.now c.deref.result.now c.in_ok-shape.field-0.orphans (map_of c.args.arena.now.places) (map_of c.run_pass.new.arena.places) c.args.shape c.in_ok-shape.field-0.shape
    c.args.steps.now c.run_pass.new.steps c.run_pass-2.new.steps is (c.in_ok-shape.ensures.orphans tree is) (c.deref.ensures.value ∙ c.in_ok-sets.ensures ∙ ap (map set_entry) c.as_slice.ensures) (c.in_ok-shape.ensures.tree tree is) c.run_pass.ensures.ticks c.run_pass-2.ensures.ticks

pub returns-clause-tree : goal.returns-clause-tree
returns-clause-tree g c = λ tree is.
    tree_run tree c.args.batch.now c.deref.result.now c.in_ok-shape.field-0.orphans (map_of c.run_pass-2.new.arena.places) c.in_ok-shape-2.field-0.shape
    (c.in_ok-shape.ensures.orphans tree is) (c.deref.ensures.value ∙ c.in_ok-sets.ensures ∙ ap (map set_entry) c.as_slice.ensures) (c.in_ok-shape-2.ensures.tree (passed_tree tree (edits_in c.args.batch.now)) (c.in_ok-shape.ensures.tree tree is))

pub returns-clause-replies : goal.returns-clause-replies
returns-clause-replies g c = λ tree is.
    let nodes = map_of c.args.arena.now.places in
    let leaves = leaves_at nodes c.args.shape in
    c.in_ok-replies.ensures.replies leaves (drop 1 (lows_of leaves)) (rows_of tree)
    (subst (AreAnswers leaves (drop 1 (lows_of leaves)) (rows_of tree) c.args.batch.now) (sym c.in_ok-shape.ensures.answers)
    (leaves_answer_batch nodes c.args.shape tree c.args.batch.now is c.in_ok-shape.ensures.prefixes))

pub returns-clause-ticks : goal.returns-clause-ticks
returns-clause-ticks g c = λ tree is.
    both_cost tree c.args.batch.now c.deref.result.now c.in_ok-shape.field-0.orphans (map_of c.args.arena.now.places) (map_of c.run_pass.new.arena.places) c.args.shape c.in_ok-shape.field-0.shape
    c.args.steps.now c.run_pass.new.steps c.run_pass-2.new.steps is (c.in_ok-shape.ensures.orphans tree is) (c.deref.ensures.value ∙ c.in_ok-sets.ensures ∙ ap (map set_entry) c.as_slice.ensures) (c.in_ok-shape.ensures.tree tree is) c.run_pass.ensures.ticks c.run_pass-2.ensures.ticks

pub returns-then-is_empty-clause-tree : goal.returns-then-is_empty-clause-tree
returns-then-is_empty-clause-tree g c = λ tree is.
    let batch = c.args.batch.now in
    let none : batch ≡ [] = nil_from_length batch (eqb-true (length batch) 0 (sym c.is_empty.ensures ∙ c.if-is_empty.true)) in
    subst (λ (t : Tree). IsTree t (map_of c.args.arena.now.places) c.args.shape) (sym (ap (λ (b : List Entry). batch_tree tree (calls_of b)) none ∙ batch_of_none tree is.lawful)) is
