use Rattle.std.proofs.Common.{◌+◌, ◌/◌, sym, ap, ◌∙◌, subst, arith}
use Rattle.std.specs.Slots.{slots_items}
use Rattle.palm_desk.specs.Leftovers.{FindsFirst}
use Rattle.palm_desk.proofs.FirstLefts.{word_is, skipped, compared}
use Rattle.palm_desk.proofs.rest.first_left.Goals.{then-got-caller, else-got-caller}
use Rattle.palm_desk.proofs.rest.first_left.Goals as goal

pub loop-caller-preserved : goal.loop-caller-preserved
loop-caller-preserved c =
    let a = c.args in let words = slots_items a.closed.now.words in let i = c.loop-caller.invariant in
    elim c.if-got-caller.branch [
      | then-got-caller w ↦
          subst (FindsFirst words a.window a.got.now a.made.now (c.loop-caller.caller + 1)) (sym (w.found-is ∙ w.earlier-found.ensures))
          (compared words a.window a.got.now a.made.now c.loop-caller.found c.loop-caller.caller _ (let lt = w.if-got-caller in omega arith) (sym (ap (λ n. n / 4) (word_is words _ _ w.word.ensures))) i)
      | else-got-caller w ↦
          subst (FindsFirst words a.window a.got.now a.made.now (c.loop-caller.caller + 1)) (sym w.found-is)
          (skipped words a.window a.got.now a.made.now c.loop-caller.found c.loop-caller.caller (let no = w.if-got-caller in omega arith) i)
    ]
