use Rattle.std.proofs.Common.{◌≡◌, ◌-◌, ◌∙◌, cond, sym, ap, length, Some, eq-eqb}
use Rattle.std.specs.Prelude.{slice_get}
use Rattle.std.proofs.lemmas.Bool.{ne_eqb}
use Rattle.palm_leaf.proofs.ParentLows.{last_step}
use Rattle.palm_leaf.proofs.room.parent_low.Goals as goal

pub returns-then-child-eq0 : goal.returns-then-child-eq0
returns-then-child-eq0 c =
    let path = c.args.path.now in
    let last : slice_get path (length path - 1) ≡ Some c.get-child.result = ap (λ n. slice_get path (n - 1)) (sym c.len-steps.ensures.len) ∙ c.get-child.ensures in
    sym (last_step path c.args.low c.get-child.result last ∙ ap (λ b. cond b 0 c.args.low) (eq-eqb c.get-child.result.1 0 c.if-child-eq0.true))

pub returns-else-child-eq0 : goal.returns-else-child-eq0
returns-else-child-eq0 c =
    let path = c.args.path.now in
    let last : slice_get path (length path - 1) ≡ Some c.get-child.result = ap (λ n. slice_get path (n - 1)) (sym c.len-steps.ensures.len) ∙ c.get-child.ensures in
    sym (last_step path c.args.low c.get-child.result last ∙ ap (λ b. cond b 0 c.args.low) (ne_eqb c.get-child.result.1 0 c.if-child-eq0.false))
