use Rattle.std.proofs.Common.{◌<◌, length, sym, ◌∙◌, arith, inl, inr}
use Rattle.std.proofs.lemmas.List.{take_rest, nil_from_length}
use Rattle.std.proofs.lemmas.Bool.{eqb-true}
use Rattle.palm_script.proofs.Lines.{line_at, line_last, no_line}
use Rattle.palm_script.proofs.script.next_line.Goals as goal
use Rattle.palm_script.proofs.script.next_line.Goals.{then-whole+else-not-is_empty, else-whole}

pub returns-in-Some-clause-next : goal.returns-in-Some-clause-next
returns-in-Some-clause-next c =
    rw (c.without_return.ensures, take_rest) (line_at c.args.whole c.args.text.now c.in-Some.i (sym c.in-Some.ensures.place))

pub returns-in-None-clause-next : goal.returns-in-None-clause-next
returns-in-None-clause-next c =
    let text = c.args.text.now in
    let some : 0 < length text = grind (arith, c.is_empty.ensures, c.if-not-is_empty.true) in
    rw (c.if-whole.true, c.without_return-in-None.ensures) (line_last text c.in-None.ensures.none some)

pub returns-in-None-2-clause-next : goal.returns-in-None-2-clause-next
returns-in-None-2-clause-next c =
    elim c.if-whole.branch [ then-whole+else-not-is_empty w ↦ no_line _ _ c.in-None-2.ensures.none (inr (nil_from_length _ (eqb-true _ _ (sym w.is_empty.ensures ∙ w.if-not-is_empty.false)))) | else-whole w ↦ no_line _ _ c.in-None-2.ensures.none (inl w.if-whole.false) ]
