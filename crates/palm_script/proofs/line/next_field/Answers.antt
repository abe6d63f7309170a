use Rattle.std.proofs.Common.{arith, ◌<◌, length}
use Rattle.palm_script.proofs.Fields.{no_field, next_is}
use Rattle.palm_script.proofs.line.next_field.Goals as goal

pub returns-then-start-text-clause-next : goal.returns-then-start-text-clause-next
returns-then-start-text-clause-next c = no_field c.args.text.now (omega (arith, c.field_start-start.ensures.place))

pub returns-clause-next : goal.returns-clause-next
returns-clause-next c =
    let some : c.field_start-start.result < length c.args.text.now = omega arith in
    rw (c.split_at.ensures.front, c.split_at.ensures.back) (next_is c.args.text.now c.field_start-start.result c.field_end-end.result c.field_start-start.ensures.place some c.field_end-end.ensures.place).0

pub returns-clause-some : goal.returns-clause-some
returns-clause-some c =
    let some : c.field_start-start.result < length c.args.text.now = omega arith in
    omega (arith, c.split_at.ensures.front_len, (next_is c.args.text.now c.field_start-start.result c.field_end-end.result c.field_start-start.ensures.place some c.field_end-end.ensures.place).1)
