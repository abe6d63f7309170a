use Rattle.std.proofs.Common.{◌<◌, sym, ap, ◌∙◌, subst, arith}
use Rattle.palm_desk.specs.Seats.{DeskState}
use Rattle.palm_desk.proofs.Ends.{splits_at}
use Rattle.palm_desk.proofs.open.caller_seat.Goals as goal

pub split_seat-seat-requires : goal.split_seat-seat-requires
split_seat-seat-requires c =
    let w = c.requires.words in let v = c.requires.view in let own = c.requires.table ∙ sym (ap (λ (d : DeskState). d.table) c.desk.view_is) in
    (own, subst (λ t. 0 < t.words) own (omega arith), splits_at _ _ c.args.seat.now.me.0 v.0 (let few = c.requires.small.0 in let s = v.1 in omega arith))
