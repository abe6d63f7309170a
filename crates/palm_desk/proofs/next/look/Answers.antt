use Rattle.std.proofs.Common.{◌+◌, ◌*◌, ◌<◌, sym, ap, ◌∙◌, subst, arith}
use Rattle.palm_desk.specs.Rule.{cell, state_at}
use Rattle.palm_base.specs.Arrivals.{count_of}
use Rattle.palm_desk.specs.Seats.{DeskState}
use Rattle.palm_desk.proofs.Scanning.{starts_at, scans_at}
use Rattle.palm_desk.proofs.next.look.Goals as goal

pub load-requires : goal.load-requires
load-requires c = let own = c.requires.table ∙ sym (ap (λ (d : DeskState). d.table) c.desk.view_is) in let v = c.requires.view in let w = c.requires.words in let m = c.args.seat.now.me in let is = c.if-caller-eq0.true in (
  own,
  subst (λ t. 4 * c.args.at + 2 < t.words) own w,
  starts_at _ _ _ m _ v.0 (let lt = v.1 in omega arith) (ap state_at v.2 ∙ ap (λ i. state_at (cell m.0.terms i (count_of i m.0.drives.taken))) is),
)

pub load-requires-else-caller-eq0 : goal.load-requires-else-caller-eq0
load-requires-else-caller-eq0 c = let own = c.requires.table ∙ sym (ap (λ (d : DeskState). d.table) c.desk.view_is) in let v = c.requires.view in let w = c.requires.words in let m = c.args.seat.now.me in let ne = c.if-caller-eq0.false in
    let turn = c.requires.turn (omega arith) in (
      own,
      subst (λ t. 4 * c.args.at + 2 < t.words) own w,
      scans_at _ _ _ m _ v.0 (let lt = v.1 in omega arith) (ap state_at v.2 ∙ ap (λ i. state_at (cell m.0.terms i (count_of i m.0.drives.taken))) (sym turn)),
    )
