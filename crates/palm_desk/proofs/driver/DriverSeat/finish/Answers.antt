use Rattle.std.proofs.Common.{◌<◌, refl, sym, ap, ◌∙◌, subst}
use Rattle.palm_desk.specs.Seats.{DeskState, DriverState}
use Rattle.palm_desk.proofs.Answering.{finish_ok, some_words}
use Rattle.palm_desk.proofs.driver.DriverSeat.finish.Goals as goal

pub store-requires : goal.store-requires
store-requires c = let r = c.self.invariant.0 in
    let own = ap (λ (d : DeskState). d.table) (ap (λ (v : DriverState). v.desk) c.self.view_is ∙ c.requires ∙ sym c.desk.view_is) in
    (own, subst (λ t. 1 < t.words) own ((some_words _ _ _ _ _ _ _ _ _ _ r).0), finish_ok _ _ _ _ _ _ _ _ _ _ r _ _ _ _ refl)
