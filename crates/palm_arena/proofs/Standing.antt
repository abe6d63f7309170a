-- The laws of places.
use Rattle.std.proofs.Common.{◌≡◌, sym, ap, ◌∙◌}
use mathlib.Core.Logic.{dite}
use native.Mathlib.Decide.{ℕ_discrete}
use Rattle.palm_node.specs.declared.id.NodeId.{NodeId}
use Rattle.palm_arena.specs.declared.place.Place.TheVariants.{Lent, Holds}
use Rattle.palm_arena.specs.ArenaState.{place_at, with_place}
use Rattle.palm_arena.specs.Laws.{PutStands, OthersStay, NoneLentAfterPut, NoneLentAfterReturn}
use Rattle.palm_arena.proofs.Places.{at_set_place, beside_set_place}
use Rattle.palm_arena.proofs.Keeping.{same_id}

pub put_stands : PutStands
put_stands places id place = at_set_place places id.place place

pub others_stay : OthersStay
others_stay places id other place apart = beside_set_place places id.place other.place place (λ same. apart (same_id other id same))

pub none_lent_after_put : NoneLentAfterPut
none_lent_after_put places id place is home other lent = dite (ℕ_discrete other.place id.place)
    (λ same. is (sym (put_stands places id place) ∙ ap (λ (k : NodeId). place_at (with_place places id place) k) (sym (same_id other id same)) ∙ lent))
    (λ apart. home other (sym (beside_set_place places id.place other.place place apart) ∙ lent))

pub none_lent_after_return : NoneLentAfterReturn
none_lent_after_return places id node home other lent =
    let lending = with_place places id Lent in
    dite (ℕ_discrete other.place id.place)
    (λ same.
    let e : Holds node ≡ Lent = sym (put_stands lending id (Holds node)) ∙ ap (λ (k : NodeId). place_at (with_place lending id (Holds node)) k) (sym (same_id other id same)) ∙ lent in
    cc)
    (λ apart. home other (sym (beside_set_place places id.place other.place Lent apart) ∙ sym (beside_set_place lending id.place other.place (Holds node) apart) ∙ lent))
