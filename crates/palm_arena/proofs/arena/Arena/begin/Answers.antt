use Rattle.std.proofs.Common.{◌≡◌, length, [], refl, sym, ap, ◌∙◌, Some, arith}
use Rattle.palm_arena.specs.ArenaState.{ArenaState, place_at, NoneLent}
use Rattle.palm_arena.proofs.Seeing.{seen, begins}
use Rattle.palm_arena.proofs.arena.Arena.begin.Goals as goal

pub returns : goal.returns
returns c =
    let none = ap (λ (w : ArenaState). w.begun) c.self.view_is ∙ c.requires.idle in
    let home : NoneLent c.self.inside.places.items = λ id lent. c.requires.none_lent id (ap (λ (w : ArenaState). place_at w.places id) (sym c.self.view_is) ∙ lent) in
    let all : c.len.result ≡ length c.self.inside.places.items = omega arith in
    seen _ _ _ _ _ _ refl (ap Some (begins c.self.inside c.len.result none home all c.self.invariant)) c.clear.ensures.items
    ∙ ap (λ (w : ArenaState). record { places = w.places; begun = Some w.places; moved = [] }) c.self.view_is
