use Rattle.std.proofs.Common.{refl, ap, ◌∙◌}
use Rattle.palm_arena.specs.declared.place.Place.TheVariants.{Holds}
use Rattle.palm_arena.specs.ArenaState.{ArenaState, place_at, with_place}
use Rattle.palm_arena.specs.LeaseState.{LeaseState}
use Rattle.palm_arena.proofs.Places.{lent_within, set_place-within}
use Rattle.palm_arena.proofs.Seeing.{seen, returned}
use Rattle.palm_arena.proofs.arena.Arena.give_back.Goals as goal

pub returns : goal.returns
returns c =
    let id = c.lease.inside.id in
    let node = c.lease.inside.node in
    let lent = ap (λ (w : ArenaState). place_at w.places id) c.self.view_is ∙ ap (λ (l : LeaseState). place_at c.args.self.now.places l.id) c.lease.view_is ∙ c.requires in
    let within = lent_within c.self.inside.places.items id lent in
    seen _ _ _ _ _ _ (set_place-within c.self.inside.places.items id.place (Holds node) within) (returned c.self.inside id (Holds node) lent c.self.invariant).1 refl
    ∙ ap (λ (w : ArenaState). record w { places = with_place w.places id (Holds node) }) c.self.view_is
    ∙ ap (λ (l : LeaseState). record c.args.self.now { places = with_place c.args.self.now.places l.id (Holds l.node) }) c.lease.view_is
