use Rattle.std.proofs.Common.{◌≡◌, List, sym, ap, ◌∙◌, subst}
use Rattle.palm_node.specs.declared.id.NodeId.{NodeId}
use Rattle.palm_arena.specs.declared.place.Place.{Place}
use Rattle.palm_arena.specs.declared.place.Place.TheVariants.{Lent, Holds}
use Rattle.palm_arena.specs.ArenaState.{ArenaState, place_at, with_place, NoneLent}
use Rattle.palm_arena.proofs.Standing.{put_stands, none_lent_after_return}
use Rattle.palm_arena.proofs.tests.put.Goals as goal

pub give_back-requires : goal.give_back-requires
give_back-requires g c =
    ap (λ (w : ArenaState). place_at w.places c.in_ok-lease.lease.id) c.in_ok-lease.ensures.ok
    ∙ ap (λ (k : NodeId). place_at (with_place c.args.arena.now.places c.args.id Lent) k) c.in_ok-lease.ensures.lease.0
    ∙ put_stands c.args.arena.now.places c.args.id Lent

pub returns-clause-none_lent : goal.returns-clause-none_lent
returns-clause-none_lent g c =
    let places : c.give_back.new.self.places ≡ with_place (with_place c.args.arena.now.places c.args.id Lent) c.args.id (Holds c.args.node) =
    ap (λ (w : ArenaState). w.places) c.give_back.ensures
    ∙ ap (λ (w : ArenaState). with_place w.places c.in_ok-lease.lease.id (Holds c.args.node)) c.in_ok-lease.ensures.ok
    ∙ ap (λ (k : NodeId). with_place (with_place c.args.arena.now.places c.args.id Lent) k (Holds c.args.node)) c.in_ok-lease.ensures.lease.0
    in
    subst (λ (l : List Place). NoneLent l) (sym places) (none_lent_after_return c.args.arena.now.places c.args.id c.args.node c.requires.none_lent)
