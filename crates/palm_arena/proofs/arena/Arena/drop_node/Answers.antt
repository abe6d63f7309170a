use Rattle.std.proofs.Common.{refl, ap, ◌∙◌, inl, is_some}
use Rattle.palm_arena.specs.declared.place.Place.TheVariants.{Empty}
use Rattle.palm_arena.specs.ArenaState.{ArenaState, node_at, with_place}
use Rattle.palm_arena.proofs.Places.{held_within, set_place-within}
use Rattle.palm_arena.proofs.Keeping.{unlisted}
use Rattle.palm_arena.proofs.Seeing.{seen, placed}
use Rattle.palm_arena.proofs.arena.Arena.drop_node.Goals as goal

pub invariant_of-self-2 : goal.invariant_of-self-2
invariant_of-self-2 c =
    let some = ap (λ (w : ArenaState). is_some w.begun) c.self.view_is ∙ c.requires.under_way in
    let held = ap (λ (w : ArenaState). is_some (node_at w.places c.args.id)) c.self.view_is ∙ c.requires.held in
    let within = held_within c.self.inside.places.items c.args.id held in
    let saves = rw c.deref.ensures.value at c.in_ok-save.ensures.ok in
    (placed c.self.inside _ _ c.args.id Empty some within saves (inl refl) (unlisted c.self.inside.moved.items c.args.id) c.self.invariant).0

pub returns-clause-ok : goal.returns-clause-ok
returns-clause-ok c =
    let some = ap (λ (w : ArenaState). is_some w.begun) c.self.view_is ∙ c.requires.under_way in
    let held = ap (λ (w : ArenaState). is_some (node_at w.places c.args.id)) c.self.view_is ∙ c.requires.held in
    let within = held_within c.self.inside.places.items c.args.id held in
    let saves = rw c.deref.ensures.value at c.in_ok-save.ensures.ok in
    let goes = placed c.self.inside _ _ c.args.id Empty some within saves (inl refl) (unlisted c.self.inside.moved.items c.args.id) c.self.invariant in
    seen _ _ _ _ _ _ (set_place-within c.self.inside.places.items c.args.id.place Empty within) goes.1 refl
    ∙ ap (λ (w : ArenaState). record w { places = with_place w.places c.args.id Empty }) c.self.view_is
