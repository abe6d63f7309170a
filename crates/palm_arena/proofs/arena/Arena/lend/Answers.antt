use Rattle.std.proofs.Common.{List, [], ◌∷◌, ◌++◌, set, ap, ◌∙◌, inr, is_some}
use Rattle.std.proofs.lemmas.List.Elements.{Contains-push}
use Rattle.palm_node.specs.declared.id.NodeId.{NodeId}
use Rattle.palm_arena.specs.declared.place.Place.{Place}
use Rattle.palm_arena.specs.declared.place.Place.TheVariants.{Lent}
use Rattle.palm_arena.specs.ArenaState.{ArenaState, node_at, with_place}
use Rattle.palm_arena.specs.Journal.{begun_with}
use Rattle.palm_arena.proofs.Places.{held_within, set_place-within}
use Rattle.palm_arena.proofs.Seeing.{seen, placed}
use Rattle.palm_arena.proofs.arena.Arena.lend.Goals as goal

pub invariant_of-self-2 : goal.invariant_of-self-2
invariant_of-self-2 g c =
    let some = ap (λ (w : ArenaState). is_some w.begun) c.self.view_is ∙ c.requires.under_way in
    let held = ap (λ (w : ArenaState). is_some (node_at w.places c.args.id)) c.self.view_is ∙ c.requires.held in
    let within = held_within c.self.inside.places.items c.args.id held in
    let saves = rw c.deref.ensures.value at c.in_ok-save.ensures.ok in
    rw (c.push_reserved.ensures.items, c.reserve.ensures.items, c.replace-held.ensures.after) (placed c.self.inside _ (c.self.inside.moved.items ++ c.args.id ∷ []) c.args.id Lent some within saves (inr (Contains-push c.self.inside.moved.items c.args.id)) (λ other apart listed. listed) c.self.invariant).0

pub returns-clause-ok : goal.returns-clause-ok
returns-clause-ok g c =
    let some = ap (λ (w : ArenaState). is_some w.begun) c.self.view_is ∙ c.requires.under_way in
    let held = ap (λ (w : ArenaState). is_some (node_at w.places c.args.id)) c.self.view_is ∙ c.requires.held in
    let within = held_within c.self.inside.places.items c.args.id held in
    let saves = rw c.deref.ensures.value at c.in_ok-save.ensures.ok in
    let goes = placed c.self.inside _ (c.self.inside.moved.items ++ c.args.id ∷ []) c.args.id Lent some within saves (inr (Contains-push c.self.inside.moved.items c.args.id)) (λ other apart listed. listed) c.self.invariant in
    seen _ _ _ _ _ _
    (ap (λ (p : Place). set c.self.inside.places.items c.args.id.place p) c.replace-held.ensures.after ∙ set_place-within c.self.inside.places.items c.args.id.place Lent within)
    (ap (λ (p : Place). begun_with c.self.inside.begun c.save.new.self (set c.self.inside.places.items c.args.id.place p)) c.replace-held.ensures.after ∙ goes.1)
    (c.push_reserved.ensures.items ∙ ap (λ (l : List NodeId). l ++ c.args.id ∷ []) c.reserve.ensures.items)
    ∙ ap (λ (w : ArenaState). record w { places = with_place w.places c.args.id Lent; moved = w.moved ++ c.args.id ∷ [] }) c.self.view_is
