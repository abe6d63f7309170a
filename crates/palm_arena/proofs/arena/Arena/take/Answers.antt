use Rattle.std.proofs.Common.{List, [], ◌∷◌, ◌++◌, ap, ◌∙◌, subst, is_some}
use Rattle.palm_node.specs.declared.id.NodeId.{NodeId}
use Rattle.palm_arena.specs.declared.place.Place.TheVariants.{Holds}
use Rattle.palm_arena.specs.ArenaState.{ArenaState, with_place, IsVacantAtBegin}
use Rattle.palm_arena.proofs.Seeing.{seen, taken, unused}
use Rattle.palm_arena.proofs.arena.Arena.take.Goals as goal

pub invariant_of-self-2 : goal.invariant_of-self-2
invariant_of-self-2 g c =
    let some = ap (λ (w : ArenaState). is_some w.begun) c.self.view_is ∙ c.requires in
    rw (c.push_reserved.ensures.items, c.reserve.ensures.items) (taken c.self.inside _ c.put.new.places.items c.in_ok-id.id c.args.node some c.in_ok-id.ensures.ok c.self.invariant).0

pub returns-clause-unused : goal.returns-clause-unused
returns-clause-unused g c =
    subst (λ (w : ArenaState). IsVacantAtBegin w c.in_ok-id.id) c.self.view_is (unused c.self.inside _ c.put.new.places.items c.in_ok-id.id c.args.node c.in_ok-id.ensures.ok c.self.invariant)

pub returns-clause-ok : goal.returns-clause-ok
returns-clause-ok g c =
    let some = ap (λ (w : ArenaState). is_some w.begun) c.self.view_is ∙ c.requires in
    let goes = taken c.self.inside _ c.put.new.places.items c.in_ok-id.id c.args.node some c.in_ok-id.ensures.ok c.self.invariant in
    seen _ _ _ _ _ _ c.in_ok-id.ensures.ok.placed goes.1 (◌∙◌ {A = List NodeId} c.push_reserved.ensures.items (ap (λ (l : List NodeId). l ++ c.in_ok-id.id ∷ []) c.reserve.ensures.items))
    ∙ ap (λ (w : ArenaState). record w { places = with_place w.places c.in_ok-id.id (Holds c.args.node); moved = w.moved ++ c.in_ok-id.id ∷ [] }) c.self.view_is
