-- Which ids are lent, as one more is lent and one is given back.
use Rattle.std.proofs.Common.{◌≡◌, ◌≢◌, List, [], ◌∷◌, ◌++◌, None, Some, sym, ap, ◌∙◌, ◌⊎◌, inl, inr}
use mathlib.Core.Logic.{dite}
use native.Mathlib.Decide.{ℕ_discrete}
use Rattle.std.specs.List.{AllByRecursion}
use Rattle.palm_node.specs.declared.id.NodeId.{NodeId}
use Rattle.palm_node.specs.declared.node.Node.{Node}
use Rattle.palm_arena.specs.declared.place.Place.{Place}
use Rattle.palm_arena.specs.declared.place.Place.TheVariants.{Lent, Holds}
use Rattle.palm_arena.specs.ArenaState.{place_at, node_at, node_in, with_place, IsLent, NoneLent}
use Rattle.palm_arena.proofs.Keeping.{same_id}
use Rattle.palm_arena.proofs.Standing.{put_stands, others_stay}
use Rattle.palm_leaf.specs.Lending.{AllLent, IsOneOf, LentAre}

-- An id is another or it isn't.
same_or_other : (id other : NodeId) → (id ≡ other) ⊎ (id ≢ other)
same_or_other id other = dite (ℕ_discrete id.place other.place) (λ e. inl (same_id id other e)) (λ apart. inr (λ e. apart (ap (λ (k : NodeId). k.place) e)))

-- Where a node stands nothing is lent.
held_apart : (places : List Place) (id other : NodeId) (node : Node) → node_at places id ≡ Some node → IsLent places other → other ≢ id
held_apart places id other node held lent same =
    let none : node_at places id ≡ None = ap (node_at places) (sym same) ∙ ap node_in lent in
    absurd cc

one_of_end : (id other : NodeId) (ids : List NodeId) → (id ≡ other) ⊎ IsOneOf id ids → IsOneOf id (ids ++ other ∷ [])
one_of_end id other [] (inl same) = inl same
one_of_end id other [] (inr none) = absurd none
one_of_end id other (first ∷ ids) (inl same) = inr (one_of_end id other ids (inl same))
one_of_end id other (first ∷ ids) (inr (inl own)) = inl own
one_of_end id other (first ∷ ids) (inr (inr later)) = inr (one_of_end id other ids (inr later))

apart_end : (first id : NodeId) (ids : List NodeId) → AllByRecursion (λ other. first ≢ other) ids → first ≢ id → AllByRecursion (λ other. first ≢ other) (ids ++ id ∷ [])
apart_end first id [] all apart = (apart, tt)
apart_end first id (other ∷ ids) all apart = (all.0, apart_end first id ids all.1 apart)

lent_end : (places : List Place) (id : NodeId) (node : Node) (ids : List NodeId) → node_at places id ≡ Some node → AllLent places ids → AllLent (with_place places id Lent) (ids ++ id ∷ [])
lent_end places id node [] held all = (put_stands places id Lent, tt, tt)
lent_end places id node (first ∷ ids) held all =
    let apart = held_apart places id first node held all.0 in
    (others_stay places id first Lent apart ∙ all.0, apart_end first id ids all.1 apart, lent_end places id node ids held all.2)

pub none_are_lent : (places : List Place) → NoneLent places → LentAre places []
none_are_lent places none = record { each = tt; only = λ id lent. none id lent }

-- One more is lent.
pub one_more_lent : (places : List Place) (id : NodeId) (node : Node) (ids : List NodeId) → node_at places id ≡ Some node → LentAre places ids → LentAre (with_place places id Lent) (ids ++ id ∷ [])
one_more_lent places id node ids held lent = record {
  each = lent_end places id node ids held lent.each;
  only = λ other here. one_of_end other id ids (by other here (same_or_other other id));
}
  where
    by : (other : NodeId) → IsLent (with_place places id Lent) other → (other ≡ id) ⊎ (other ≢ id) → (other ≡ id) ⊎ IsOneOf other ids
    by other here (inl same) = inl same
    by other here (inr apart) = inr (lent.only other (sym (others_stay places id other Lent apart) ∙ here))

-- What stands at another place stays lent.
others_lent : (places : List Place) (id : NodeId) (place : Place) (ids : List NodeId) → AllByRecursion (λ other. id ≢ other) ids → AllLent places ids → AllLent (with_place places id place) ids
others_lent places id place [] apart all = tt
others_lent places id place (first ∷ ids) apart all = (others_stay places id first place (λ same. apart.0 (sym same)) ∙ all.0, all.1, others_lent places id place ids apart.1 all.2)

-- The first is given back.
pub one_given_back : (places : List Place) (id : NodeId) (node : Node) (ids : List NodeId) → LentAre places (id ∷ ids) → LentAre (with_place places id (Holds node)) ids
one_given_back places id node ids lent = record {
  each = others_lent places id (Holds node) ids lent.each.1 lent.each.2;
  only = λ other here. by other here (same_or_other other id);
}
  where
    by : (other : NodeId) → IsLent (with_place places id (Holds node)) other → (other ≡ id) ⊎ (other ≢ id) → IsOneOf other ids
    by other here (inl same) =
        let held : place_at (with_place places id (Holds node)) other ≡ Holds node = ap (place_at (with_place places id (Holds node))) same ∙ put_stands places id (Holds node) in
        let clash : Lent ≡ Holds node = sym here ∙ held in
        absurd cc
    by other here (inr apart) =
        elim (lent.only other (sym (others_stay places id other (Holds node) apart) ∙ here)) [ inl same ↦ absurd (apart same) | inr among ↦ among ]
