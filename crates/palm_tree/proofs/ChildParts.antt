-- The rows of a range that stand below the children of an inner node, appended child after child as far as a limit allows.
use Rattle.std.proofs.Common.{◌≡◌, ℕ, Bool, zero, suc, ◌+◌, ◌-◌, ◌<◌, ◌≤◌, List, [], ◌∷◌, ◌++◌, length, slice_get, take, drop, filter, Some, sym, ap, subst, arith, ◌∙◌, ◌⊎◌, inl, inr}
use Rattle.std.specs.List.{flat_map}
use Rattle.std.proofs.lemmas.List.{append-nil, take-append-drop, take_more, drop-drop}
use Rattle.std.proofs.lemmas.List.Concat.{flat_map-append}
use Rattle.std.proofs.lemmas.List.Elements.{filter-append}
use Rattle.std.proofs.lemmas.Option.{slice_get_within, get_or_from_slice_get}
use Rattle.palm_base.specs.Table.{lies_within}
use Rattle.palm_base.proofs.TableSplits.{From}
use Rattle.palm_base.specs.declared.row.Row.{Row}
use Rattle.palm_node.specs.InnerNode.{InnerNode}
use Rattle.palm_node.specs.declared.id.NodeId.{NodeId}
use Rattle.palm_arena.specs.declared.place.Place.{Place}
use Rattle.palm_tree.specs.Below.{rows_below}
use Rattle.palm_arena.specs.Routes.{route_of}
use Rattle.palm_tree.proofs.Children.{HasChildren}
use Rattle.palm_tree.proofs.Limits.{none_yet, one_more, no_more}
use Rattle.palm_tree.proofs.Ranges.{within-under, within-from}

-- Left of the child where the range begins is none of it.
pub children_begin : (from to limit : ℕ) (held : List Row) (places : List Place) (below n : ℕ) (id : NodeId) (inner : InnerNode)
    → HasChildren places below n id inner → length held ≤ limit
    → held ≡ take limit (held ++ filter (lies_within from to) (flat_map (rows_below places n) (take (route_of from inner.separators) inner.children)))
children_begin from to limit held places below n id inner has room = none_yet limit held _ room (within-under from to _ (has.before from))

up_to_next : {X : Type 0} (rows_at : X → List Row) (test : Row → Bool) (ids : List X) (i : ℕ) (id : X) → slice_get ids i ≡ Some id
    → filter test (flat_map rows_at (take (i + 1) ids)) ≡ filter test (flat_map rows_at (take i ids)) ++ filter test (rows_at id)
up_to_next rows_at test ids i id got =
    let more : take (i + 1) ids ≡ take i ids ++ id ∷ [] = take_more ids i id (slice_get_within ids i id got) ∙ ap (λ x. take i ids ++ x ∷ []) (get_or_from_slice_get ids i id id got) in
    ap (λ (l : List _). filter test (flat_map rows_at l)) more
    ∙ ap (filter test) (flat_map-append rows_at (take i ids) (id ∷ []) ∙ ap (λ (l : List Row). flat_map rows_at (take i ids) ++ l) (append-nil (rows_at id)))
    ∙ filter-append test (flat_map rows_at (take i ids)) (rows_at id)

-- The rows below one child are appended to those below the children before it.
pub child_appended : (from to limit : ℕ) (held now next : List Row) (rows_at : NodeId → List Row) (ids : List NodeId) (i : ℕ) (id : NodeId)
    → now ≡ take limit (held ++ filter (lies_within from to) (flat_map rows_at (take i ids))) → slice_get ids i ≡ Some id
    → next ≡ take limit (now ++ filter (lies_within from to) (rows_at id))
    → next ≡ take limit (held ++ filter (lies_within from to) (flat_map rows_at (take (i + 1) ids)))
child_appended from to limit held now next rows_at ids i id is got more =
    rw (up_to_next rows_at (lies_within from to) ids i id got) (one_more limit held _ (filter (lies_within from to) (rows_at id)) now next is more)

right_part : (k : ℕ) (left right : List Row) → From k (left ++ right) → From k right
right_part k [] right from = from
right_part k (row ∷ left) right from = right_part k left right from.1

further : (k : ℕ) (rows_at : NodeId → List Row) (j : ℕ) (ids : List NodeId) → From k (flat_map rows_at ids) → From k (flat_map rows_at (drop j ids))
further k rows_at zero ids from = from
further k rows_at (suc j) [] from = from
further k rows_at (suc j) (id ∷ ids) from = further k rows_at j ids (right_part k (rows_at id) (flat_map rows_at ids) from)

in_two : (rows_at : NodeId → List Row) (test : Row → Bool) (i : ℕ) (ids : List NodeId)
    → filter test (flat_map rows_at ids) ≡ filter test (flat_map rows_at (take i ids)) ++ filter test (flat_map rows_at (drop i ids))
in_two rows_at test i ids =
    ap (λ (l : List NodeId). filter test (flat_map rows_at l)) (sym (take-append-drop i ids))
    ∙ ap (filter test) (flat_map-append rows_at (take i ids) (drop i ids))
    ∙ filter-append test (flat_map rows_at (take i ids)) (flat_map rows_at (drop i ids))

-- Past the child where the range ends, or at the limit, all are there.
pub children_end : (from to limit : ℕ) (held now : List Row) (places : List Place) (below n : ℕ) (id : NodeId) (inner : InnerNode) (i : ℕ)
    → HasChildren places below n id inner → now ≡ take limit (held ++ filter (lies_within from to) (flat_map (rows_below places n) (take i inner.children)))
    → ((route_of to inner.separators < i) ⊎ (limit ≤ length now))
    → now ≡ take limit (held ++ filter (lies_within from to) (rows_below places below id))
children_end from to limit held now places below n id inner i has is end = no_more limit held _ _ _ now is whole (by end)
  where
    whole : filter (lies_within from to) (rows_below places below id)
        ≡ filter (lies_within from to) (flat_map (rows_below places n) (take i inner.children)) ++ filter (lies_within from to) (flat_map (rows_below places n) (drop i inner.children))
    whole = ap (filter (lies_within from to)) has.rows ∙ in_two (rows_below places n) (lies_within from to) i inner.children

    by : ((route_of to inner.separators < i) ⊎ (limit ≤ length now))
        → ((filter (lies_within from to) (flat_map (rows_below places n) (drop i inner.children)) ≡ []) ⊎ (limit ≤ length now))
    by (inl past) =
        let next : ℕ = suc (route_of to inner.separators) in
        let same : drop (i - next) (drop next inner.children) ≡ drop i inner.children = drop-drop (i - next) next inner.children ∙ ap (λ j. drop j inner.children) (omega (arith, past)) in
        let behind : From (suc to) (flat_map (rows_below places n) (drop i inner.children)) =
        subst (λ (l : List NodeId). From (suc to) (flat_map (rows_below places n) l)) same (further (suc to) (rows_below places n) (i - next) (drop next inner.children) (has.behind to)) in
        inl (within-from from to _ behind)
    by (inr full) = inr full
