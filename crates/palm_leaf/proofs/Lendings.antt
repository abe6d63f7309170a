-- One leaf more is lent, and one more is given back.
use Rattle.std.proofs.Common.{◌≡◌, ℕ, List, [], ◌∷◌, ◌++◌, length, map, None, Some, refl, sym, ap, ◌∙◌, append_assoc, subst}
use Rattle.std.specs.Prelude.{Option}
use mathlib.Core.List.{map-append}
use Rattle.palm_node.specs.declared.node.Node.TheVariants.{Leaf}
use Rattle.palm_arena.specs.declared.place.Place.{Place}
use Rattle.palm_arena.specs.declared.place.Place.TheVariants.{Lent, Holds}
use Rattle.palm_arena.specs.ArenaState.{node_at, with_place, IsLent, NoneLent}
use Rattle.palm_arena.specs.Cells.{Cell, Owns, Turns}
use Rattle.palm_arena.specs.Reads.{map_of}
use Rattle.palm_arena.proofs.CellLists.{owned_front, same_swap}
use Rattle.palm_arena.proofs.Turning.{lend_turns, put_turns, lent_none, turns_then, turns_before, turns_same}
use Rattle.palm_route.specs.declared.part.Group.{Group}
use Rattle.palm_leaf.specs.Answers.{rows_at, rows_in_node}
use Rattle.palm_leaf.specs.Ends.{leaf_cell, group_cells}
use Rattle.palm_leaf.specs.Lending.{LentAre, present, lease_ids, lease_cell, IsLoaded, Matched}
use Rattle.palm_leaf.specs.Settling.{done_of}
use Rattle.palm_leaf.specs.Worked.{IsPlan}
use Rattle.palm_base.specs.declared.row.Row.{Row}
use Rattle.palm_leaf.specs.declared.leaf_work.LeafWork.{LeafWork}
use Rattle.palm_leaf.specs.declared.lending.LeafDone.{LeafDone}
use Rattle.palm_leaf.proofs.LentIds.{none_are_lent, one_more_lent, one_given_back}

pub present_end : {X : Type 0} (items : List (Option X)) (x : X) → present (items ++ Some x ∷ []) ≡ present items ++ x ∷ []
present_end [] x = refl
present_end (None ∷ items) x = present_end items x
present_end (Some y ∷ items) x = ap (λ xs. y ∷ xs) (present_end items x)

matched_end : (Fits : Group → LeafWork → Type 0) (groups : List Group) (works : List LeafWork) (group : Group) (work : LeafWork) → Matched Fits groups works → Fits group work → Matched Fits (groups ++ group ∷ []) (works ++ work ∷ [])
matched_end Fits [] [] group work all one = (one, tt)
matched_end Fits [] (w ∷ works) group work all one = absurd all
matched_end Fits (g ∷ groups) [] group work all one = absurd all
matched_end Fits (g ∷ groups) (w ∷ works) group work all one = (all.0, matched_end Fits groups works group work all.1 one)

-- How far the lending has come: `left` are the groups whose leaves are still to be lent.
pub record LendSoFar (start places : List Place) (least : ℕ) (all left : List Group) (works : List (Option LeafWork)) : Type 0 where
  pub front : List Group
  pub whole : front ++ left ≡ all
  pub some : map Some (present works) ≡ works
  pub loaded : Matched (IsLoaded (map_of start) least) front (present works)
  pub lent : LentAre places (lease_ids (present works))
  pub turned : Turns (map_of start) (map_of places) (group_cells (map_of start) front) []

pub lent_none_yet : (start : List Place) (least : ℕ) (all : List Group) (works : List (Option LeafWork)) → NoneLent start → works ≡ [] → LendSoFar start start least all all works
lent_none_yet start least all works none is = rw is record {
  front = [];
  whole = refl;
  some = refl;
  loaded = tt;
  lent = none_are_lent start none;
  turned = λ others owned. owned;
}

-- The leaves of the groups that are left are still there.
pub left_owned : (start places : List Place) (least : ℕ) (all left : List Group) (works : List (Option LeafWork)) (others : List Cell) → LendSoFar start places least all left works → Owns (map_of start) (group_cells (map_of start) all ++ others)
    → Owns (map_of places) (group_cells (map_of start) left ++ others)
left_owned start places least all left works others far owned =
    let cells = group_cells (map_of start) in
    far.turned (cells left ++ others)
    (subst (Owns (map_of start)) (ap (λ gs. cells gs ++ others) (sym far.whole) ∙ ap (λ cs. cs ++ others) (map-append (λ (group : Group). leaf_cell (map_of start) group.leaf) far.front left) ∙ append_assoc (cells far.front) (cells left) others) owned)

pub next_leaf : (start places : List Place) (least : ℕ) (all left : List Group) (group : Group) (works : List (Option LeafWork)) (others : List Cell) → LendSoFar start places least all (group ∷ left) works → Owns (map_of start) (group_cells (map_of start) all ++ others)
    → node_at places group.leaf ≡ Some (Leaf (rows_at (map_of start) group.leaf))
next_leaf start places least all left group works others far owned =
    (owned_front (map_of places) group.leaf (Leaf (rows_at (map_of start) group.leaf)) (group_cells (map_of start) left ++ others) (left_owned start places least all (group ∷ left) works others far owned)).0

loaded_at_start : (start places : List Place) (least : ℕ) (group : Group) (work : LeafWork) → node_at places group.leaf ≡ Some (Leaf (rows_at (map_of start) group.leaf)) → IsLoaded (map_of places) least group work → IsLoaded (map_of start) least group work
loaded_at_start start places least group work held loaded = record {
  id = loaded.id;
  leaf = loaded.leaf ∙ ap (λ o. Leaf (rows_in_node o)) held;
  plan = subst (λ (rows : List Row). IsPlan (length rows) work.plan) (ap rows_in_node held) loaded.plan;
  parts = loaded.parts;
  path = loaded.path;
  low = loaded.low;
  least-is = loaded.least-is;
}

-- One more is lent.
pub one_lent : (start places next : List Place) (least : ℕ) (all left : List Group) (group : Group) (works more : List (Option LeafWork)) (work : LeafWork) (others : List Cell) → LendSoFar start places least all (group ∷ left) works
    → Owns (map_of start) (group_cells (map_of start) all ++ others) → IsLoaded (map_of places) least group work → next ≡ with_place places group.leaf Lent → more ≡ works ++ Some work ∷ [] → LendSoFar start next least all left more
one_lent start places next least all left group works more work others far owned loaded lent pushed =
    let held = next_leaf start places least all left group works others far owned in
    let rows = rows_at (map_of start) group.leaf in
    let ids = lease_ids (present works) in
    let cells = group_cells (map_of start) in
    let here = present_end works work in
    rw (lent, pushed) record {
      front = far.front ++ group ∷ [];
      whole = append_assoc far.front (group ∷ []) left ∙ far.whole;
      some = ap (map Some) here ∙ map-append Some (present works) (work ∷ []) ∙ ap (λ ws. ws ++ Some work ∷ []) far.some;
      loaded = subst (Matched (IsLoaded (map_of start) least) (far.front ++ group ∷ [])) (sym here) (matched_end (IsLoaded (map_of start) least) far.front (present works) group work far.loaded (loaded_at_start start places least group work held loaded));
      lent = subst (LentAre (with_place places group.leaf Lent)) (sym (ap lease_ids here ∙ map-append (λ (w : LeafWork). w.lease.id) (present works) (work ∷ []) ∙ ap (λ id. ids ++ id ∷ []) loaded.id))
          (one_more_lent places group.leaf (Leaf rows) ids held far.lent);
      turned =
          subst (λ cs. Turns (map_of start) (map_of (with_place places group.leaf Lent)) cs []) (sym (map-append (λ (g : Group). leaf_cell (map_of start) g.leaf) far.front (group ∷ [])))
          (turns_then (map_of start) (map_of places) (map_of (with_place places group.leaf Lent)) (cells far.front ++ (group.leaf, Leaf rows) ∷ []) ((group.leaf, Leaf rows) ∷ []) []
          (turns_before (map_of start) (map_of places) (cells far.front) [] ((group.leaf, Leaf rows) ∷ []) far.turned)
          (lend_turns places group.leaf (Leaf rows)));
    }

-- ---- giving back

-- How far the giving back has come: `left` are the items that are still to be given back.
pub record GiveSoFar (start places : List Place) (all left : List (Option LeafWork)) (done : List LeafDone) : Type 0 where
  pub gone : List LeafWork
  pub whole : gone ++ present left ≡ present all
  pub done-are : done ≡ map done_of gone
  pub turned : Turns (map_of start) (map_of places) [] (map lease_cell gone)
  pub lent : LentAre places (lease_ids (present left))

-- An item that isn't there is passed over.
pub one_passed : (start places : List Place) (all left before : List (Option LeafWork)) (done : List LeafDone) → before ≡ None ∷ left → GiveSoFar start places all before done → GiveSoFar start places all left done
one_passed start places all left before done next far =
    let here = subst (λ items. GiveSoFar start places all items done) next far in
    record { gone = here.gone; whole = here.whole; done-are = here.done-are; turned = here.turned; lent = here.lent }

pub next_is_lent : (start places : List Place) (all left before : List (Option LeafWork)) (work : LeafWork) (done : List LeafDone) → before ≡ Some work ∷ left → GiveSoFar start places all before done → IsLent places work.lease.id
next_is_lent start places all left before work done next far = (subst (λ items. LentAre places (lease_ids (present items))) next far.lent).each.0

-- One more is given back.
pub one_given : (start places now : List Place) (all left before : List (Option LeafWork)) (work : LeafWork) (done more : List LeafDone) → before ≡ Some work ∷ left → GiveSoFar start places all before done
    → now ≡ with_place places work.lease.id (Holds work.lease.node) → more ≡ done ++ done_of work ∷ [] → GiveSoFar start now all left more
one_given start places now all left before work done more next far put pushed =
    let here = subst (λ items. GiveSoFar start places all items done) next far in
    let id = work.lease.id in
    let node = work.lease.node in
    let after = with_place places id (Holds node) in
    let cells = map lease_cell here.gone in
    rw (put, pushed) record {
      gone = here.gone ++ work ∷ [];
      whole = append_assoc here.gone (work ∷ []) (present left) ∙ here.whole;
      done-are = ap (λ ds. ds ++ done_of work ∷ []) here.done-are ∙ sym (map-append done_of here.gone (work ∷ []));
      turned =
          subst (λ cs. Turns (map_of start) (map_of after) [] cs) (sym (map-append lease_cell here.gone (work ∷ [])))
          (turns_then (map_of start) (map_of places) (map_of after) [] cells (cells ++ lease_cell work ∷ []) here.turned
          (turns_same (map_of places) (map_of after) cells cells (lease_cell work ∷ cells) (cells ++ lease_cell work ∷ []) (λ i. refl) (same_swap (lease_cell work ∷ []) cells)
          (turns_before (map_of places) (map_of after) [] (lease_cell work ∷ []) cells (put_turns places id node (lent_none places id here.lent.each.0)))));
      lent = one_given_back places id node (lease_ids (present left)) here.lent;
    }
