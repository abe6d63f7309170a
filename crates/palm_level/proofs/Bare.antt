-- What an arena's node and the changes of its children come to: the pieces under the node, by their ids.
use Rattle.std.proofs.Common.{◌≡◌, ◌≤◌, ◌+◌, ◌-◌, ℕ, zero, suc, Bool, true, false, cond, List, [], ◌∷◌, ◌++◌, length, map, take, drop, refl, sym, ap, ◌∙◌, arith, subst, append_assoc, add-one, get_or, length-append}
use Rattle.std.specs.List.{flat_map, filter, AllByRecursion}
use Rattle.std.proofs.lemmas.List.{append-nil}
use mathlib.Core.List.{map-append}
use Rattle.palm_base.specs.Cut.{cut}
use Rattle.palm_base.specs.Pass.{with_lows, node_over, nodes_over, first_low, is_small, goes_right}
use Rattle.palm_base.specs.Lawful.{next_low}
use Rattle.palm_base.specs.declared.bounds.TheConstants.{LEAST_CHILDREN, MOST_CHILDREN}
use Rattle.palm_base.specs.declared.call.Call.{Call}
use Rattle.palm_node.specs.InnerNode.{InnerNode, inner_over}
use Rattle.palm_node.specs.declared.id.NodeId.{NodeId}
use Rattle.palm_node.specs.declared.id.Piece.{Piece}
use Rattle.palm_node.specs.declared.change.Change.{Change}
use Rattle.palm_arena.specs.Placed.{Placed, ids_of_children, bare}
use Rattle.palm_arena.specs.Routes.{separators_of}
use Rattle.palm_arena.specs.Sites.{Site, sites_of_children}
use Rattle.palm_arena.specs.Standing.{Result, is_hit, StandsForItself, change_of}
use Rattle.palm_arena.proofs.Natural.{length-map', cut-map, inside, small-map}
use Rattle.palm_arena.proofs.LevelCells.{sites_children}
use Rattle.palm_level.specs.Families.{Family, left_of, pieces_under, placed_left, IsFamily}
use Rattle.palm_level.specs.Splices.{last_step, path_above, child_place, pieces_at, children_of, spliced, PlacesRise}
use Rattle.palm_level.specs.Groups.{nodes_left}
use Rattle.palm_level.proofs.Splicing.{drop-add}

-- ---- the last step of a path

last_of : (path : List (NodeId × ℕ)) (step d : NodeId × ℕ) → get_or (path ++ step ∷ []) (length path) d ≡ step
last_of [] step d = refl
last_of (x ∷ xs) step d = last_of xs step d

pub last_snoc : (path : List (NodeId × ℕ)) (step : NodeId × ℕ) → last_step (path ++ step ∷ []) ≡ step
last_snoc path step =
    let n : length (path ++ step ∷ []) - 1 ≡ length path = (let long = length-append path (step ∷ []) in omega (arith, long)) in
    ap (λ k. get_or (path ++ step ∷ []) k (record { place = 0 }, 0)) n ∙ last_of path step (record { place = 0 }, 0)

front_of : (path : List (NodeId × ℕ)) (step : NodeId × ℕ) → take (length path) (path ++ step ∷ []) ≡ path
front_of [] step = refl
front_of (x ∷ xs) step = ap (λ l. x ∷ l) (front_of xs step)

pub above_snoc : (path : List (NodeId × ℕ)) (step : NodeId × ℕ) → path_above (path ++ step ∷ []) ≡ path
above_snoc path step =
    let long = length-append path (step ∷ []) in
    let n : length (path ++ step ∷ []) - 1 ≡ length path = omega (arith, long) in
    ap (λ k. take k (path ++ step ∷ [])) n ∙ front_of path step

-- The paths of a node's children lead to it, and then to their places.
abbrev pub StepsFrom : {l : ℕ} → List (NodeId × ℕ) → NodeId → ℕ → List (Site l) → Type 0
StepsFrom path id i [] = Unit {0}
StepsFrom path id i (s ∷ ss) = (s.path ≡ path ++ (id, i) ∷ []) × StepsFrom path id (suc i) ss

pub steps_below : (l : ℕ) (path : List (NodeId × ℕ)) (id : NodeId) (i : ℕ) (children : List (ℕ × Placed l)) (edits : List Call) → StepsFrom path id i (sites_of_children l path id i children edits)
steps_below l path id i [] edits = tt
steps_below l path id i (child ∷ []) edits = (refl, tt)
steps_below l path id i (child ∷ next ∷ children) edits = (refl, steps_below l path id (suc i) (next ∷ children) (filter (goes_right next.0) edits))

-- ---- a node's children as its cell holds them

lows_children : {B : Type 0} (children : List (ℕ × (NodeId × B))) → pieces_at (map (λ k. k.0) children) (ids_of_children children) ≡ bare children
lows_children [] = refl
lows_children (k ∷ ks) = ap (λ ps. record { low = k.0; id = k.1.0 } ∷ ps) (lows_children ks)

pub stored_children : {B : Type 0} (children : List (ℕ × (NodeId × B))) → next_low (λ k. k.0) 0 children ≡ 0 → pieces_at (0 ∷ separators_of children) (ids_of_children children) ≡ bare children
stored_children [] e = refl
stored_children (k ∷ ks) e =
    ap (λ n. record { low = n; id = k.1.0 } ∷ pieces_at (map (λ k. k.0) ks) (ids_of_children ks)) (sym e) ∙ ap (λ ps. record { low = k.0; id = k.1.0 } ∷ ps) (lows_children ks)

-- What an untouched child's place holds.
abbrev pub own : {l : ℕ} → Result l → Piece
own r = record { low = r.site.low; id = r.site.place.0 }

pub take_one : {T : Type 0} (n : ℕ) (xs : List T) (y : T) (ys : List T) → drop n xs ≡ y ∷ ys → take (suc n) xs ≡ take n xs ++ y ∷ []
take_one zero xs y ys e = ap (take 1) e
take_one (suc n) [] y ys e = absurd (cc)
take_one (suc n) (x ∷ xs) y ys e = ap (λ zs. x ∷ zs) (take_one n xs y ys e)

pub drop_one : {T : Type 0} (n : ℕ) (xs : List T) (y : T) (ys : List T) → drop n xs ≡ y ∷ ys → drop (suc n) xs ≡ ys
drop_one zero [] y ys e = absurd (cc)
drop_one zero (x ∷ xs) y ys e = (cc)
drop_one (suc n) [] y ys e = absurd (cc)
drop_one (suc n) (x ∷ xs) y ys e = drop_one n xs y ys e

take_none : {T : Type 0} (n : ℕ) (xs : List T) → drop n xs ≡ [] → take n xs ≡ xs
take_none zero [] e = refl
take_none zero (x ∷ xs) e = absurd (cc)
take_none (suc n) [] e = refl
take_none (suc n) (x ∷ xs) e = ap (λ zs. x ∷ zs) (take_none n xs e)

from_to : {T : Type 0} (from i : ℕ) (xs : List T) → from ≤ i → drop (i - from) (drop from xs) ≡ drop i xs
from_to from i xs l = let e : from + (i - from) ≡ i = omega arith in sym (drop-add from (i - from) xs) ∙ ap (λ n. drop n xs) e

-- The changes of the touched ones.
abbrev pub changes_in : (NodeId → Bool) → (l : ℕ) → List (Result l) → List Change
changes_in W l rs = map (change_of l) (filter (is_hit W l) rs)

-- The children with what stands for the touched ones are what stands for all.
spliced_children : (W : NodeId → Bool) (l : ℕ) (path : List (NodeId × ℕ)) (id : NodeId) (from i : ℕ) (old : List Piece) (rs : List (Result l)) → from ≤ i → drop i old ≡ map own rs
    → StepsFrom path id i (map (λ r. r.site) rs) → AllByRecursion (StandsForItself W l) rs
    → spliced from old (changes_in W l rs) ≡ take (i - from) (drop from old) ++ flat_map (λ r. bare r.pieces) rs
spliced_children W l path id from i old [] f e steps a = sym (take_none (i - from) (drop from old) (from_to from i old f ∙ e)) ∙ sym (append-nil (take (i - from) (drop from old)))
spliced_children W l path id from i old (r ∷ rs) f e steps a =
    by (is_hit W l r) refl (spliced_children W l path id (suc i) (suc i) old rs (omega arith) (drop_one i old (own r) (map own rs) e) steps.1 a.1)
    (spliced_children W l path id from (suc i) old rs (omega (arith, f)) (drop_one i old (own r) (map own rs) e) steps.1 a.1)
  where
    place : child_place (change_of l r) ≡ i
    place = ap (λ (s : NodeId × ℕ). s.1) (ap last_step steps.0 ∙ last_snoc path (id, i))

    by : (b : Bool) → is_hit W l r ≡ b
        → spliced (suc i) old (changes_in W l rs) ≡ take (suc i - suc i) (drop (suc i) old) ++ flat_map (λ r. bare r.pieces) rs
        → spliced from old (changes_in W l rs) ≡ take (suc i - from) (drop from old) ++ flat_map (λ r. bare r.pieces) rs
        → spliced from old (map (change_of l) (cond b (r ∷ filter (is_hit W l) rs) (filter (is_hit W l) rs))) ≡ take (i - from) (drop from old) ++ (bare r.pieces ++ flat_map (λ r. bare r.pieces) rs)
    by true h ih jh =
        let z : suc i - suc i ≡ 0 = omega arith in
        ap (λ n. take (n - from) (drop from old) ++ (bare r.pieces ++ spliced (n + 1) old (changes_in W l rs))) place
        ∙ ap (λ ps. take (i - from) (drop from old) ++ (bare r.pieces ++ ps)) (ap (λ n. spliced n old (changes_in W l rs)) (add-one i) ∙ ih ∙ ap (λ n. take n (drop (suc i) old) ++ flat_map (λ r. bare r.pieces) rs) z)
    by false h ih jh =
        let n : suc i - from ≡ suc (i - from) = omega (arith, f) in
        let one : take (suc i - from) (drop from old) ≡ take (i - from) (drop from old) ++ own r ∷ [] = ap (λ k. take k (drop from old)) n ∙ take_one (i - from) (drop from old) (own r) (map own rs) (from_to from i old f ∙ e) in
        jh
        ∙ ap (λ ps. ps ++ flat_map (λ r. bare r.pieces) rs) one
        ∙ append_assoc (take (i - from) (drop from old)) (own r ∷ []) (flat_map (λ r. bare r.pieces) rs)
        ∙ ap (λ ps. take (i - from) (drop from old) ++ (bare ps ++ flat_map (λ r. bare r.pieces) rs)) (sym (a.0 h))

-- The places of the touched children rise.
places_rise : (W : NodeId → Bool) (l : ℕ) (path : List (NodeId × ℕ)) (id : NodeId) (from i most : ℕ) (rs : List (Result l)) → from ≤ i → i + length rs ≡ most
    → StepsFrom path id i (map (λ r. r.site) rs) → PlacesRise from most (changes_in W l rs)
places_rise W l path id from i most [] f e steps = omega (arith, f, e)
places_rise W l path id from i most (r ∷ rs) f e steps =
    by (is_hit W l r) (places_rise W l path id (suc i) (suc i) most rs (omega arith) (omega (arith, e)) steps.1) (places_rise W l path id from (suc i) most rs (omega (arith, f)) (omega (arith, e)) steps.1)
  where
    place : child_place (change_of l r) ≡ i
    place = ap (λ (s : NodeId × ℕ). s.1) (ap last_step steps.0 ∙ last_snoc path (id, i))

    by : (b : Bool) → PlacesRise (suc i) most (changes_in W l rs) → PlacesRise from most (changes_in W l rs) → PlacesRise from most (map (change_of l) (cond b (r ∷ filter (is_hit W l) rs) (filter (is_hit W l) rs)))
    by true ih jh = rw place (f, omega (arith, e), rw (add-one i) ih)
    by false ih jh = jh

pub flat_bare : (l : ℕ) (rs : List (Result l)) → flat_map (λ r. bare r.pieces) rs ≡ bare (pieces_under l rs)
flat_bare l [] = refl
flat_bare l (r ∷ rs) = ap (λ ps. bare r.pieces ++ ps) (flat_bare l rs) ∙ sym (map-append (λ (child : ℕ × Placed l). record { low = child.0; id = child.1.0 }) r.pieces (pieces_under l rs))

own_sites : (l : ℕ) (rs : List (Result l)) → map own rs ≡ bare (map {B = ℕ × Placed l} (λ s. (s.low, s.place)) (map (λ r. r.site) rs))
own_sites l [] = refl
own_sites l (r ∷ rs) = ap (λ ps. own r ∷ ps) (own_sites l rs)

-- A family's children are those of its parent.
pub family_own : (l : ℕ) (f : Family l) → IsFamily l f → map own f.children ≡ bare f.parent.place.1
family_own l f e =
    own_sites l f.children ∙ ap bare (ap (map {B = ℕ × Placed l} (λ s. (s.low, s.place))) e ∙ sites_children l f.parent.path f.parent.place.0 0 f.parent.place.1 f.parent.edits)

pub family_steps : (l : ℕ) (f : Family l) → IsFamily l f → StepsFrom f.parent.path f.parent.place.0 0 (map (λ r. r.site) f.children)
family_steps l f e = subst (StepsFrom f.parent.path f.parent.place.0 0) (sym e) (steps_below l f.parent.path f.parent.place.0 0 f.parent.place.1 f.parent.edits)

-- The node that an arena holds for children.
abbrev pub inner_of : {B : Type 0} → List (ℕ × (NodeId × B)) → InnerNode
inner_of children = record { children = ids_of_children children; separators = separators_of children }

-- So what is left by ids, of a family, is the pieces under its parent.
pub family_left : (W : NodeId → Bool) (l : ℕ) (f : Family l) → IsFamily l f → next_low (λ child. child.0) 0 f.parent.place.1 ≡ 0 → AllByRecursion (StandsForItself W l) f.children
    → spliced 0 (children_of (inner_of f.parent.place.1)) (changes_in W l f.children) ≡ bare (placed_left l f)
family_left W l f e first a =
    ap (λ ks. spliced 0 ks (changes_in W l f.children)) (stored_children f.parent.place.1 first ∙ sym (family_own l f e))
    ∙ spliced_children W l f.parent.path f.parent.place.0 0 0 (map own f.children) f.children (omega arith) refl (family_steps l f e) a
    ∙ flat_bare l f.children

pub family_length : (l : ℕ) (f : Family l) → IsFamily l f → length f.children ≡ length f.parent.place.1
family_length l f e =
    sym (length-map' own f.children) ∙ ap length (family_own l f e) ∙ length-map' _ f.parent.place.1

pub family_places : (W : NodeId → Bool) (l : ℕ) (f : Family l) → IsFamily l f → PlacesRise 0 (length f.parent.place.1) (changes_in W l f.children)
family_places W l f e = places_rise W l f.parent.path f.parent.place.0 0 0 (length f.parent.place.1) f.children (omega arith) (let n = family_length l f e in omega (arith, n)) (family_steps l f e)

-- ---- nodes by their ids

ids_bare : {B : Type 0} (ks : List (ℕ × (NodeId × B))) → map (λ (p : Piece). p.id) (bare ks) ≡ ids_of_children ks
ids_bare [] = refl
ids_bare (k ∷ ks) = ap (λ is. k.1.0 ∷ is) (ids_bare ks)

lows_bare : {B : Type 0} (ks : List (ℕ × (NodeId × B))) → map (λ (p : Piece). p.low) (bare ks) ≡ map (λ k. k.0) ks
lows_bare [] = refl
lows_bare (k ∷ ks) = ap (λ is. k.0 ∷ is) (lows_bare ks)

pub inner_bare : {B : Type 0} (ks : List (ℕ × (NodeId × B))) → inner_over (bare ks) ≡ inner_of ks
inner_bare [] = refl
inner_bare (k ∷ ks) = rw (ids_bare ks, lows_bare ks) refl

over_bare : {B : Type 0} (ks : List (ℕ × (NodeId × B))) → inner_of (node_over ks) ≡ inner_over (bare ks)
over_bare [] = refl
over_bare (k ∷ ks) = sym (inner_bare (k ∷ ks))

first_bare : {B : Type 0} (ks : List (ℕ × (NodeId × B))) → first_low (λ child. child.0) ks ≡ first_low (λ (p : Piece). p.low) (bare ks)
first_bare [] = refl
first_bare (k ∷ ks) = refl

later_bare : {B : Type 0} (parts : List (List (ℕ × (NodeId × B)))) → map {B = ℕ × InnerNode} (inside inner_of) (map {B = ℕ × List (ℕ × (NodeId × B))} (λ p. (first_low (λ child. child.0) p, node_over p)) parts)
    ≡ map {B = ℕ × InnerNode} (λ p. (first_low (λ (piece : Piece). piece.low) p, inner_over p)) (map bare parts)
later_bare [] = refl
later_bare (p ∷ ps) = rw (first_bare p, over_bare p, later_bare ps) refl

parts_bare : {B : Type 0} (low : ℕ) (parts : List (List (ℕ × (NodeId × B)))) → map {B = ℕ × InnerNode} (inside inner_of) (with_lows (λ child. child.0) node_over low parts)
    ≡ with_lows (λ (piece : Piece). piece.low) inner_over low (map bare parts)
parts_bare low [] = refl
parts_bare low (p ∷ ps) = rw (over_bare p, later_bare ps) refl

-- What is left of a node, by ids.
pub left_bare : {B : Type 0} (low : ℕ) (children : List (ℕ × (NodeId × B))) → map {B = ℕ × InnerNode} (inside inner_of) (left_of low children) ≡ nodes_left low (bare children)
left_bare {B} low children = by (is_small LEAST_CHILDREN children) refl
  where
    by : (b : Bool) → is_small LEAST_CHILDREN children ≡ b → map {B = ℕ × InnerNode} (inside inner_of) (cond b [] (nodes_over low children)) ≡ nodes_left low (bare children)
    by true q = rw (small-map {B = Piece} (λ (child : ℕ × (NodeId × B)). record { low = child.0; id = child.1.0 }) LEAST_CHILDREN children, q) refl
    by false q =
        rw (small-map {B = Piece} (λ (child : ℕ × (NodeId × B)). record { low = child.0; id = child.1.0 }) LEAST_CHILDREN children, q)
        (parts_bare low (cut MOST_CHILDREN children) ∙ ap (with_lows (λ (piece : Piece). piece.low) inner_over low) (sym (cut-map {B = Piece} (λ (child : ℕ × (NodeId × B)). record { low = child.0; id = child.1.0 }) MOST_CHILDREN children)))
