-- Work by ids is the work on the families.
use Rattle.std.proofs.Common.{◌≡◌, ℕ, suc, Bool, true, false, cond, List, [], ◌∷◌, ◌++◌, length, map, refl, sym, ap, ◌∙◌, subst, Option}
use Rattle.std.specs.List.{flat_map, AllByRecursion, filter}
use mathlib.Core.List.{map-append}
use Rattle.palm_base.specs.Pass.{node_over, is_small}
use Rattle.palm_base.specs.declared.bounds.TheConstants.{LEAST_CHILDREN}
use Rattle.palm_node.specs.InnerNode.{InnerNode, inner_over}
use Rattle.palm_node.specs.declared.id.NodeId.{NodeId}
use Rattle.palm_node.specs.declared.id.Piece.{Piece}
use Rattle.palm_node.specs.declared.node.Node.{Node}
use Rattle.palm_node.specs.declared.change.Changes.{Changes}
use Rattle.palm_arena.specs.Cells.{Cell, Turns}
use Rattle.palm_arena.specs.Placed.{Body, Placed, node_of, bare, with_ids, own_cells}
use Rattle.palm_arena.specs.Sites.{Site, raised, sites_at}
use Rattle.palm_arena.specs.Standing.{is_hit, StandsForItself, change_of, removed_of, Stands}
use Rattle.palm_arena.proofs.Natural.{length-map', inside, small-map}
use Rattle.palm_level.specs.Families.{Family, placed_left, bodies_left, is_worked, kept_after, result_after, nodes_before, nodes_after, removed_node, IsFull, IsFamily, HasIds, Worked}
use Rattle.palm_level.specs.Groups.{Group, group_left, nodes_left, group_nodes, cells_at, named_pieces, cells_before, removed_cell, cells_after, group_change, group_removed}
use Rattle.palm_level.proofs.Bare.{changes_in, inner_of, family_left, left_bare, inner_bare}
use Rattle.palm_level.proofs.Families.{level_stands}

-- A group is a touched family's.
pub record IsOf (W : NodeId → Bool) (l : ℕ) (g : Group) (f : Family l) : Type 0 where
  pub id : g.touched.id ≡ f.parent.place.0
  pub path : g.touched.path ≡ f.parent.path
  pub low : g.touched.low ≡ f.parent.low
  pub node : g.node ≡ inner_of f.parent.place.1
  pub changes : g.touched.changes ≡ changes_in W l f.children
  pub many : length g.ids ≡ length (group_nodes g)

pub record Ready (W : NodeId → Bool) (l : ℕ) (f : Family l) : Type 0 where
  pub family : IsFamily l f
  pub full : IsFull l f.parent
  pub still : AllByRecursion (StandsForItself W l) f.children

pub left_is : (W : NodeId → Bool) (l : ℕ) (g : Group) (f : Family l) → IsOf W l g f → Ready W l f → group_left g ≡ bare (placed_left l f)
left_is W l g f o r = rw (o.node, o.changes) (family_left W l f r.family r.full.1 r.still)

nodes_are : (W : NodeId → Bool) (l : ℕ) (g : Group) (f : Family l) → IsOf W l g f → Ready W l f → group_nodes g ≡ map {B = ℕ × InnerNode} (inside inner_of) (bodies_left l f)
nodes_are W l g f o r =
    ap (λ n. nodes_left n (group_left g)) o.low ∙ ap (nodes_left f.parent.low) (left_is W l g f o r) ∙ sym (left_bare f.parent.low (placed_left l f))

heads_are : (l : ℕ) (ids : List NodeId) (ps : List (ℕ × Body (suc l))) → cells_at ids (map {B = ℕ × InnerNode} (inside inner_of) ps) ≡ own_cells l ids ps
heads_are l [] ps = refl
heads_are l (id ∷ ids) [] = refl
heads_are l (id ∷ ids) (p ∷ ps) = ap (λ cs. (id, node_of (suc l) p.1) ∷ cs) (heads_are l ids ps)

pieces_are : {B : Type 0} (h : B → InnerNode) (ids : List NodeId) (ps : List (ℕ × B)) → named_pieces ids (map {B = ℕ × InnerNode} (inside h) ps) ≡ bare (with_ids ids ps)
pieces_are h [] ps = refl
pieces_are h (id ∷ ids) [] = refl
pieces_are h (id ∷ ids) (p ∷ ps) = ap (λ qs. record { low = p.0; id = id } ∷ qs) (pieces_are h ids ps)

small_is : (W : NodeId → Bool) (l : ℕ) (g : Group) (f : Family l) → IsOf W l g f → Ready W l f → is_small LEAST_CHILDREN (group_left g) ≡ is_small LEAST_CHILDREN (placed_left l f)
small_is W l g f o r =
    ap (is_small LEAST_CHILDREN) (left_is W l g f o r)
    ∙ small-map {B = Piece} (λ (child : ℕ × Placed l). record { low = child.0; id = child.1.0 }) LEAST_CHILDREN (placed_left l f)

-- A family under its group's ids.
abbrev pub given : {l : ℕ} → Family l → List NodeId → Family l
given f ids = record { parent = f.parent; children = f.children; ids = ids }

one_before : (W : NodeId → Bool) (l : ℕ) (g : Group) (f : Family l) → IsOf W l g f → is_worked W l f ≡ true → nodes_before W l (given f g.ids) ≡ cells_before g
one_before W l g f o h = rw (h, o.id, o.node) refl

one_removed : (W : NodeId → Bool) (l : ℕ) (g : Group) (f : Family l) → IsOf W l g f → Ready W l f → removed_node l (given f g.ids) ≡ removed_cell g
one_removed W l g f o r =
    let node : inner_over (group_left g) ≡ inner_of (placed_left l f) = ap inner_over (left_is W l g f o r) ∙ inner_bare (placed_left l f) in
    rw (small_is W l g f o r, node, o.id) refl

one_after : (W : NodeId → Bool) (l : ℕ) (g : Group) (f : Family l) → IsOf W l g f → Ready W l f → is_worked W l f ≡ true → nodes_after W l (given f g.ids) ≡ cells_after g
one_after W l g f o r h =
    ap (λ b. cond b (own_cells l g.ids (bodies_left l f) ++ removed_node l f) []) h
    ∙ ap (λ cs. cs ++ removed_node l f) (sym (heads_are l g.ids (bodies_left l f)) ∙ ap (cells_at g.ids) (sym (nodes_are W l g f o r)))
    ∙ ap (λ cs. cells_at g.ids (group_nodes g) ++ cs) (one_removed W l g f o r)

one_change : (W : NodeId → Bool) (l : ℕ) (g : Group) (f : Family l) → IsOf W l g f → Ready W l f → is_worked W l f ≡ true → change_of (suc l) (result_after W l (given f g.ids)) ≡ group_change g
one_change W l g f o r h =
    let p : bare (with_ids g.ids (bodies_left l f)) ≡ named_pieces g.ids (group_nodes g) = sym (pieces_are inner_of g.ids (bodies_left l f)) ∙ ap (named_pieces g.ids) (sym (nodes_are W l g f o r)) in
    rw (h, p, ← o.id, ← o.path) refl

one_kept : (W : NodeId → Bool) (l : ℕ) (g : Group) (f : Family l) → IsOf W l g f → Ready W l f → is_worked W l f ≡ true → map removed_of (kept_after W l (given f g.ids)) ≡ group_removed (suc (suc l)) g
one_kept W l g f o r h = rw (h, small_is W l g f o r, o.id) (by (is_small LEAST_CHILDREN (placed_left l f)))
  where
    by : (b : Bool) → map removed_of (cond b (record { below = suc l; place = (f.parent.place.0, node_over (placed_left l f)) } ∷ []) []) ≡ cond b (record { level = suc (suc l); id = f.parent.place.0 } ∷ []) []
    by true = refl
    by false = refl

-- The groups are the touched families', in order.
pub data Aligned (W : NodeId → Bool) (l : ℕ) : List (Family l) → List Group → List (Family l) → Type 0 where
  none : Aligned W l [] [] []
  other : {fs fs' : List (Family l)} {gs : List Group} (f : Family l) → is_worked W l f ≡ false → Aligned W l fs gs fs' → Aligned W l (f ∷ fs) gs (f ∷ fs')
  this : {fs fs' : List (Family l)} {gs : List Group} (f : Family l) (g : Group) → is_worked W l f ≡ true → IsOf W l g f → Aligned W l fs gs fs' → Aligned W l (f ∷ fs) (g ∷ gs) (given f g.ids ∷ fs')

-- What the alignment comes to.
pub record Matched (W : NodeId → Bool) (l : ℕ) (fs : List (Family l)) (gs : List Group) (fs' : List (Family l)) : Type 0 where
  pub parents : map (λ f. f.parent) fs' ≡ map (λ f. f.parent) fs
  pub children : flat_map (λ f. f.children) fs' ≡ flat_map (λ f. f.children) fs
  pub families : AllByRecursion (IsFamily l) fs'
  pub full : AllByRecursion (λ f. IsFull l f.parent) fs'
  pub ids : AllByRecursion (HasIds W l) fs'
  pub before_is : flat_map (nodes_before W l) fs' ≡ flat_map cells_before gs
  pub after_is : flat_map (nodes_after W l) fs' ≡ flat_map cells_after gs
  pub nodes : map (change_of (suc l)) (filter (is_hit W (suc l)) (map (result_after W l) fs')) ≡ map group_change gs
  pub gone : map removed_of (flat_map (kept_after W l) fs') ≡ flat_map (group_removed (suc (suc l))) gs

many_ids : (W : NodeId → Bool) (l : ℕ) (g : Group) (f : Family l) → IsOf W l g f → Ready W l f → length g.ids ≡ length (bodies_left l f)
many_ids W l g f o r = o.many ∙ ap length (nodes_are W l g f o r) ∙ length-map' {B = ℕ × InnerNode} (inside inner_of) (bodies_left l f)

pub matched : (W : NodeId → Bool) (l : ℕ) (fs : List (Family l)) (gs : List Group) (fs' : List (Family l)) → Aligned W l fs gs fs' → AllByRecursion (Ready W l) fs → Matched W l fs gs fs'
matched W l _ _ _ none r = record { parents = refl; children = refl; families = tt; full = tt; ids = tt; before_is = refl; after_is = refl; nodes = refl; gone = refl }
matched W l _ _ _ (other {fs} {fs'} {gs} f h a) r =
    let m = matched W l fs gs fs' a r.1 in
    record {
      parents = ap (λ ps. f.parent ∷ ps) m.parents;
      children = ap (λ ks. f.children ++ ks) m.children;
      families = (r.0.family, m.families);
      full = (r.0.full, m.full);
      ids = ((λ t. absurd (cc)), m.ids);
      before_is = rw h m.before_is;
      after_is = rw h m.after_is;
      nodes = rw h m.nodes;
      gone = rw h m.gone;
    }
matched W l _ _ _ (this {fs} {fs'} {gs} f g h o a) r =
    let m = matched W l fs gs fs' a r.1 in
    let c : change_of (suc l) (result_after W l (given f g.ids)) ∷ map (change_of (suc l)) (filter (is_hit W (suc l)) (map (result_after W l) fs')) ≡ group_change g ∷ map group_change gs = ap (λ x. x ∷ map (change_of (suc l)) (filter (is_hit W (suc l)) (map (result_after W l) fs'))) (one_change W l g f o r.0 h) ∙ ap (λ xs. group_change g ∷ xs) m.nodes in
    record {
      parents = ap (λ ps. f.parent ∷ ps) m.parents;
      children = ap (λ ks. f.children ++ ks) m.children;
      families = (r.0.family, m.families);
      full = (r.0.full, m.full);
      ids = ((λ t. many_ids W l g f o r.0), m.ids);
      before_is = ap (λ cs. cs ++ flat_map (nodes_before W l) fs') (one_before W l g f o h) ∙ ap (λ cs. cells_before g ++ cs) m.before_is;
      after_is = ap (λ cs. cs ++ flat_map (nodes_after W l) fs') (one_after W l g f o r.0 h) ∙ ap (λ cs. cells_after g ++ cs) m.after_is;
      nodes = ap (λ b. map (change_of (suc l)) (cond b (result_after W l (given f g.ids) ∷ filter (is_hit W (suc l)) (map (result_after W l) fs')) (filter (is_hit W (suc l)) (map (result_after W l) fs')))) h ∙ c;
      gone = map-append removed_of (kept_after W l (given f g.ids)) (flat_map (kept_after W l) fs') ∙ ap (λ rs. rs ++ map removed_of (flat_map (kept_after W l) fs')) (one_kept W l g f o r.0 h) ∙ ap (λ rs. group_removed (suc (suc l)) g ++ rs) m.gone;
    }

-- The level's work by ids, from level to level.
pub run_stands : (d l : ℕ) (root : Site (raised l (suc d))) (W : NodeId → Bool) (rest : List Cell) (m m' : NodeId → Option Node) (seen seen' : Changes) (st : Stands (suc d) l root W rest m seen) (fs fs' : List (Family l)) (gs : List Group)
    → map (λ f. f.parent) fs ≡ sites_at d (suc l) root → flat_map (λ f. f.children) fs ≡ st.results → AllByRecursion (Ready W l) fs → Aligned W l fs gs fs'
    → Turns m m' (flat_map cells_before gs) (flat_map cells_after gs) → seen' ≡ record { nodes = map group_change gs; loose = seen.loose; removed = seen.removed ++ flat_map (group_removed (suc (suc l))) gs }
    → Stands d (suc l) root W rest m' seen'
run_stands d l root W rest m m' seen seen' st fs fs' gs ps ks r a t e =
    let x = matched W l fs gs fs' a r in
    let w : Worked d l root W st.results m m' fs' = record {
      parents = x.parents ∙ ps;
      children = x.children ∙ ks;
      own = x.families;
      ids = x.ids;
      full = x.full;
      turned = subst (λ cs. Turns m m' cs (flat_map (nodes_after W l) fs')) (sym x.before_is) (subst (λ cs. Turns m m' (flat_map cells_before gs) cs) (sym x.after_is) t);
    } in
    let done = level_stands d l root W rest m m' seen st fs' w in
    let same : ◌≡◌ {A = Changes} (record { nodes = map (change_of (suc l)) (filter (is_hit W (suc l)) (map (result_after W l) fs')); loose = seen.loose; removed = seen.removed ++ map removed_of (flat_map (kept_after W l) fs') }) seen' =
    (λ i. record { nodes = x.nodes i; loose = seen.loose; removed = seen.removed ++ x.gone i }) ∙ sym e in
    subst (Stands d (suc l) root W rest m') same done
