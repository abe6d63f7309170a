-- Steps of taking a node out of a map with all that is under it.
use Rattle.std.proofs.Common.{◌≡◌, ◌<◌, ◌≤◌, ◌+◌, ◌-◌, ℕ, zero, suc, List, [], ◌∷◌, ◌++◌, length, map, take, drop, get_or, refl, sym, ap, ◌∙◌, arith, subst, append_assoc, Some, add-one}
use Rattle.std.specs.Prelude.{Option, IsSome}
use Rattle.std.specs.List.{flat_map}
use Rattle.std.proofs.lemmas.List.{append-nil, drop_all, take_all}
use Rattle.std.proofs.lemmas.List.Concat.{flat_map-append}
use Rattle.std.proofs.Math.Seq.{drop-cons, take-suc}
use Rattle.std.specs.List.Sorted.{IsPermutation, IsNonDecreasingBy}
use Rattle.std.proofs.lemmas.List.Sorted.{IsPermutation-trans, IsPermutation-sym}
use Rattle.palm_base.specs.Tree.{rows_in, Subtree}
use Rattle.palm_base.specs.Table.{row_key}
use Rattle.palm_base.specs.Pass.{orphans_of}
use Rattle.palm_base.proofs.OrphanSorts.{any_sort_makes_the_orphans}
use Rattle.palm_node.specs.declared.change.Changes.{Changes}
use Rattle.palm_arena.specs.Passes.{Pass, IsPass, outcome_of}
use Rattle.palm_base.specs.declared.row.Row.{Row}
use Rattle.palm_node.specs.InnerNode.{InnerNode}
use Rattle.palm_node.specs.declared.id.NodeId.{NodeId}
use Rattle.palm_node.specs.declared.node.Node.{Node}
use Rattle.palm_node.specs.declared.node.Node.TheVariants.{Leaf, Inner}
use Rattle.palm_node.proofs.SameNodes.{inner_same}
use Rattle.palm_arena.specs.ArenaState.{ArenaState, with_place, NoneLent}
use Rattle.palm_arena.specs.declared.place.Place.TheVariants.{Empty}
use Rattle.palm_arena.specs.Cells.{Cell, Owns, Turns}
use Rattle.palm_arena.specs.Placed.{Body, Placed, value_in, value_of, cells_of, node_of, ids_of_children}
use Rattle.palm_arena.specs.Routes.{separators_of}
use Rattle.palm_arena.specs.Standing.{Kept, kept_cells, kept_rows, removed_of}
use Rattle.palm_node.specs.declared.change.Removed.{Removed}
use Rattle.palm_arena.proofs.ListParts.{flat_map'}
use Rattle.palm_arena.proofs.Natural.{length-map'}
use Rattle.palm_arena.proofs.Standing.{none_lent_after_put}
use Rattle.palm_arena.proofs.CellLists.{owned_front, owned_same, same_pass}
use Rattle.palm_root.specs.Sweeps.{StandsIn, IsSwept, IsHalfSwept, AreSwept, HoldsRemoved, children_in, kept_children}

-- ---- a node's own cell, and those of its children

cells_split : (n : ℕ) (placed : Placed n) → cells_of n placed ≡ (placed.0, node_of n placed.1) ∷ flat_map kept_cells (children_in n placed.1)
cells_split zero placed = refl
cells_split (suc n) placed = ap (λ cs. (placed.0, node_of (suc n) placed.1) ∷ cs) (sym (flat_map' {Y = Kept} (λ (child : ℕ × Placed n). record { below = n; place = child.1 }) kept_cells placed.1))

rows_split : (n : ℕ) (placed : Placed n) → 0 < n → rows_in n (value_in n placed.1) ≡ flat_map kept_rows (children_in n placed.1)
rows_split zero placed some = absurd (omega arith)
rows_split (suc n) placed some =
    flat_map' {Y = ℕ × Subtree n} (λ (child : ℕ × Placed n). (child.0, value_in n child.1.1)) (λ child. rows_in n child.1) placed.1
    ∙ sym (flat_map' {Y = Kept} (λ (child : ℕ × Placed n). record { below = n; place = child.1 }) kept_rows placed.1)

split_owned : (nodes : NodeId → Option Node) (below : ℕ) (id : NodeId) (kept : Kept) (others : List Cell) → StandsIn nodes below id kept others
    → Owns nodes ((id, node_of kept.below kept.place.1) ∷ (flat_map kept_cells (kept_children kept) ++ others))
split_owned nodes below id kept others stands =
    subst (λ i. Owns nodes ((i, node_of kept.below kept.place.1) ∷ (flat_map kept_cells (kept_children kept) ++ others))) stands.id-is (subst (λ cs. Owns nodes (cs ++ others)) (cells_split kept.below kept.place) stands.owned)

-- ---- what is read

pub stands_there : (nodes : NodeId → Option Node) (below : ℕ) (id : NodeId) (kept : Kept) (others : List Cell) → StandsIn nodes below id kept others → nodes id ≡ Some (node_of kept.below kept.place.1)
stands_there nodes below id kept others stands = (owned_front nodes id (node_of kept.below kept.place.1) (flat_map kept_cells (kept_children kept) ++ others) (split_owned nodes below id kept others stands)).0

pub held : (nodes : NodeId → Option Node) (below : ℕ) (id : NodeId) (kept : Kept) (others : List Cell) → StandsIn nodes below id kept others → IsSome (nodes id)
held nodes below id kept others stands = subst IsSome (sym (stands_there nodes below id kept others stands)) refl

-- A leaf has nothing below it, and its rows are the node's.
leaf_is : (n : ℕ) (body : Body n) (rows : List Row) → ◌≡◌ {A = Option Node} (Some (Leaf rows)) (Some (node_of n body)) → (n ≡ 0) × (rows ≡ rows_in n (value_in n body)) × (children_in n body ≡ [])
leaf_is zero body rows e = (refl, (let q : Leaf rows ≡ Leaf body = cc in cc), refl)
leaf_is (suc n) body rows e = absurd cc

-- An inner node has something below it, and its children are the node's.
inner_is : (n : ℕ) (body : Body n) (inner : InnerNode) → ◌≡◌ {A = Option Node} (Some (Inner inner)) (Some (node_of n body)) → (0 < n) × (inner.children ≡ map (λ child. child.place.0) (children_in n body))
inner_is zero body inner e = absurd cc
inner_is (suc n) body inner e = (omega arith, ap (λ (i : InnerNode). i.children) (inner_same inner (record { children = ids_of_children body; separators = separators_of body }) (Some (Inner inner)) refl e) ∙ named body)
  where
    named : (body : List (ℕ × Placed n)) → ids_of_children body ≡ map (λ (child : Kept). child.place.0) (map {B = Kept} (λ child. record { below = n; place = child.1 }) body)
    named [] = refl
    named (child ∷ children) = ap (λ ids. child.1.0 ∷ ids) (named children)

pub leaf_read : (nodes : NodeId → Option Node) (below : ℕ) (id : NodeId) (kept : Kept) (others : List Cell) (rows : List Row) → StandsIn nodes below id kept others → nodes id ≡ Some (Leaf rows)
    → (rows ≡ kept_rows kept) × Owns nodes ((id, Leaf rows) ∷ others)
leaf_read nodes below id kept others rows stands read =
    let same = sym read ∙ stands_there nodes below id kept others stands in
    let is = leaf_is kept.below kept.place.1 rows same in
    (is.1, subst (λ node. Owns nodes ((id, node) ∷ others)) (unwrapped (node_of kept.below kept.place.1) (Leaf rows) same) (subst (λ ks. Owns nodes ((id, node_of kept.below kept.place.1) ∷ (flat_map kept_cells ks ++ others))) is.2 (split_owned nodes below id kept others stands)))
  where
    unwrapped : (a b : Node) → ◌≡◌ {A = Option Node} (Some b) (Some a) → a ≡ b
    unwrapped a b e = cc

pub inner_read : (nodes : NodeId → Option Node) (below : ℕ) (id : NodeId) (kept : Kept) (others : List Cell) (inner : InnerNode) → StandsIn nodes below id kept others → nodes id ≡ Some (Inner inner)
    → (0 < below) × (inner.children ≡ map (λ child. child.place.0) (kept_children kept))
inner_read nodes below id kept others inner stands read =
    let is = inner_is kept.below kept.place.1 inner (sym read ∙ stands_there nodes below id kept others stands) in
    (subst (λ n. 0 < n) stands.below-is is.0, is.1)

-- ---- a leaf is dropped

pub leaf_dropped : (nodes later : NodeId → Option Node) (below : ℕ) (id : NodeId) (before after : List Row) (kept : Kept) (others : List Cell) (rows : List Row) → StandsIn nodes below id kept others → nodes id ≡ Some (Leaf rows)
    → after ≡ before ++ rows → Turns nodes later ((id, Leaf rows) ∷ []) [] → IsSwept later before after kept others
leaf_dropped nodes later below id before after kept others rows stands read e turns =
    let is = leaf_read nodes below id kept others rows stands read in
    record { owned = turns others is.1; rows = e ∙ ap (λ rs. before ++ rs) is.0 }

-- ---- the children go, one after another

pub half_none : (nodes : NodeId → Option Node) (before : List Row) (below : ℕ) (id : NodeId) (kept : Kept) (others : List Cell) → StandsIn nodes below id kept others → IsHalfSwept nodes before before kept others 0
half_none nodes before below id kept others stands = record {
  owned = subst (λ i. Owns nodes ((i, node_of kept.below kept.place.1) ∷ (flat_map kept_cells (kept_children kept) ++ others))) (sym stands.id-is) (split_owned nodes below id kept others stands);
  rows = sym (append-nil before);
}

child_levels : (n : ℕ) (body : Body n) (i : ℕ) (d : Kept) → i < length (children_in n body) → suc (get_or (children_in n body) i d).below ≡ n
child_levels zero body i d l = absurd (omega arith)
child_levels (suc n) body i d l = go body i l
  where
    go : (body : List (ℕ × Placed n)) (i : ℕ) → i < length (map {B = Kept} (λ child. record { below = n; place = child.1 }) body) → suc (get_or (map {B = Kept} (λ child. record { below = n; place = child.1 }) body) i d).below ≡ suc n
    go [] i l = absurd (omega arith)
    go (x ∷ xs) zero l = refl
    go (x ∷ xs) (suc i) l = go xs i (omega arith)

-- The node itself, with its later children, beside others.
abbrev pub beside : Kept → List Cell → ℕ → List Cell
beside kept others i = (kept.place.0, node_of kept.below kept.place.1) ∷ (flat_map kept_cells (drop (suc i) (kept_children kept)) ++ others)

-- The next child stands, with all else beside it.
pub half_next : (nodes : NodeId → Option Node) (before now : List Row) (kept : Kept) (others : List Cell) (below i : ℕ) (id : NodeId) (d : Kept) → i < length (kept_children kept) → kept.below ≡ below → id ≡ (get_or (kept_children kept) i d).place.0
    → IsHalfSwept nodes before now kept others i → StandsIn nodes (below - 1) id (get_or (kept_children kept) i d) (beside kept others i)
half_next nodes before now kept others below i id d l e is half =
    let child = get_or (kept_children kept) i d in
    let level = child_levels kept.below kept.place.1 i d l in
    let cut = drop-cons (kept_children kept) i d l in
    let own : Owns nodes ((kept.place.0, node_of kept.below kept.place.1) ∷ ((kept_cells child ++ flat_map kept_cells (drop (suc i) (kept_children kept))) ++ others)) = subst (λ ks. Owns nodes ((kept.place.0, node_of kept.below kept.place.1) ∷ (flat_map kept_cells ks ++ others))) cut half.owned in
    record {
      below-is = omega arith;
      id-is = sym is;
      owned =
          owned_same nodes ((kept.place.0, node_of kept.below kept.place.1) ∷ (kept_cells child ++ (flat_map kept_cells (drop (suc i) (kept_children kept)) ++ others))) (kept_cells child ++ beside kept others i)
          (subst (λ cs. Owns nodes ((kept.place.0, node_of kept.below kept.place.1) ∷ cs)) (append_assoc (kept_cells child) (flat_map kept_cells (drop (suc i) (kept_children kept))) others) own)
          (same_pass ((kept.place.0, node_of kept.below kept.place.1) ∷ []) (kept_cells child) (flat_map kept_cells (drop (suc i) (kept_children kept)) ++ others));
    }

-- And it is gone.
pub half_more : (later : NodeId → Option Node) (before now after : List Row) (kept : Kept) (others : List Cell) (i : ℕ) (d : Kept) → i < length (kept_children kept) → now ≡ before ++ flat_map kept_rows (take i (kept_children kept))
    → IsSwept later now after (get_or (kept_children kept) i d) (beside kept others i) → IsHalfSwept later before after kept others (i + 1)
half_more later before now after kept others i d l e swept =
    let child = get_or (kept_children kept) i d in
    let more : flat_map kept_rows (take (suc i) (kept_children kept)) ≡ flat_map kept_rows (take i (kept_children kept)) ++ kept_rows child =
    ap (flat_map kept_rows) (take-suc (kept_children kept) i d l) ∙ flat_map-append kept_rows (take i (kept_children kept)) (child ∷ []) ∙ ap (λ rs. flat_map kept_rows (take i (kept_children kept)) ++ rs) (append-nil (kept_rows child)) in
    record {
      owned = rw (add-one i) swept.owned;
      rows = rw (add-one i) (swept.rows ∙ ap (λ rs. rs ++ kept_rows child) e ∙ append_assoc before (flat_map kept_rows (take i (kept_children kept))) (kept_rows child) ∙ ap (λ rs. before ++ rs) (sym more));
    }

-- The node itself stands until the last.
pub half_held : (nodes : NodeId → Option Node) (before after : List Row) (kept : Kept) (others : List Cell) (id : NodeId) (i : ℕ) → kept.place.0 ≡ id → IsHalfSwept nodes before after kept others i
    → nodes id ≡ Some (node_of kept.below kept.place.1)
half_held nodes before after kept others id i e half =
    subst (λ j. nodes j ≡ Some (node_of kept.below kept.place.1)) e (owned_front nodes kept.place.0 (node_of kept.below kept.place.1) (flat_map kept_cells (drop i (kept_children kept)) ++ others) half.owned).0

-- It goes last.
pub half_last : (nodes later : NodeId → Option Node) (before after : List Row) (kept : Kept) (others : List Cell) (id : NodeId) (i : ℕ) → kept.place.0 ≡ id → 0 < kept.below → length (kept_children kept) ≤ i → IsHalfSwept nodes before after kept others i
    → Turns nodes later ((id, node_of kept.below kept.place.1) ∷ []) [] → IsSwept later before after kept others
half_last nodes later before after kept others id i e some n half turns = record {
  owned = turns others (subst (λ j. Owns nodes ((j, node_of kept.below kept.place.1) ∷ others)) e (subst (λ ks. Owns nodes ((kept.place.0, node_of kept.below kept.place.1) ∷ (flat_map kept_cells ks ++ others))) (drop_all i (kept_children kept) n) half.owned));
  rows = half.rows ∙ ap (λ ks. before ++ flat_map kept_rows ks) (take_all i (kept_children kept) n) ∙ ap (λ rs. before ++ rs) (sym (rows_split kept.below kept.place some));
}

-- ---- a loop over the ids of the children

get_map : (children : List Kept) (i : ℕ) (id : NodeId) (d : Kept) → i < length children → get_or (map (λ child. child.place.0) children) i id ≡ (get_or children i d).place.0
get_map [] i id d l = absurd (omega arith)
get_map (child ∷ children) zero id d l = refl
get_map (child ∷ children) (suc i) id d l = get_map children i id d (omega arith)

pub child_id : (kept : Kept) (ids : List NodeId) (i : ℕ) (d : Kept) (id : NodeId) → ids ≡ map (λ child. child.place.0) (kept_children kept) → i < length ids → (get_or ids i id ≡ (get_or (kept_children kept) i d).place.0) × (i < length (kept_children kept))
child_id kept ids i d id is l =
    let m : length ids ≡ length (kept_children kept) = ap length is ∙ length-map' (λ (child : Kept). child.place.0) (kept_children kept) in
    (ap (λ is. get_or is i id) is ∙ get_map (kept_children kept) i id d (omega arith), omega arith)

pub children_over : (kept : Kept) (ids : List NodeId) (i : ℕ) → ids ≡ map (λ child. child.place.0) (kept_children kept) → length ids ≤ i → length (kept_children kept) ≤ i
children_over kept ids i is l = let m : length ids ≡ length (kept_children kept) = ap length is ∙ length-map' (λ (child : Kept). child.place.0) (kept_children kept) in omega arith

-- ---- what dropping a node does

pub gone_home : (old new : ArenaState) (id : NodeId) → new ≡ record old { places = with_place old.places id Empty } → NoneLent old.places → NoneLent new.places
gone_home old new id e home = subst (λ (a : ArenaState). NoneLent a.places) (sym e) (none_lent_after_put old.places id Empty (λ e. cc) home)

-- ---- removed nodes go, one after another

pub swept_next : (nodes : NodeId → Option Node) (before now : List Row) (kept : List Kept) (others : List Cell) (i : ℕ) (removed : Removed) (d : Kept) → i < length kept → removed ≡ removed_of (get_or kept i d)
    → AreSwept nodes before now kept others i → StandsIn nodes (removed.level - 1) removed.id (get_or kept i d) (flat_map kept_cells (drop (suc i) kept) ++ others)
swept_next nodes before now kept others i removed d l e swept =
    let this = get_or kept i d in
    let level : removed.level ≡ suc this.below = ap (λ (r : Removed). r.level) e in
    record {
      below-is = omega (arith, level);
      id-is = sym (ap (λ (r : Removed). r.id) e);
      owned = subst (Owns nodes) (append_assoc (kept_cells this) (flat_map kept_cells (drop (suc i) kept)) others) (subst (λ ks. Owns nodes (flat_map kept_cells ks ++ others)) (drop-cons kept i d l) swept.owned);
    }

pub swept_more : (later : NodeId → Option Node) (before now after : List Row) (kept : List Kept) (others : List Cell) (i : ℕ) (d : Kept) → i < length kept → now ≡ before ++ flat_map kept_rows (take i kept)
    → IsSwept later now after (get_or kept i d) (flat_map kept_cells (drop (suc i) kept) ++ others) → AreSwept later before after kept others (i + 1)
swept_more later before now after kept others i d l e swept =
    let this = get_or kept i d in
    let more : flat_map kept_rows (take (suc i) kept) ≡ flat_map kept_rows (take i kept) ++ kept_rows this =
    ap (flat_map kept_rows) (take-suc kept i d l) ∙ flat_map-append kept_rows (take i kept) (this ∷ []) ∙ ap (λ rs. flat_map kept_rows (take i kept) ++ rs) (append-nil (kept_rows this)) in
    record {
      owned = rw (add-one i) swept.owned;
      rows = rw (add-one i) (swept.rows ∙ ap (λ rs. rs ++ kept_rows this) e ∙ append_assoc before (flat_map kept_rows (take i kept)) (kept_rows this) ∙ ap (λ rs. before ++ rs) (sym more));
    }

-- The removed node at a place is the one that the changes name.
pub removed_at : (removed : List Removed) (kept : List Kept) (i : ℕ) (r : Removed) (d : Kept) → removed ≡ map removed_of kept → i < length removed → (i < length kept) × (get_or removed i r ≡ removed_of (get_or kept i d))
removed_at removed kept i r d e l =
    let m : length removed ≡ length kept = ap length e ∙ length-map' removed_of kept in
    (omega arith, ap (λ rs. get_or rs i r) e ∙ named kept i (omega arith))
  where
    named : (kept : List Kept) (i : ℕ) → i < length kept → get_or (map removed_of kept) i r ≡ removed_of (get_or kept i d)
    named [] i l = absurd (omega arith)
    named (k ∷ ks) zero l = refl
    named (k ∷ ks) (suc i) l = named ks i (omega arith)

pub swept_all : (nodes : NodeId → Option Node) (before after : List Row) (removed : List Removed) (kept : List Kept) (others : List Cell) (i : ℕ) → removed ≡ map removed_of kept → i ≡ length removed → AreSwept nodes before after kept others i → AreSwept nodes before after kept others (length kept)
swept_all nodes before after removed kept others i e l swept = subst (AreSwept nodes before after kept others) (l ∙ ap length e ∙ length-map' removed_of kept) swept

-- ---- the rows in order

-- No removed node is gone yet.
pub swept_none : (loose : List Row) (others : List Cell) (nodes : NodeId → Option Node) (changes : Changes) (before : List Row) (holds : HoldsRemoved loose others nodes changes) → AreSwept nodes before before holds.kept others 0
swept_none loose others nodes changes before holds = record { owned = holds.owned; rows = sym (append-nil before) }

-- All are gone.
pub swept_owned : (later : NodeId → Option Node) (before after : List Row) (kept : List Kept) (others : List Cell) → AreSwept later before after kept others (length kept) → Owns later others
swept_owned later before after kept others swept = subst (λ ks. Owns later (flat_map kept_cells ks ++ others)) (drop_all (length kept) kept (omega arith)) swept.owned

-- Their rows, with the loose ones, in whatever order of their keys, are the orphans.
pub sorted_orphans : (p : Pass) (others : List Cell) (nodes later : NodeId → Option Node) (changes : Changes) (before after sorted : List Row) → IsPass p → (holds : HoldsRemoved (outcome_of p).loose others nodes changes) → before ≡ changes.loose
    → AreSwept later before after holds.kept others (length holds.kept) → IsPermutation after sorted → IsNonDecreasingBy row_key sorted → sorted ≡ orphans_of (value_of p.tree) p.edits
sorted_orphans p others nodes later changes before after sorted is holds e swept same order =
    let kept = holds.kept in
    let all : after ≡ changes.loose ++ flat_map kept_rows kept = swept.rows ∙ ap (λ ks. before ++ flat_map kept_rows ks) (take_all (length kept) kept (omega arith)) ∙ ap (λ rs. rs ++ flat_map kept_rows kept) e in
    let loose : IsPermutation (outcome_of p).loose after = IsPermutation-sym after (outcome_of p).loose (subst (λ rs. IsPermutation rs (outcome_of p).loose) (sym all) holds.loose-are) in
    sym (any_sort_makes_the_orphans (value_of p.tree) p.edits sorted is.lawful (IsPermutation-trans (outcome_of p).loose after sorted loose same) order)

-- What was written back into a list of the same length.
pub written_back : {X : Type 0} (n : ℕ) (xs ys : List X) → length ys ≡ n → length xs ≡ length ys → take n (xs ++ drop (length xs) ys) ≡ xs
written_back n xs ys m l = ap (λ zs. take n (xs ++ zs)) (drop_all (length xs) ys (omega arith)) ∙ ap (take n) (append-nil xs) ∙ take_all n xs (omega arith)
