-- A root whose children each stand for themselves stays as it is.
use Rattle.std.proofs.Common.{◌≡◌, ℕ, zero, suc, ◌+◌, ◌-◌, ◌*◌, ◌<◌, ◌≤◌, Bool, true, false, cond, ◌||◌, List, [], ◌∷◌, ◌++◌, length, map, get_or, Option, Some, None, refl, sym, ap, subst, arith, ◌∙◌, inl, inr, eq-eqb, eqb-true}
use Rattle.std.specs.Prelude.{MatchOption}
use Rattle.std.specs.List.{filter, flat_map, list_any, AllByRecursion}
use Rattle.std.proofs.lemmas.List.{append-nil}
use Rattle.std.proofs.lemmas.Bool.{lt-ltb, le-ltb}
use Rattle.std.proofs.lemmas.Bool.{and_parts}
use Rattle.palm_base.specs.Lawful.{next_low, Root}
use Rattle.palm_base.specs.declared.bounds.TheConstants.{MOST_CHILDREN}
use Rattle.palm_node.specs.InnerNode.{InnerNode}
use Rattle.palm_node.specs.declared.id.NodeId.{NodeId}
use Rattle.palm_node.specs.declared.id.Piece.{Piece}
use Rattle.palm_node.specs.declared.node.Node.{Node}
use Rattle.palm_node.specs.declared.node.Node.TheVariants.{Inner}
use Rattle.palm_node.specs.declared.change.Change.{Change}
use Rattle.palm_node.proofs.SameNodes.{inner_same}
use Rattle.palm_node.specs.declared.change.Changes.{Changes}
use Rattle.palm_arena.specs.declared.shape.Shape.{Shape}
use Rattle.palm_arena.specs.Placed.{Placed, PlacedTree, value_in, value_of, values, bare}
use Rattle.palm_arena.specs.Sites.{Site, sites_below}
use Rattle.palm_arena.specs.Standing.{is_touched, untouched_cells, untouched_at, Result, is_hit, StandsForItself, change_of}
use Rattle.palm_arena.specs.Passes.{Pass, is_among, IsRepaired, untouched_in}
use Rattle.palm_arena.proofs.Natural.{length-map'}
use Rattle.palm_arena.proofs.Keeping.{same_id}
use Rattle.palm_arena.proofs.OwnedTrees.{values_length, first_value}
use Rattle.palm_level.proofs.Families.{passed_all}
use Rattle.palm_level.specs.Families.{Family, IsFamily, pieces_under}
use Rattle.palm_level.specs.Groups.{is_alone, is_still}
use Rattle.palm_level.specs.Splices.{PlacesRise, children_left}
use Rattle.palm_level.proofs.Bare.{own, changes_in, flat_bare, family_own, family_left, family_places, family_steps, inner_of, StepsFrom}
use Rattle.std.specs.Prelude.{sum_by}
use Rattle.std.proofs.lemmas.List.Sums.{sum_by-cons}
use Rattle.std.specs.Prelude.{IsSome}
use Rattle.palm_base.specs.declared.bounds.TheConstants.{MOST_LEVELS}
use Rattle.palm_base.specs.Cut.{piece_count}
use Rattle.palm_base.proofs.LevelCounts.{lawful_trees_are_low}
use Rattle.palm_base.proofs.Lows.{prefixes_in}
use Rattle.palm_arena.specs.ArenaState.{ArenaState, node_at, with_place}
use Rattle.palm_arena.specs.Reads.{map_of}
use Rattle.palm_arena.specs.Cells.{Cell, Turns, HasCells}
use Rattle.palm_arena.proofs.LevelCells.{sites_children}
use Rattle.palm_arena.proofs.Untouched.{has_last, under_sites}
use Rattle.palm_arena.specs.declared.place.Place.TheVariants.{Empty}
use Rattle.palm_level.proofs.Within.{under_more}
use Rattle.palm_level.proofs.Bounds.{more_in}
use Rattle.palm_level.proofs.Bare.{family_length}
use Rattle.palm_level.proofs.LevelEnds.{still_bare}
use Rattle.palm_level.proofs.Taking.{dropped_turns}
use Rattle.palm_arena.specs.Passes.{IsWithin}
use Rattle.palm_arena.proofs.Raised.{bare_length}
use Rattle.palm_root.specs.Roots.{StandsBelow, root_cells, HasLeft, IsFound, IsFew, IsHeadOf, HasPut, cell_at}
use Rattle.palm_root.proofs.RootLeft.{LeafRoot, InnerRoot, at_root, inner_left, inner_held, leaf_left, left_alone, left_under}

-- ---- a root leaf

one_level : (p : Pass) (nodes : NodeId → Option Node) (shape : Shape) (changes : Changes) → StandsBelow p nodes shape changes → shape.levels ≤ 1 → LeafRoot p nodes changes
one_level p nodes shape changes s one = elim (at_root p nodes shape changes s) [
  | inl leaf ↦ leaf
  | inr inner ↦ absurd (let n = ap (λ (t : PlacedTree). t.0) inner.tree-is in omega (arith, s.levels, one, n))
]

pub leaf_found : (p : Pass) (nodes : NodeId → Option Node) (shape : Shape) (changes : Changes) (left : Option (List Piece)) → StandsBelow p nodes shape changes → shape.levels ≤ 1
    → MatchOption left (is_still changes.nodes ≡ true) (IsHeadOf changes.nodes) → IsFound p nodes changes shape left
leaf_found p nodes shape changes left s one is = by found.0 (is_hit touched zero found.0) refl left is
  where
    leaf : LeafRoot p nodes changes
    leaf = one_level p nodes shape changes s one

    touched : NodeId → Bool
    touched = is_among p.routed

    found : (result : Result zero) × (leaf.stands.results ≡ result ∷ []) × (result.site ≡ leaf.root) × HasLeft p [] nodes changes 0 (bare result.pieces)
    found = leaf_left p nodes changes leaf s.stands.is-pass

    levels : shape.levels ≡ 1
    levels = let n = ap (λ (t : PlacedTree). t.0) leaf.tree-is in omega (arith, s.levels, one, n)

    root : shape.root ≡ found.0.site.place.0
    root = s.root ∙ ap (λ (t : PlacedTree). t.1.0) (sym leaf.tree-is) ∙ ap (λ (t : Site zero). t.place.0) (sym found.2)

    changed : changes.nodes ≡ map (change_of zero) (cond (is_hit touched zero found.0) (found.0 ∷ []) [])
    changed = leaf.stands.changed ∙ ap (λ rs. map (change_of zero) (filter (is_hit touched zero) rs)) found.1

    itself : is_hit touched zero found.0 ≡ false → found.0.pieces ≡ (found.0.site.low, found.0.site.place) ∷ []
    itself = (subst (AllByRecursion (StandsForItself touched zero)) found.1 leaf.stands.still).0

    untouched : HasCells nodes (untouched_in p)
    untouched =
        subst (λ (t : PlacedTree). HasCells nodes (untouched_cells touched t.0 t.1)) leaf.tree-is
        (subst (HasCells nodes) (append-nil (untouched_cells touched zero leaf.root.place)) leaf.stands.untouched)

    alone : (pieces : List Piece) → bare found.0.pieces ≡ pieces → is_alone found.0.site.place.0 pieces ≡ true → IsRepaired p nodes changes shape
    alone [] e a = absurd cc
    alone (p ∷ q ∷ ps) e a = absurd cc
    alone (piece ∷ []) e a =
        left_alone p nodes changes shape piece (subst (HasLeft p [] nodes changes 0) e found.3) (root ∙ sym (same_id piece.id found.0.site.place.0 (eqb-true piece.id.place found.0.site.place.0.place a))) levels untouched

    whole : (pieces : List Piece) → HasLeft p [] nodes changes 0 pieces → IsFound p nodes changes shape (Some pieces)
    whole pieces has = rw levels (has, untouched)

    by : (r : Result zero) (b : Bool) → is_hit touched zero found.0 ≡ b → (left : Option (List Piece)) → MatchOption left (is_still changes.nodes ≡ true) (IsHeadOf changes.nodes) → IsFound p nodes changes shape left
    by r true hit None still =
        let e : changes.nodes ≡ change_of zero found.0 ∷ [] = changed ∙ ap (λ b. map (change_of zero) (cond b (found.0 ∷ []) [])) hit in
        alone (bare found.0.pieces) refl (and_parts (is_alone found.0.site.place.0 (bare found.0.pieces)) true (sym (ap is_still e) ∙ still)).0
    by r false hit None still =
        let e : bare found.0.pieces ≡ own found.0 ∷ [] = ap bare (itself hit) in
        alone (own found.0 ∷ []) e (eq-eqb found.0.site.place.0.place found.0.site.place.0.place refl)
    by r true hit (Some pieces) (first, more, is, same) =
        let e : changes.nodes ≡ change_of zero found.0 ∷ [] = changed ∙ ap (λ b. map (change_of zero) (cond b (found.0 ∷ []) [])) hit in
        let head : first ≡ change_of zero found.0 = ap (λ (cs : List Change). get_or cs 0 first) (sym is ∙ e) in
        whole pieces (subst (HasLeft p [] nodes changes 0) (sym (same ∙ ap (λ (c : Change). c.pieces) head)) found.3)
    by r false hit (Some pieces) (first, more, is, same) =
        let e : changes.nodes ≡ [] = changed ∙ ap (λ b. map (change_of zero) (cond b (found.0 ∷ []) [])) hit in
        absurd (let no : first ∷ more ≡ [] = sym is ∙ e in cc)

-- ---- an inner root

pub more_levels : (p : Pass) (nodes : NodeId → Option Node) (shape : Shape) (changes : Changes) → StandsBelow p nodes shape changes → 1 < shape.levels → InnerRoot p nodes changes
more_levels p nodes shape changes s more = elim (at_root p nodes shape changes s) [
  | inl leaf ↦ absurd (let n = ap (λ (t : PlacedTree). t.0) leaf.tree-is in omega (arith, s.levels, more, n))
  | inr inner ↦ inner
]

-- The root's children with what became of them.
root_family : (p : Pass) (nodes : NodeId → Option Node) (changes : Changes) (at : InnerRoot p nodes changes) → Family at.n
root_family p nodes changes at = record { parent = at.root; children = at.stands.results; ids = [] }

is_family : (p : Pass) (nodes : NodeId → Option Node) (changes : Changes) (at : InnerRoot p nodes changes) → IsFamily at.n (root_family p nodes changes at)
unfolding root_family
is_family p nodes changes at = at.stands.sites ∙ append-nil (sites_below at.n at.root)

-- What stands at the root.
pub root_held : (p : Pass) (nodes : NodeId → Option Node) (shape : Shape) (changes : Changes) (s : StandsBelow p nodes shape changes) → (more : 1 < shape.levels) → nodes shape.root ≡ Some (Inner (inner_of (more_levels p nodes shape changes s more).root.place.1))
root_held p nodes shape changes s more = ap nodes s.root ∙ inner_held p nodes changes (more_levels p nodes shape changes s more)

paths_some : (touched : NodeId → Bool) (l : ℕ) (path : List (NodeId × ℕ)) (id : NodeId) (i : ℕ) (results : List (Result l)) → StepsFrom path id i (map (λ r. r.site) results) → AllByRecursion (λ (c : Change). 0 < length c.path) (changes_in touched l results)
paths_some touched l path id i [] steps = tt
paths_some touched l path id i (r ∷ rs) steps = by (is_hit touched l r) (paths_some touched l path id (suc i) rs steps.1)
  where
    some : (path : List (NodeId × ℕ)) → 0 < length (path ++ (id, i) ∷ [])
    some [] = omega arith
    some (s ∷ ss) = omega arith

    by : (b : Bool) → AllByRecursion (λ (c : Change). 0 < length c.path) (changes_in touched l rs) → AllByRecursion (λ (c : Change). 0 < length c.path) (map (change_of l) (cond b (r ∷ filter (is_hit touched l) rs) (filter (is_hit touched l) rs)))
    by true rest = (subst (λ p. 0 < length p) (sym steps.0) (some path), rest)
    by false rest = rest

pub root_paths : (p : Pass) (nodes : NodeId → Option Node) (shape : Shape) (changes : Changes) → StandsBelow p nodes shape changes → 1 < shape.levels → AllByRecursion (λ (c : Change). 0 < length c.path) changes.nodes
unfolding root_family
root_paths p nodes shape changes s more =
    let at = more_levels p nodes shape changes s more in
    subst (AllByRecursion (λ (c : Change). 0 < length c.path)) (sym at.stands.changed)
    (paths_some (is_among p.routed) at.n at.root.path at.root.place.0 0 at.stands.results (family_steps at.n (root_family p nodes changes at) (is_family p nodes changes at)))

pub root_places : (p : Pass) (nodes : NodeId → Option Node) (shape : Shape) (changes : Changes) (inner : InnerNode) → StandsBelow p nodes shape changes → 1 < shape.levels → nodes shape.root ≡ Some (Inner inner) → PlacesRise 0 (length inner.children) changes.nodes
unfolding root_family
root_places p nodes shape changes inner s more read =
    let at = more_levels p nodes shape changes s more in
    let same = inner_same (inner_of at.root.place.1) inner (nodes shape.root) (root_held p nodes shape changes s more) read in
    let count : length (inner_of at.root.place.1).children ≡ length at.root.place.1 = length-map' (λ (child : ℕ × Placed at.n). child.1.0) at.root.place.1 in
    subst (λ cs. PlacesRise 0 (length inner.children) cs) (sym at.stands.changed)
    (subst (λ (i : InnerNode). PlacesRise 0 (length i.children) (changes_in (is_among p.routed) at.n at.stands.results)) same
    (subst (λ n. PlacesRise 0 n (changes_in (is_among p.routed) at.n at.stands.results)) (sym count) (family_places (is_among p.routed) at.n (root_family p nodes changes at) (is_family p nodes changes at))))

-- What is untouched is held, whether the node itself is or not.
where_touched : (nodes : NodeId → Option Node) (own : Cell) (under : List Cell) (hit : Bool) → HasCells nodes (own ∷ under) → HasCells nodes (cond hit [] (own ∷ []) ++ under)
where_touched nodes own under true has = has_last nodes (own ∷ []) under has
where_touched nodes own under false has = has

-- Where no child is touched, no result is.
no_hits : (W : NodeId → Bool) (l : ℕ) (rs : List (Result l)) → list_any (λ (child : ℕ × Placed l). is_touched W l child.1) (map {B = ℕ × Placed l} (λ s. (s.low, s.place)) (map (λ r. r.site) rs)) ≡ false → filter (is_hit W l) rs ≡ []
no_hits W l [] none = refl
no_hits W l (r ∷ rs) none = by (is_hit W l r) (no_hits W l rs) none
  where
    later : Bool
    later = list_any (λ (child : ℕ × Placed l). is_touched W l child.1) (map {B = ℕ × Placed l} (λ s. (s.low, s.place)) (map (λ r. r.site) rs))

    by : (b : Bool) → (later ≡ false → filter (is_hit W l) rs ≡ []) → (b || later) ≡ false → cond b (r ∷ filter (is_hit W l) rs) (filter (is_hit W l) rs) ≡ []
    by true rest e = absurd cc
    by false rest e = rest e

-- A root below which something moved is touched.
root_hit : (W : NodeId → Bool) (l : ℕ) (root : Site (suc l)) (rs : List (Result l)) → map (λ r. r.site) rs ≡ sites_below l root → is_still (map (change_of l) (filter (is_hit W l) rs)) ≡ false → is_touched W (suc l) root.place ≡ true
root_hit W l root rs sites moved = by (is_touched W (suc l) root.place) refl
  where
    all : map {B = ℕ × Placed l} (λ s. (s.low, s.place)) (map (λ r. r.site) rs) ≡ root.place.1
    all = ap (map {B = ℕ × Placed l} (λ s. (s.low, s.place))) sites ∙ sites_children l root.path root.place.0 0 root.place.1 root.edits

    by : (b : Bool) → is_touched W (suc l) root.place ≡ b → b ≡ true
    by true e = refl
    by false e =
        let none = no_hits W l rs (ap (list_any (λ (child : ℕ × Placed l). is_touched W l child.1)) all ∙ e) in
        let no : true ≡ false = sym (ap (λ hits. is_still (map (change_of l) hits)) none) ∙ moved in
        absurd cc

pub inner_found : (p : Pass) (nodes : NodeId → Option Node) (shape : Shape) (changes : Changes) (inner : InnerNode) (left : Option (List Piece)) → StandsBelow p nodes shape changes → 1 < shape.levels → nodes shape.root ≡ Some (Inner inner)
    → MatchOption left (is_still changes.nodes ≡ true) (λ pieces. (is_still changes.nodes ≡ false) × (pieces ≡ children_left inner changes.nodes)) → IsFound p nodes changes shape left
unfolding root_family
inner_found p nodes shape changes inner left s more read is = by left is
  where
    at : InnerRoot p nodes changes
    at = more_levels p nodes shape changes s more

    touched : NodeId → Bool
    touched = is_among p.routed

    same : inner ≡ inner_of at.root.place.1
    same = inner_same inner (inner_of at.root.place.1) (nodes shape.root) read (root_held p nodes shape changes s more)

    has : HasLeft p ((p.tree.1.0, Inner (inner_of at.root.place.1)) ∷ []) nodes changes at.n (bare (pieces_under at.n at.stands.results))
    has = inner_left p nodes changes at s.stands.is-pass

    lawful : (high : ℕ) × Root (suc at.n) high (values at.n at.root.place.1)
    lawful = subst (λ (t : PlacedTree). (high : ℕ) × Root t.0 high (value_in t.0 t.1.1)) (sym at.tree-is) s.stands.is-pass.lawful

    first : next_low (λ child. child.0) 0 at.root.place.1 ≡ 0
    first = sym (first_value at.n at.root.place.1) ∙ lawful.1.1

    levels : shape.levels ≡ suc (suc at.n)
    levels = s.levels ∙ ap (λ (t : PlacedTree). suc t.0) (sym at.tree-is)

    own : Cell
    own = (at.root.place.0, Inner (inner_of at.root.place.1))

    under : List Cell
    under = flat_map (λ child. untouched_cells touched at.n child.1) at.root.place.1

    beside : HasCells nodes (own ∷ under)
    beside =
        subst (λ cs. HasCells nodes (own ∷ cs))
        (ap (untouched_at touched at.n) (append-nil (sites_below at.n at.root)) ∙ under_sites at.n (untouched_cells touched at.n) at.root) at.stands.untouched

    by : (left : Option (List Piece)) → MatchOption left (is_still changes.nodes ≡ true) (λ pieces. (is_still changes.nodes ≡ false) × (pieces ≡ children_left inner changes.nodes)) → IsFound p nodes changes shape left
    by None still =
        let passed = passed_all touched at.n 0 at.stands.results at.stands.right in
        let own_pieces : bare (pieces_under at.n at.stands.results) ≡ bare at.root.place.1 =
        sym (flat_bare at.n at.stands.results) ∙ still_bare touched at.n at.stands.results at.stands.still passed (sym (ap is_still at.stands.changed) ∙ still)
        ∙ family_own at.n (root_family p nodes changes at) (is_family p nodes changes at) in
        let count = values_length at.n at.root.place.1 in
        left_under p nodes changes shape at.n at.root.place.1 (subst (HasLeft p ((p.tree.1.0, Inner (inner_of at.root.place.1)) ∷ []) nodes changes at.n) own_pieces has)
        (omega (arith, lawful.1.0.0, count)) (omega (arith, lawful.1.0.1, count)) first s.root levels
        (subst (λ (t : PlacedTree). HasCells nodes (untouched_cells touched t.0 t.1)) at.tree-is (where_touched nodes own under (is_touched touched (suc at.n) at.root.place) beside))
    by (Some pieces) is =
        let found : pieces ≡ bare (pieces_under at.n at.stands.results) =
        is.1 ∙ ap (λ (i : InnerNode). children_left i changes.nodes) same ∙ ap (λ cs. children_left (inner_of at.root.place.1) cs) at.stands.changed
        ∙ family_left touched at.n (root_family p nodes changes at) (is_family p nodes changes at) first at.stands.still in
        let below : at.n ≡ shape.levels - 2 = omega (arith, levels) in
        let cells : (p.tree.1.0, Inner (inner_of at.root.place.1)) ∷ [] ≡ root_cells nodes shape =
        ap (λ id. (id, Inner (inner_of at.root.place.1)) ∷ []) (sym s.root) ∙ sym (rw (root_held p nodes shape changes s more, lt-ltb 1 shape.levels more) refl) in
        let hit : is_touched touched (suc at.n) at.root.place ≡ true = root_hit touched at.n at.root at.stands.results (is_family p nodes changes at) (sym (ap is_still at.stands.changed) ∙ is.0) in
        subst (λ own. HasLeft p own nodes changes (shape.levels - 2) pieces × HasCells nodes (own ++ untouched_in p)) cells (
          subst (λ n. HasLeft p ((p.tree.1.0, Inner (inner_of at.root.place.1)) ∷ []) nodes changes n pieces) below
              (subst (HasLeft p ((p.tree.1.0, Inner (inner_of at.root.place.1)) ∷ []) nodes changes at.n) (sym found) has),
          subst (λ (t : PlacedTree). HasCells nodes ((t.1.0, Inner (inner_of at.root.place.1)) ∷ untouched_cells touched t.0 t.1)) at.tree-is
              (subst (λ b. HasCells nodes (own ∷ (cond b [] (own ∷ []) ++ under))) (sym hit) beside),
        )

-- ---- how many pieces are left

pub leaf_few : (changes : Changes) (left : Option (List Piece)) (n : ℕ) → MatchOption left (is_still changes.nodes ≡ true) (IsHeadOf changes.nodes) → IsWithin n changes → IsFew n left
leaf_few changes None n is within = tt
leaf_few changes (Some pieces) n (first, more, is, same) within =
    let nodes = within.nodes in
    let sum = within.pieces in
    let count : length changes.nodes ≡ suc (length more) = ap length is in
    let all : sum_by (λ (c : Change). length c.pieces - 1) changes.nodes ≡ (length first.pieces - 1) + sum_by (λ (c : Change). length c.pieces - 1) more = ap (sum_by (λ (c : Change). length c.pieces - 1)) is ∙ sum_by-cons (λ (c : Change). length c.pieces - 1) first more in
    let own : length pieces ≡ length first.pieces = ap length same in
    (omega (arith, nodes, count), omega (arith, sum, all, own))

pub inner_few : (p : Pass) (nodes : NodeId → Option Node) (shape : Shape) (changes : Changes) (inner : InnerNode) (left : Option (List Piece)) (n : ℕ) → StandsBelow p nodes shape changes → 1 < shape.levels → nodes shape.root ≡ Some (Inner inner)
    → MatchOption left (is_still changes.nodes ≡ true) (λ pieces. (is_still changes.nodes ≡ false) × (pieces ≡ children_left inner changes.nodes)) → IsWithin n changes → IsFew n left
unfolding root_family
inner_few p nodes shape changes inner left n s more read is within = by left is
  where
    at : InnerRoot p nodes changes
    at = more_levels p nodes shape changes s more

    touched : NodeId → Bool
    touched = is_among p.routed

    same : inner ≡ inner_of at.root.place.1
    same = inner_same inner (inner_of at.root.place.1) (nodes shape.root) read (root_held p nodes shape changes s more)

    lawful : (high : ℕ) × Root (suc at.n) high (values at.n at.root.place.1)
    lawful = subst (λ (t : PlacedTree). (high : ℕ) × Root t.0 high (value_in t.0 t.1.1)) (sym at.tree-is) s.stands.is-pass.lawful

    first : next_low (λ child. child.0) 0 at.root.place.1 ≡ 0
    first = sym (first_value at.n at.root.place.1) ∙ lawful.1.1

    some : (changes : List Change) → is_still changes ≡ false → 1 ≤ length changes
    some [] moves = absurd cc
    some (c ∷ cs) moves = omega arith

    by : (left : Option (List Piece)) → MatchOption left (is_still changes.nodes ≡ true) (λ pieces. (is_still changes.nodes ≡ false) × (pieces ≡ children_left inner changes.nodes)) → IsFew n left
    by None still = tt
    by (Some pieces) is =
        let found : pieces ≡ bare (pieces_under at.n at.stands.results) =
        is.1 ∙ ap (λ (i : InnerNode). children_left i changes.nodes) same ∙ ap (λ cs. children_left (inner_of at.root.place.1) cs) at.stands.changed
        ∙ family_left touched at.n (root_family p nodes changes at) (is_family p nodes changes at) first at.stands.still in
        let count : length pieces ≡ length (pieces_under at.n at.stands.results) = ap length found ∙ bare_length (pieces_under at.n at.stands.results) in
        let more = under_more touched at.n at.stands.results at.stands.still in
        let sum = more_in touched at.n at.stands.results in
        let all : sum_by (λ (c : Change). length c.pieces - 1) changes.nodes ≡ sum_by (λ (r : Result at.n). length r.pieces - 1) (filter (is_hit touched at.n) at.stands.results) = ap (sum_by (λ (c : Change). length c.pieces - 1)) at.stands.changed ∙ sum in
        let children : length at.stands.results ≡ length at.root.place.1 = family_length at.n (root_family p nodes changes at) (is_family p nodes changes at) in
        let most = lawful.1.0.1 in
        let values_count = values_length at.n at.root.place.1 in
        let nodes = within.nodes in
        let pieces_most = within.pieces in
        let least = some changes.nodes is.0 in
        (omega (arith, nodes, least), omega (arith, count, more, all, children, most, values_count, pieces_most))

-- ---- the old root goes

pub dropped_none : (old : ArenaState) (shape : Shape) → shape.levels ≤ 1 → Turns (map_of old.places) (map_of old.places) (root_cells (map_of old.places) shape) []
dropped_none old shape one = rw (le-ltb 1 shape.levels one) (λ others owned. owned)

pub dropped_root : (old new : ArenaState) (shape : Shape) → 1 < shape.levels → IsSome (node_at old.places shape.root) → new ≡ record old { places = with_place old.places shape.root Empty } → Turns (map_of old.places) (map_of new.places) (root_cells (map_of old.places) shape) []
dropped_root old new shape more held gone = rw (lt-ltb 1 shape.levels more) (by (map_of old.places shape.root) held)
  where
    by : (at : Option Node) → IsSome at → Turns (map_of old.places) (map_of new.places) (cell_at shape.root at) []
    by None none = absurd cc
    by (Some node) some = dropped_turns old new shape.root node gone

-- What the root's cell is, where changes stand below it.
pub root_is_held : (p : Pass) (nodes : NodeId → Option Node) (shape : Shape) (changes : Changes) → StandsBelow p nodes shape changes → 1 < shape.levels → IsSome (nodes shape.root)
root_is_held p nodes shape changes s more = subst IsSome (sym (root_held p nodes shape changes s more)) refl

-- ---- levels and steps

-- A tree has at most so many levels.
pub few_below : (p : Pass) (nodes : NodeId → Option Node) (shape : Shape) (changes : Changes) → StandsBelow p nodes shape changes → shape.levels - 2 ≤ MOST_LEVELS
few_below p nodes shape changes s =
    let is = s.stands.is-pass in
    let few = lawful_trees_are_low (value_of p.tree) is.lawful (prefixes_in p.tree.0 (value_in p.tree.0 p.tree.1.1) is.lows) in
    omega (arith, few, s.levels)

pub put_ticks : (count n before after : ℕ) → 1 ≤ n → count ≤ MOST_CHILDREN + n → HasPut count before after → after ≤ before + 4 * n
put_ticks count n before after some few (inl (none, most)) = omega (arith, some, most)
put_ticks count n before after some few (inr (inl (one, most))) = omega (arith, most)
put_ticks count n before after some few (inr (inr (two, most))) = let half = nodes_few count n few some in omega (arith, most, half)
  where
    nodes_few : (count n : ℕ) → count ≤ 16 + n → 1 ≤ n → 2 * piece_count 16 count ≤ 4 * n + 1
    nodes_few count n few some = omega (arith, few, some)
