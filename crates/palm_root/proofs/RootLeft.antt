-- What is left below the root is what the serial rule makes of it.
use Rattle.std.proofs.Common.{◌≡◌, ℕ, zero, suc, ◌+◌, ◌≤◌, Bool, true, false, List, [], ◌∷◌, ◌++◌, length, map, get_or, Option, Some, refl, sym, ap, subst, arith, ◌∙◌, ◌⊎◌, inl, inr, eqb-true, ◌==◌}
use Rattle.std.specs.List.{flat_map, AllByRecursion}
use Rattle.std.specs.List.Sorted.{IsPermutation}
use Rattle.std.proofs.lemmas.List.{append-nil}
use Rattle.palm_base.specs.Table.{after_all}
use Rattle.palm_base.specs.Tree.{Subtree, Tree}
use Rattle.palm_base.specs.Pass.{Outcome, below, base_pass, leaves_of, top, top_in, passed_tree}
use Rattle.palm_base.specs.Lawful.{next_low, InOrder, Root, IsOrderly}
use Rattle.palm_base.specs.declared.row.Row.{Row}
use Rattle.palm_base.specs.declared.call.Call.{Call}
use Rattle.palm_base.proofs.Batches.{highest, adds_below, root_wider}
use Rattle.palm_base.proofs.Passes.{pass_holds, below_holds}
use Rattle.palm_base.proofs.RisingTables.{rising_is_table}
use Rattle.palm_base.proofs.PassCounts.{calls_keep}
use Rattle.palm_base.proofs.Builds.{leaf_top, top_few}
use Rattle.palm_base.proofs.SoundNodes.{node_over_same}
use Rattle.palm_base.specs.declared.bounds.TheConstants.{MOST_CHILDREN}
use Rattle.palm_node.specs.InnerNode.{inner_over}
use Rattle.palm_node.specs.declared.id.NodeId.{NodeId}
use Rattle.palm_node.specs.declared.id.Piece.{Piece}
use Rattle.palm_node.specs.declared.node.Node.{Node}
use Rattle.palm_node.specs.declared.node.Node.TheVariants.{Leaf, Inner}
use Rattle.palm_node.specs.declared.change.Changes.{Changes}
use Rattle.palm_node.proofs.TopLevels.{leaves_orderly, top_alone}
use Rattle.palm_arena.specs.declared.shape.Shape.{Shape}
use Rattle.palm_arena.specs.Cells.{Cell, Owns, Turns, HasCells}
use Rattle.palm_arena.specs.Placed.{Placed, PlacedTree, value_in, value_of, values, bare, cells_of, cells_under}
use Rattle.palm_arena.specs.Sites.{Site, raised, sites_below}
use Rattle.palm_arena.specs.Standing.{Result, is_hit, StandsForItself, IsRight, loose_of, Kept, kept_cells, kept_rows, Stands}
use Rattle.palm_arena.specs.Passes.{Pass, is_among, leaf_sites, IsTouchedOrStill, IsPass, IsRepaired, StandsAlone, untouched_in}
use Rattle.palm_arena.proofs.OwnedTrees.{values_length, first_value}
use Rattle.palm_arena.specs.Levels.{IsLevel}
use Rattle.palm_arena.proofs.Raised.{bare_length}
use Rattle.palm_arena.proofs.SitePasses.{site_pass, outcome_below}
use Rattle.palm_arena.proofs.CellLists.{owned_front}
use Rattle.palm_arena.proofs.Untouched.{has_turned}
use Rattle.palm_level.specs.Families.{pieces_under}
use Rattle.palm_level.proofs.Families.{passed_all}
use Rattle.palm_level.proofs.Parent.{outcome_of_results, below_results, joined_values}
use Rattle.palm_level.proofs.Bare.{inner_of, inner_bare}
use Rattle.palm_root.specs.Roots.{level_below, StandsBelow, HasLeft}

-- ---- the root and what stands below it

-- The root is a leaf, and the changes stand at its level.
pub record LeafRoot (p : Pass) (nodes : NodeId → Option Node) (changes : Changes) : Type 0 where
  pub root : Site zero
  pub tree-is : ◌≡◌ {A = PlacedTree} (zero, root.place) p.tree
  pub edits-are : root.edits ≡ p.edits
  pub stands : Stands 0 zero root (is_among p.routed) p.rest nodes changes

-- The root is an inner node, and the changes stand one level below it.
pub record InnerRoot (p : Pass) (nodes : NodeId → Option Node) (changes : Changes) : Type 0 where
  pub n : ℕ
  pub root : Site (suc n)
  pub tree-is : ◌≡◌ {A = PlacedTree} (suc n, root.place) p.tree
  pub edits-are : root.edits ≡ p.edits
  pub stands : Stands 1 n root (is_among p.routed) p.rest nodes changes

raised_least : (l d : ℕ) → l ≤ raised l d
raised_least l zero = omega arith
raised_least l (suc d) = let more = raised_least (suc l) d in omega (arith, more)

pub at_root : (p : Pass) (nodes : NodeId → Option Node) (shape : Shape) (changes : Changes) → StandsBelow p nodes shape changes → LeafRoot p nodes changes ⊎ InnerRoot p nodes changes
at_root p nodes shape changes s = by s.stands.d s.stands.l s.stands.root s.stands.tree-is s.stands.edits-are s.stands.stands (sym (ap level_below s.levels) ∙ s.stands.level-is)
  where
    by : (d l : ℕ) (root : Site (raised l d)) → ◌≡◌ {A = PlacedTree} (raised l d, root.place) p.tree → root.edits ≡ p.edits → Stands d l root (is_among p.routed) p.rest nodes changes → level_below (suc p.tree.0) ≡ suc l
        → LeafRoot p nodes changes ⊎ InnerRoot p nodes changes
    by zero zero root tree edits stands level = inl (record { root = root; tree-is = tree; edits-are = edits; stands = stands })
    by zero (suc l) root tree edits stands level =
        let n : suc l ≡ p.tree.0 = ap (λ (t : PlacedTree). t.0) tree in
        let no : level_below (suc (suc l)) ≡ suc (suc l) = ap (λ k. level_below (suc k)) n ∙ level in
        absurd (omega arith)
    by (suc zero) l root tree edits stands level = inr (record { n = l; root = root; tree-is = tree; edits-are = edits; stands = stands })
    by (suc (suc d)) l root tree edits stands level =
        let n : raised (suc (suc l)) d ≡ p.tree.0 = ap (λ (t : PlacedTree). t.0) tree in
        let least = raised_least (suc (suc l)) d in
        absurd (deep p.tree.0 (omega (arith, n, least)) level)
      where
        deep : {l : ℕ} (k : ℕ) → suc (suc l) ≤ k → level_below (suc k) ≡ suc l → ⊥
        deep zero least e = omega arith
        deep (suc k) least e = omega (arith, least, e)

-- ---- an inner root

results_loose : (l d : ℕ) (results : List (Result l)) → flat_map (loose_of l (suc d)) results ≡ (outcome_of_results l results).loose
results_loose l d [] = refl
results_loose l d (r ∷ rs) = ap (λ (o : Outcome l). o.loose ++ flat_map (loose_of l (suc d)) rs) (outcome_below l d r.site) ∙ ap (λ ls. (site_pass l r.site).loose ++ ls) (results_loose l d rs)

-- The outcome below an inner root is that of its children.
inner_outcome : (l : ℕ) (root : Site (suc l)) (results : List (Result l)) → map (λ r. r.site) results ≡ sites_below l root ++ [] → base_pass (suc l) (values l root.place.1) root.edits ≡ outcome_of_results l results
inner_outcome l root results e = below_results l root results (e ∙ append-nil (sites_below l root))

pub inner_left : (p : Pass) (nodes : NodeId → Option Node) (changes : Changes) (at : InnerRoot p nodes changes) → IsPass p
    → HasLeft p ((p.tree.1.0, Inner (inner_of at.root.place.1)) ∷ []) nodes changes at.n (bare (pieces_under at.n at.stands.results))
inner_left p nodes changes at is =
    let n = at.n in
    let root = at.root in
    let results = at.stands.results in
    let passed = passed_all (is_among p.routed) n 0 results at.stands.right in
    let outcome : base_pass (suc n) (values n root.place.1) root.edits ≡ outcome_of_results n results = inner_outcome n root results at.stands.sites in
    let pieces : values n (pieces_under n results) ≡ (base_pass (suc n) (values n root.place.1) root.edits).pieces = joined_values n results passed ∙ ap (λ (o : Outcome n). o.pieces) (sym outcome) in
    let tree = ap (λ (es : List Call). passed_tree (suc n, values n root.place.1) es) at.edits-are ∙ ap (λ (t : PlacedTree). passed_tree (value_of t) p.edits) at.tree-is in
    record {
      is-pass = is;
      n = n;
      below-is = refl;
      children = pieces_under n results;
      pieces = refl;
      same = ap (top n) pieces ∙ tree;
      orderly = inr (order pieces);
      kept = at.stands.kept;
      removed = at.stands.removed;
      loose = subst (λ (t : PlacedTree). IsPermutation (changes.loose ++ flat_map kept_rows at.stands.kept) (base_pass t.0 (value_in t.0 t.1.1) p.edits).loose) at.tree-is
          (subst (IsPermutation (changes.loose ++ flat_map kept_rows at.stands.kept))
          (results_loose n 0 results ∙ ap (λ (o : Outcome n). o.loose) (sym outcome) ∙ ap (λ (es : List Call). (base_pass (suc n) (values n root.place.1) es).loose) at.edits-are) at.stands.loose);
      owned = subst (λ id. Owns nodes ((id, Inner (inner_of root.place.1)) ∷ (cells_under n (pieces_under n results) ++ (flat_map kept_cells at.stands.kept ++ p.rest)))) (ap (λ (t : PlacedTree). t.1.0) at.tree-is) at.stands.owned;
    }
  where
    lawful : (high : ℕ) × Root (suc at.n) high (values at.n at.root.place.1)
    lawful = subst (λ (t : PlacedTree). (high : ℕ) × Root t.0 high (value_in t.0 t.1.1)) (sym at.tree-is) is.lawful

    order : values at.n (pieces_under at.n at.stands.results) ≡ (base_pass (suc at.n) (values at.n at.root.place.1) at.root.edits).pieces → (h : ℕ) × InOrder at.n 0 h (values at.n (pieces_under at.n at.stands.results))
    order pieces =
        let high = lawful.0 + highest at.root.edits in
        let root = root_wider (suc at.n) lawful.0 high (values at.n at.root.place.1) lawful.1 (omega arith) in
        let some = root.0.0 in
        let holds = below_holds at.n (pass_holds at.n) 0 high (values at.n at.root.place.1) at.root.edits root.2 (omega (arith, some)) (adds_below high at.root.edits (omega arith)) in
        (high, subst (InOrder at.n 0 high) (sym pieces) holds.pieces)

-- The root stands in the arena.
pub inner_held : (p : Pass) (nodes : NodeId → Option Node) (changes : Changes) (at : InnerRoot p nodes changes) → nodes p.tree.1.0 ≡ Some (Inner (inner_of at.root.place.1))
inner_held p nodes changes at =
    subst (λ id. nodes id ≡ Some (Inner (inner_of at.root.place.1))) (ap (λ (t : PlacedTree). t.1.0) at.tree-is)
    (owned_front nodes at.root.place.0 (Inner (inner_of at.root.place.1)) (cells_under at.n (pieces_under at.n at.stands.results) ++ (flat_map kept_cells at.stands.kept ++ p.rest)) at.stands.owned).0

-- ---- a root leaf

leaf_lawful : (p : Pass) (nodes : NodeId → Option Node) (changes : Changes) (at : LeafRoot p nodes changes) → IsPass p → (high : ℕ) × Root zero high at.root.place.1
leaf_lawful p nodes changes at is = subst (λ (t : PlacedTree). (high : ℕ) × Root t.0 high (value_in t.0 t.1.1)) (sym at.tree-is) is.lawful

-- The edits leave a root leaf to which nothing is routed as it is.
leaf_still : (p : Pass) (nodes : NodeId → Option Node) (changes : Changes) (at : LeafRoot p nodes changes) → IsPass p → is_among p.routed at.root.place.0 ≡ false → after_all at.root.place.1 p.edits ≡ at.root.place.1
leaf_still p nodes changes at is =
    (subst (λ (t : PlacedTree). AllByRecursion (IsTouchedOrStill p.routed) (leaf_sites t.0 (record { path = []; low = 0; place = t.1; edits = p.edits }))) (sym at.tree-is) is.still).0

-- These leaves make the tree of the serial rule over a root leaf.
abbrev LeavesMake : List Row → List Call → List (ℕ × List Row) → Type 0
LeavesMake rows edits leaves = (top zero leaves ≡ passed_tree (zero, rows) edits) × IsOrderly zero leaves

-- The pieces of a root leaf do: those of the rule where it is touched, and else the leaf itself.
pieces_make : (p : Pass) (nodes : NodeId → Option Node) (changes : Changes) (at : LeafRoot p nodes changes) → IsPass p → (result : Result zero) → result.site ≡ at.root → IsRight (is_among p.routed) zero zero result
    → StandsForItself (is_among p.routed) zero result → LeavesMake at.root.place.1 p.edits (values zero result.pieces)
pieces_make p nodes changes at is result own right still = by (is_hit touched zero result) refl
  where
    touched : NodeId → Bool
    touched = is_among p.routed

    rows : List Row
    rows = at.root.place.1

    lawful : (high : ℕ) × Root zero high rows
    lawful = leaf_lawful p nodes changes at is

    by : (b : Bool) → is_hit touched zero result ≡ b → LeavesMake rows p.edits (values zero result.pieces)
    by true hit =
        let pieces : values zero result.pieces ≡ leaves_of 0 (after_all rows p.edits) =
        right hit ∙ ap (λ (s : Site zero). leaves_of 0 (after_all s.place.1 s.edits)) own ∙ ap (λ es. leaves_of 0 (after_all rows es)) at.edits-are in
        (ap (top zero) pieces, subst (IsOrderly zero) (sym pieces) (leaves_orderly (after_all rows p.edits) (calls_keep rows p.edits (rising_is_table 0 lawful.0 rows lawful.1.1))))
    by false hit =
        let same : after_all rows p.edits ≡ rows = leaf_still p nodes changes at is (ap (λ (s : Site zero). touched s.place.0) (sym own) ∙ hit) in
        let pieces : values zero result.pieces ≡ (result.site.low, rows) ∷ [] = ap (values zero) (still hit) ∙ ap (λ (s : Site zero). (result.site.low, s.place.1) ∷ []) own in
        (ap (top zero) pieces ∙ top_alone zero (result.site.low, rows) ∙ sym (leaf_top rows lawful.1.0) ∙ ap (λ rs. top zero (leaves_of 0 rs)) (sym same), subst (IsOrderly zero) (sym pieces) (inl (omega arith)))

-- What is left of a root leaf: the pieces of the one change, or the leaf itself where nothing was routed to it.
pub leaf_left : (p : Pass) (nodes : NodeId → Option Node) (changes : Changes) (at : LeafRoot p nodes changes) → IsPass p
    → (result : Result zero) × (at.stands.results ≡ result ∷ []) × (result.site ≡ at.root) × HasLeft p [] nodes changes 0 (bare result.pieces)
leaf_left p nodes changes at is = by at.stands.results at.stands.sites at.stands.right at.stands.still at.stands.loose at.stands.owned
  where
    touched : NodeId → Bool
    touched = is_among p.routed

    kept : List Kept
    kept = at.stands.kept

    by : (results : List (Result zero)) → map (λ r. r.site) results ≡ at.root ∷ [] → AllByRecursion (IsRight touched zero 0) results → AllByRecursion (StandsForItself touched zero) results
        → IsPermutation (changes.loose ++ flat_map kept_rows kept) (flat_map (loose_of zero 0) results)
        → Owns nodes (cells_under zero (flat_map (λ r. r.pieces) results) ++ (flat_map kept_cells kept ++ p.rest))
        → (result : Result zero) × (results ≡ result ∷ []) × (result.site ≡ at.root) × HasLeft p [] nodes changes 0 (bare result.pieces)
    by [] sites right still loose owned = absurd cc
    by (r ∷ s ∷ rs) sites right still loose owned = absurd (let n = ap length sites in omega (arith, n))
    by (r ∷ []) sites right still loose owned =
        let own : r.site ≡ at.root = ap (λ (l : List (Site zero)). get_or l 0 at.root) sites in
        let make = pieces_make p nodes changes at is r own right.0 still.0 in (
          r,
          refl,
          own,
          record {
            is-pass = is;
            n = zero;
            below-is = refl;
            children = r.pieces;
            pieces = refl;
            same = make.0 ∙ ap (λ (t : PlacedTree). passed_tree (value_of t) p.edits) at.tree-is;
            orderly = make.1;
            kept = kept;
            removed = at.stands.removed;
            loose = subst (λ (t : PlacedTree). IsPermutation (changes.loose ++ flat_map kept_rows kept) (base_pass t.0 (value_in t.0 t.1.1) p.edits).loose) at.tree-is loose;
            owned = subst (λ cs. Owns nodes (cs ++ (flat_map kept_cells kept ++ p.rest))) (ap (cells_under zero) (append-nil r.pieces)) owned;
          },
        )

-- ---- the root as it stays

first_bare : {B : Type 0} (children : List (ℕ × (NodeId × B))) → next_low (λ child. child.0) 0 children ≡ next_low (λ (piece : Piece). piece.low) 0 (bare children)
first_bare [] = refl
first_bare (c ∷ cs) = refl

top_none : (n : ℕ) → top n [] ≡ (zero, [])
unfolding top top_in
top_none n = refl

-- What is left, one piece alone, is the whole tree.
pub left_alone : (p : Pass) (nodes : NodeId → Option Node) (changes : Changes) (shape : Shape) (piece : Piece) → HasLeft p [] nodes changes 0 (piece ∷ []) → shape.root ≡ piece.id → shape.levels ≡ 1 → HasCells nodes (untouched_in p) → IsRepaired p nodes changes shape
left_alone p nodes changes shape piece left root levels untouched = by left.n left.below-is left.children left.pieces left.same left.owned
  where
    by : (n : ℕ) → 0 ≡ n → (children : List (ℕ × Placed n)) → bare children ≡ piece ∷ [] → top n (values n children) ≡ passed_tree (value_of p.tree) p.edits → Owns nodes (cells_under n children ++ (flat_map kept_cells left.kept ++ p.rest)) → IsRepaired p nodes changes shape
    by n zero-is [] pieces same owned = absurd cc
    by n zero-is (c ∷ d ∷ cs) pieces same owned = absurd (let e = ap length pieces in omega (arith, e))
    by n zero-is (c ∷ []) pieces same owned =
        let id : c.1.0 ≡ piece.id = ap (λ (l : List Piece). (get_or l 0 piece).id) pieces in
        record {
          is-pass = left.is-pass;
          tree = (n, c.1);
          kept = left.kept;
          root = root ∙ sym id;
          levels = levels ∙ ap suc zero-is;
          tree-is = sym (top_alone n (c.0, value_in n c.1.1)) ∙ same;
          removed = left.removed;
          loose = left.loose;
          owned = subst (λ cs. Owns nodes (cs ++ (flat_map kept_cells left.kept ++ p.rest))) (append-nil (cells_of n c.1)) owned;
          untouched = untouched;
        }

-- What is left, the children that an inner root had, is the whole tree with the root.
pub left_under : (p : Pass) (nodes : NodeId → Option Node) (changes : Changes) (shape : Shape) (n : ℕ) (old : List (ℕ × Placed n)) → HasLeft p ((p.tree.1.0, Inner (inner_of old)) ∷ []) nodes changes n (bare old)
    → 2 ≤ length old → length old ≤ MOST_CHILDREN → next_low (λ child. child.0) 0 old ≡ 0 → shape.root ≡ p.tree.1.0 → shape.levels ≡ suc (suc n) → HasCells nodes (untouched_in p)
    → IsRepaired p nodes changes shape
left_under p nodes changes shape n old left two few first root levels untouched = by left.n left.below-is left.children left.pieces left.same left.owned
  where
    by : (k : ℕ) → n ≡ k → (children : List (ℕ × Placed k)) → bare children ≡ bare old → top k (values k children) ≡ passed_tree (value_of p.tree) p.edits
        → Owns nodes ((p.tree.1.0, Inner (inner_of old)) ∷ (cells_under k children ++ (flat_map kept_cells left.kept ++ p.rest))) → IsRepaired p nodes changes shape
    by k k-is children pieces same owned =
        let count : length children ≡ length old = sym (bare_length children) ∙ ap length pieces ∙ bare_length old in
        let values_count = values_length k children in
        let first_is : next_low (λ child. child.0) 0 (values k children) ≡ 0 = first_value k children ∙ first_bare children ∙ ap (next_low (λ (piece : Piece). piece.low) 0) pieces ∙ sym (first_bare old) ∙ first in
        record {
          is-pass = left.is-pass;
          tree = (suc k, (p.tree.1.0, children));
          kept = left.kept;
          root = root;
          levels = levels ∙ ap (λ m. suc (suc m)) k-is;
          tree-is = ap (λ (c : Subtree (suc k)). let t : Tree = (suc k, c) in t) (sym (node_over_same k (values k children) first_is)) ∙ sym (top_few k (values k children) (omega (arith, two, count, values_count)) (omega (arith, few, count, values_count))) ∙ same;
          removed = left.removed;
          loose = left.loose;
          owned = subst (λ node. Owns nodes ((p.tree.1.0, node) ∷ (cells_under k children ++ (flat_map kept_cells left.kept ++ p.rest)))) (ap (λ i. Inner i) (sym (inner_bare old) ∙ ap inner_over (sym pieces) ∙ inner_bare children)) owned;
          untouched = untouched;
        }

-- ---- the root anew

pub left_level : (p : Pass) (nodes : NodeId → Option Node) (changes : Changes) (below : ℕ) (level : List Piece) → (left : HasLeft p [] nodes changes below level) → IsLevel (passed_tree (value_of p.tree) p.edits) (flat_map kept_cells left.kept ++ p.rest) nodes below level
left_level p nodes changes below level left = record { n = left.n; below-is = left.below-is; children = left.children; pieces = left.pieces; same = left.same; orderly = left.orderly; owned = left.owned }

-- The root's own cell goes.
pub left_without : (p : Pass) (own : List Cell) (nodes later : NodeId → Option Node) (changes : Changes) (below : ℕ) (level : List Piece) → HasLeft p own nodes changes below level → Turns nodes later own [] → HasLeft p [] later changes below level
left_without p own nodes later changes below level left turns =
    record {
      is-pass = left.is-pass;
      n = left.n;
      below-is = left.below-is;
      children = left.children;
      pieces = left.pieces;
      same = left.same;
      orderly = left.orderly;
      kept = left.kept;
      removed = left.removed;
      loose = left.loose;
      owned = turns (cells_under left.n left.children ++ (flat_map kept_cells left.kept ++ p.rest)) left.owned;
    }

-- A tree that stands where the pieces were left is the pass's.
pub left_stands : (p : Pass) (nodes later : NodeId → Option Node) (changes : Changes) (below : ℕ) (level : List Piece) (shape : Shape) → (left : HasLeft p [] nodes changes below level)
    → StandsAlone (passed_tree (value_of p.tree) p.edits) (flat_map kept_cells left.kept ++ p.rest) later shape → HasCells later (untouched_in p)
    → IsRepaired p later changes shape
left_stands p nodes later changes below level shape left stands untouched = record {
  is-pass = left.is-pass;
  tree = stands.tree;
  kept = left.kept;
  root = stands.root;
  levels = stands.levels;
  tree-is = stands.value-is;
  removed = left.removed;
  loose = left.loose;
  owned = stands.owned;
  untouched = untouched;
}

-- Where nothing is left, an empty leaf is the tree.
pub left_nothing : (p : Pass) (nodes later : NodeId → Option Node) (changes : Changes) (below : ℕ) (id : NodeId) → (left : HasLeft p [] nodes changes below []) → Turns nodes later [] ((id, Leaf []) ∷ [])
    → StandsAlone (passed_tree (value_of p.tree) p.edits) (flat_map kept_cells left.kept ++ p.rest) later (record { root = id; levels = 1 })
left_nothing p nodes later changes below id left turns = by left.n left.children left.pieces left.same left.owned
  where
    by : (n : ℕ) (children : List (ℕ × Placed n)) → bare children ≡ [] → top n (values n children) ≡ passed_tree (value_of p.tree) p.edits → Owns nodes (cells_under n children ++ (flat_map kept_cells left.kept ++ p.rest))
        → StandsAlone (passed_tree (value_of p.tree) p.edits) (flat_map kept_cells left.kept ++ p.rest) later (record { root = id; levels = 1 })
    by n (c ∷ cs) pieces same owned = absurd cc
    by n [] pieces same owned = record { tree = (zero, (id, [])); root = refl; levels = refl; value-is = sym (top_none n) ∙ same; owned = turns (flat_map kept_cells left.kept ++ p.rest) owned }

pub no_pieces : (level : List Piece) → (length level == 0) ≡ true → level ≡ []
no_pieces [] e = refl
no_pieces (piece ∷ level) e = absurd (omega (arith, eqb-true (length (piece ∷ level)) 0 e))

pub left_nothing_stands : (p : Pass) (nodes later : NodeId → Option Node) (changes : Changes) (below : ℕ) (level : List Piece) (shape : Shape) → HasLeft p [] nodes changes below level → level ≡ [] → shape.levels ≡ 1 → Turns nodes later [] ((shape.root, Leaf []) ∷ [])
    → HasCells nodes (untouched_in p) → IsRepaired p later changes shape
left_nothing_stands p nodes later changes below level shape left none levels turns has =
    let empty : HasLeft p [] nodes changes below [] = subst (HasLeft p [] nodes changes below) none left in
    let stands = left_nothing p nodes later changes below shape.root empty turns in
    left_stands p nodes later changes below [] shape empty (subst (StandsAlone (passed_tree (value_of p.tree) p.edits) (flat_map kept_cells empty.kept ++ p.rest) later) (ap (λ (n : ℕ). let s : Shape = record { root = shape.root; levels = n } in s) (sym levels)) stands) (has_turned nodes later [] ((shape.root, Leaf []) ∷ []) (untouched_in p) turns has)
