-- From the changes of a level to those of the next: each node's results and what the map holds.
use Rattle.std.proofs.Common.{◌≡◌, ℕ, zero, suc, Bool, true, false, cond, ◌&&◌, ◌||◌, List, [], ◌∷◌, ◌++◌, length, map, refl, sym, ap, ◌∙◌, append_assoc, arith, subst, Option}
use Rattle.std.specs.List.{flat_map, AllByRecursion, filter, list_any}
use Rattle.std.specs.List.Sorted.{IsPermutation}
use Rattle.std.proofs.lemmas.List.{append-nil}
use Rattle.std.proofs.lemmas.List.Concat.{flat_map-append}
use mathlib.Core.List.{map-append}
use Rattle.palm_base.specs.Tree.{rows_in}
use Rattle.palm_base.specs.Pass.{Outcome, node_over, nodes_over, is_small}
use Rattle.palm_base.specs.Lawful.{next_low, HasFromTo}
use Rattle.palm_base.specs.declared.bounds.TheConstants.{LEAST_CHILDREN, MOST_CHILDREN}
use Rattle.palm_base.proofs.Cuts.{few_are_one_piece}
use Rattle.palm_base.proofs.CutParts.{large}
use Rattle.palm_base.proofs.Every.{every_weaker}
use Rattle.palm_node.specs.declared.id.NodeId.{NodeId}
use Rattle.palm_node.specs.declared.node.Node.{Node}
use Rattle.palm_node.specs.declared.node.Node.TheVariants.{Inner}
use Rattle.palm_node.specs.declared.change.Changes.{Changes}
use Rattle.palm_arena.specs.Cells.{Cell, found_at, Owns, SameCells, Turns}
use Rattle.palm_arena.specs.Placed.{Body, Placed, value_in, values, cells_of, cells_under, ids_of_children, with_ids, own_cells}
use Rattle.palm_arena.specs.Routes.{separators_of}
use Rattle.palm_arena.specs.Sites.{Site, raised, sites_at, cell_of_site, cells_above}
use Rattle.palm_arena.specs.Standing.{is_touched, Result, is_hit, StandsForItself, IsRight, loose_of, change_of, Kept, kept_cells, kept_rows, removed_of, Stands}
use Rattle.palm_arena.proofs.SitePasses.{site_pass, outcome_below}
use Rattle.palm_arena.proofs.LevelCells.{sites_children}
use Rattle.palm_arena.proofs.CellLists.{owned_same, same_trans, same_sym, same_eq, same_front, same_back}
use Rattle.palm_arena.proofs.Untouched.{touched_own, untouched_next}
use Rattle.palm_arena.proofs.ListParts.{same_parted, same_each, perm_more, flat_each, flat_flat, map_map, flat_map', all_map, all_flat}
use Rattle.palm_level.proofs.Parent.{parent_right, parent_loose}
use Rattle.palm_arena.proofs.NamedNodes.{nodes_cells, over_cells}
use Rattle.palm_level.specs.Families.{Family, IsPassed, left_of, pieces_under, gone_of, placed_left, bodies_left, is_worked, pieces_after, kept_after, result_after, nodes_before, nodes_after, IsFull, IsFamily, HasIds, Worked}

-- Where no child is touched, what stands for the children is the children.
still_pieces : (W : NodeId → Bool) (l : ℕ) (rs : List (Result l)) → AllByRecursion (StandsForItself W l) rs → list_any (λ (child : ℕ × Placed l). is_touched W l child.1) (map {B = ℕ × Placed l} (λ s. (s.low, s.place)) (map (λ r. r.site) rs)) ≡ false
    → pieces_under l rs ≡ map {B = ℕ × Placed l} (λ s. (s.low, s.place)) (map (λ r. r.site) rs)
still_pieces W l [] a n = refl
still_pieces W l (r ∷ rs) a n =
    let b = or_parts (is_hit W l r) (list_any (λ (child : ℕ × Placed l). is_touched W l child.1) (map {B = ℕ × Placed l} (λ s. (s.low, s.place)) (map (λ r. r.site) rs))) n in
    ap (λ ps. ps ++ pieces_under l rs) (a.0 b.0) ∙ ap (λ ps. (r.site.low, r.site.place) ∷ ps) (still_pieces W l rs a.1 b.1)
  where
    or_parts : (a b : Bool) → (a || b) ≡ false → (a ≡ false) × (b ≡ false)
    or_parts true b e = absurd (cc)
    or_parts false b e = (refl, e)

untouched_kids : (W : NodeId → Bool) (l : ℕ) (f : Family l) → AllByRecursion (StandsForItself W l) f.children → IsFamily l f → is_worked W l f ≡ false → placed_left l f ≡ f.parent.place.1
untouched_kids W l f a e n =
    let all = ap (map {B = ℕ × Placed l} (λ s. (s.low, s.place))) e ∙ sites_children l f.parent.path f.parent.place.0 0 f.parent.place.1 f.parent.edits in
    still_pieces W l f.children a (ap (list_any (λ (child : ℕ × Placed l). is_touched W l child.1)) all ∙ n) ∙ all

over_self : {T : Type 0} (children : List (ℕ × T)) → next_low (λ child. child.0) 0 children ≡ 0 → node_over children ≡ children
over_self [] e = refl
over_self (child ∷ children) e = ap (λ l. (l, child.1) ∷ children) (sym e)

-- A full node's own children stand as that node.
pub full_left : {T : Type 0} (low : ℕ) (children : List (ℕ × T)) → HasFromTo LEAST_CHILDREN MOST_CHILDREN children → next_low (λ child. child.0) 0 children ≡ 0 → left_of low children ≡ (low, children) ∷ []
full_left low children b e = rw (large LEAST_CHILDREN children b.0, few_are_one_piece MOST_CHILDREN children (let some = b.0 in omega (arith, some)) b.1, over_self children e)

-- What is known of a family.
record Known (W : NodeId → Bool) (l : ℕ) (f : Family l) : Type 0 where
  family : IsFamily l f
  ids : HasIds W l f
  full : IsFull l f.parent
  still : AllByRecursion (StandsForItself W l) f.children
  right : AllByRecursion (IsPassed l) f.children

right_after : (W : NodeId → Bool) (l : ℕ) (f : Family l) → Known W l f → IsPassed (suc l) (result_after W l f)
right_after W l f k = by (is_worked W l f) refl
  where
    by : (b : Bool) → is_worked W l f ≡ b → values (suc l) (cond b (with_ids f.ids (bodies_left l f)) ((f.parent.low, f.parent.place) ∷ [])) ≡ (site_pass (suc l) f.parent).pieces
    by true e = parent_right l f.parent f.children f.ids k.family k.right (k.ids e)
    by false e =
        let own = untouched_kids W l f k.still k.family e in
        let one : left_of f.parent.low (placed_left l f) ≡ (f.parent.low, f.parent.place.1) ∷ [] = ap (left_of f.parent.low) own ∙ full_left f.parent.low f.parent.place.1 k.full.0 k.full.1 in
        ap (λ ps. values (suc l) (with_ids (f.parent.place.0 ∷ []) ps)) (sym one)
        ∙ parent_right l f.parent f.children (f.parent.place.0 ∷ []) k.family k.right (ap length (sym one))

still_after : (W : NodeId → Bool) (l : ℕ) (f : Family l) → StandsForItself W (suc l) (result_after W l f)
still_after W l f n = rw n

-- ---- rows
over_rows : (l : ℕ) (children : List (ℕ × Placed l)) → rows_in (suc l) (value_in (suc l) (node_over children)) ≡ rows_in (suc l) (value_in (suc l) children)
over_rows l [] = refl
over_rows l (child ∷ children) = refl

gone_after : (W : NodeId → Bool) (l : ℕ) (f : Family l) → Known W l f → flat_map kept_rows (kept_after W l f) ≡ gone_of l (placed_left l f)
gone_after W l f k = by (is_worked W l f) (is_small LEAST_CHILDREN (placed_left l f)) refl refl
  where
    held : List Kept
    held = record { below = suc l; place = (f.parent.place.0, node_over (placed_left l f)) } ∷ []

    by : (b s : Bool) → is_worked W l f ≡ b → is_small LEAST_CHILDREN (placed_left l f) ≡ s → flat_map kept_rows (cond (b && s) held []) ≡ cond s (rows_in (suc l) (value_in (suc l) (placed_left l f))) []
    by true true e q = append-nil (rows_in (suc l) (value_in (suc l) (node_over (placed_left l f)))) ∙ over_rows l (placed_left l f)
    by true false e q = refl
    by false true e q =
        let own = untouched_kids W l f k.still k.family e in
        let full = large LEAST_CHILDREN f.parent.place.1 k.full.0.0 in
        let no : true ≡ false = sym q ∙ ap (is_small LEAST_CHILDREN) own ∙ full in
        absurd (cc)
    by false false e q = refl

-- ---- cells: what stays where it is
stays : (W : NodeId → Bool) (l : ℕ) → Family l → List Cell
stays W l f = let own = cell_of_site (suc l) f.parent ∷ cells_under l (placed_left l f) in cond (is_worked W l f) (cells_under l (placed_left l f)) own

parts_before : (W : NodeId → Bool) (l : ℕ) (f : Family l) → SameCells ((cell_of_site (suc l) f.parent ∷ []) ++ cells_under l (placed_left l f)) (nodes_before W l f ++ stays W l f)
unfolding stays
parts_before W l f = by (is_worked W l f)
  where
    by : (b : Bool) → SameCells (cell_of_site (suc l) f.parent ∷ cells_under l (placed_left l f)) (cond b (cell_of_site (suc l) f.parent ∷ []) [] ++ cond b (cells_under l (placed_left l f)) (cell_of_site (suc l) f.parent ∷ cells_under l (placed_left l f)))
    by true i = refl
    by false i = refl

over_seps : {T : Type 0} (children : List (ℕ × T)) → separators_of (node_over children) ≡ separators_of children
over_seps [] = refl
over_seps (child ∷ children) = refl

over_ids : {B : Type 0} (children : List (ℕ × (NodeId × B))) → ids_of_children (node_over children) ≡ ids_of_children children
over_ids [] = refl
over_ids (child ∷ children) = refl

parts_after : (W : NodeId → Bool) (l : ℕ) (f : Family l) → Known W l f → SameCells (nodes_after W l f ++ stays W l f) (cells_under (suc l) (pieces_after W l f) ++ flat_map kept_cells (kept_after W l f))
unfolding stays
parts_after W l f k = by (is_worked W l f) (is_small LEAST_CHILDREN (placed_left l f)) refl refl
  where
    children : List (ℕ × Placed l)
    children = placed_left l f

    held : List Kept
    held = record { below = suc l; place = (f.parent.place.0, node_over children) } ∷ []

    left : Bool → List (ℕ × Body (suc l))
    left s = let ps = nodes_over f.parent.low children in cond s [] ps

    gone : Bool → List Cell
    gone s = let h = (f.parent.place.0, Inner (record { children = ids_of_children children; separators = separators_of children })) ∷ [] in cond s h []

    by : (b s : Bool) → is_worked W l f ≡ b → is_small LEAST_CHILDREN children ≡ s
        → SameCells (cond b (own_cells l f.ids (cond s [] (nodes_over f.parent.low children)) ++ cond s ((f.parent.place.0, Inner (record { children = ids_of_children children; separators = separators_of children })) ∷ []) []) [] ++ cond b (cells_under l children) (cell_of_site (suc l) f.parent ∷ cells_under l children))
        (cells_under (suc l) (cond b (with_ids f.ids (cond s [] (nodes_over f.parent.low children))) ((f.parent.low, f.parent.place) ∷ [])) ++ flat_map kept_cells (cond (b && s) held []))
    by true true e q i =
        ap (λ hs. found_at i ((hs ++ (f.parent.place.0, Inner (record { children = ids_of_children children; separators = separators_of children })) ∷ []) ++ cells_under l children)) (none_heads l f.ids)
        ∙ ap (found_at i) (ap (λ cs. (f.parent.place.0, Inner (record { children = ids_of_children children; separators = separators_of children })) ∷ cs) (sym (over_cells l children)) ∙ ap (λ is. (f.parent.place.0, Inner (record { children = is; separators = separators_of children })) ∷ cells_under l (node_over children)) (sym (over_ids children)) ∙ ap (λ ss. (f.parent.place.0, Inner (record { children = ids_of_children (node_over children); separators = ss })) ∷ cells_under l (node_over children)) (sym (over_seps children)) ∙ sym (append-nil ((f.parent.place.0, Inner (record { children = ids_of_children (node_over children); separators = separators_of (node_over children) })) ∷ cells_under l (node_over children))))
        ∙ ap (λ ps. found_at i (cells_under (suc l) ps ++ flat_map kept_cells held)) (sym (none_ids {B = Body (suc l)} f.ids))
      where
        none_heads : (l : ℕ) (ids : List NodeId) → own_cells l ids [] ≡ []
        none_heads l [] = refl
        none_heads l (id ∷ ids) = refl

        none_ids : {B : Type 0} (ids : List NodeId) → with_ids {B = B} ids [] ≡ []
        none_ids [] = refl
        none_ids (id ∷ ids) = refl
    by true false e q i =
        let n : length f.ids ≡ length (nodes_over f.parent.low children) = k.ids e ∙ ap (λ s. length (cond s [] (nodes_over f.parent.low children))) q in
        rw (append-nil (own_cells l f.ids (nodes_over f.parent.low children)), append-nil (cells_under (suc l) (with_ids f.ids (nodes_over f.parent.low children))))
        (sym (nodes_cells l f.parent.low f.ids children n i))
    by false s e q i =
        let own = untouched_kids W l f k.still k.family e in
        ap (λ ks. found_at i (cell_of_site (suc l) f.parent ∷ cells_under l ks)) own ∙ ap (found_at i) (sym (append-nil (cells_of (suc l) f.parent.place)) ∙ sym (append-nil (cells_of (suc l) f.parent.place ++ [])))

-- Below a root the pieces are those of the pass, touched or not.
pub passed_all : (touched : NodeId → Bool) (l d : ℕ) (rs : List (Result l)) → AllByRecursion (IsRight touched l (suc d)) rs → AllByRecursion (IsPassed l) rs
passed_all touched zero d rs all = all
passed_all touched (suc l) d rs all = all

loose_passed : (l d : ℕ) (rs : List (Result l)) → flat_map (loose_of l (suc d)) rs ≡ flat_map (λ r. (site_pass l r.site).loose) rs
loose_passed l d [] = refl
loose_passed l d (r ∷ rs) = ap (λ (o : Outcome l). o.loose ++ flat_map (loose_of l (suc d)) rs) (outcome_below l d r.site) ∙ ap (λ ls. (site_pass l r.site).loose ++ ls) (loose_passed l d rs)

known_all : (d l : ℕ) (root : Site (raised l (suc d))) (W : NodeId → Bool) (rest : List Cell) (m m' : NodeId → Option Node) (seen : Changes) (st : Stands (suc d) l root W rest m seen) (fs : List (Family l)) → Worked d l root W st.results m m' fs → AllByRecursion (Known W l) fs
known_all d l root W rest m m' seen st fs w =
    let still = all_flat (StandsForItself W l) (λ f. f.children) fs (subst (AllByRecursion (StandsForItself W l)) (sym w.children) st.still) in
    let right = all_flat (IsPassed l) (λ f. f.children) fs (subst (AllByRecursion (IsPassed l)) (sym w.children) (passed_all W l d st.results st.right)) in
    go fs w.own w.ids w.full still right
  where
    go : (fs : List (Family l)) → AllByRecursion (IsFamily l) fs → AllByRecursion (HasIds W l) fs → AllByRecursion (λ f. IsFull l f.parent) fs → AllByRecursion (λ f. AllByRecursion (StandsForItself W l) f.children) fs → AllByRecursion (λ f. AllByRecursion (IsPassed l) f.children) fs → AllByRecursion (Known W l) fs
    go [] a b c d e = tt
    go (f ∷ fs) a b c d e = (record { family = a.0; ids = b.0; full = c.0; still = d.0; right = e.0 }, go fs a.1 b.1 c.1 d.1 e.1)

-- What the map holds afterwards.
owned_after : (d l : ℕ) (root : Site (raised l (suc d))) (W : NodeId → Bool) (rest : List Cell) (m m' : NodeId → Option Node) (seen : Changes) (st : Stands (suc d) l root W rest m seen) (fs : List (Family l)) → Worked d l root W st.results m m' fs → AllByRecursion (Known W l) fs
    → Owns m' (cells_above d (suc l) root ++ (cells_under (suc l) (pieces_under (suc l) (map (result_after W l) fs)) ++ (flat_map kept_cells (st.kept ++ flat_map (kept_after W l) fs) ++ rest)))
owned_after d l root W rest m m' seen st fs w k =
    let others = hs ++ (ks ++ rest) in
    let start : Owns m (flat_map (nodes_before W l) fs ++ (flat_map (stays W l) fs ++ others)) = owned_same m _ (flat_map (nodes_before W l) fs ++ (flat_map (stays W l) fs ++ others)) st.owned to_parts in
    owned_same m' (flat_map (nodes_after W l) fs ++ (flat_map (stays W l) fs ++ others)) _ (w.turned (flat_map (stays W l) fs ++ others) start) from_parts
  where
    hs : List Cell
    hs = cells_above d (suc l) root

    ks : List Cell
    ks = flat_map kept_cells st.kept

    before : Family l → List Cell
    before f = (cell_of_site (suc l) f.parent ∷ []) ++ cells_under l (placed_left l f)

    after : Family l → List Cell
    after f = cells_under (suc l) (pieces_after W l f) ++ flat_map kept_cells (kept_after W l f)

    to_parts : SameCells ((hs ++ map (cell_of_site (suc l)) (sites_at d (suc l) root)) ++ (cells_under l (pieces_under l st.results) ++ (ks ++ rest))) (flat_map (nodes_before W l) fs ++ (flat_map (stays W l) fs ++ (hs ++ (ks ++ rest))))
    to_parts = same_front hs (map (cell_of_site (suc l)) (sites_at d (suc l) root)) (cells_under l (pieces_under l st.results)) (ks ++ rest) (flat_map (nodes_before W l) fs) (flat_map (stays W l) fs)
        (same_trans (map (cell_of_site (suc l)) (sites_at d (suc l) root) ++ cells_under l (pieces_under l st.results)) (flat_map before fs) (flat_map (nodes_before W l) fs ++ flat_map (stays W l) fs)
        (same_trans (map (cell_of_site (suc l)) (sites_at d (suc l) root) ++ cells_under l (pieces_under l st.results)) (flat_map (λ f. cell_of_site (suc l) f.parent ∷ []) fs ++ flat_map (λ f. cells_under l (placed_left l f)) fs) (flat_map before fs)
        (same_eq _ _ both) (same_sym (flat_map before fs) (flat_map (λ f. cell_of_site (suc l) f.parent ∷ []) fs ++ flat_map (λ f. cells_under l (placed_left l f)) fs) (same_parted (λ f. cell_of_site (suc l) f.parent ∷ []) (λ f. cells_under l (placed_left l f)) fs)))
        (same_trans (flat_map before fs) (flat_map (λ f. nodes_before W l f ++ stays W l f) fs) (flat_map (nodes_before W l) fs ++ flat_map (stays W l) fs)
        (same_each (Known W l) before (λ f. nodes_before W l f ++ stays W l f) (λ f q. parts_before W l f) fs k) (same_parted (nodes_before W l) (stays W l) fs)))
      where
        single : (fs : List (Family l)) → flat_map (λ f. cell_of_site (suc l) f.parent ∷ []) fs ≡ map (cell_of_site (suc l)) (map (λ f. f.parent) fs)
        single [] = refl
        single (f ∷ fs) = ap (λ cs. cell_of_site (suc l) f.parent ∷ cs) (single fs)

        both : map (cell_of_site (suc l)) (sites_at d (suc l) root) ++ cells_under l (pieces_under l st.results) ≡ flat_map (λ f. cell_of_site (suc l) f.parent ∷ []) fs ++ flat_map (λ f. cells_under l (placed_left l f)) fs
        both =
            ap (λ ps. map (cell_of_site (suc l)) ps ++ cells_under l (pieces_under l st.results)) (sym w.parents)
            ∙ ap (λ hs. hs ++ cells_under l (pieces_under l st.results)) (sym (single fs))
            ∙ ap (λ rs. flat_map (λ f. cell_of_site (suc l) f.parent ∷ []) fs ++ cells_under l (pieces_under l rs)) (sym w.children)
            ∙ ap (λ rs. flat_map (λ f. cell_of_site (suc l) f.parent ∷ []) fs ++ cells_under l rs) (flat_flat (λ f. f.children) (λ r. r.pieces) fs)
            ∙ ap (λ rs. flat_map (λ f. cell_of_site (suc l) f.parent ∷ []) fs ++ rs) (flat_flat (λ f. placed_left l f) (λ (child : ℕ × Placed l). cells_of l child.1) fs)

    from_parts : SameCells (flat_map (nodes_after W l) fs ++ (flat_map (stays W l) fs ++ (hs ++ (ks ++ rest)))) (hs ++ (cells_under (suc l) (pieces_under (suc l) (map (result_after W l) fs)) ++ (flat_map kept_cells (st.kept ++ flat_map (kept_after W l) fs) ++ rest)))
    from_parts = same_trans _ (hs ++ (flat_map (λ f. cells_under (suc l) (pieces_after W l f)) fs ++ ((ks ++ flat_map (λ f. flat_map kept_cells (kept_after W l f)) fs) ++ rest))) _
        (same_back hs ks rest (flat_map (nodes_after W l) fs) (flat_map (stays W l) fs) (flat_map (λ f. cells_under (suc l) (pieces_after W l f)) fs) (flat_map (λ f. flat_map kept_cells (kept_after W l f)) fs)
        (same_trans (flat_map (nodes_after W l) fs ++ flat_map (stays W l) fs) (flat_map after fs) (flat_map (λ f. cells_under (suc l) (pieces_after W l f)) fs ++ flat_map (λ f. flat_map kept_cells (kept_after W l f)) fs)
        (same_trans (flat_map (nodes_after W l) fs ++ flat_map (stays W l) fs) (flat_map (λ f. nodes_after W l f ++ stays W l f) fs) (flat_map after fs)
        (same_sym (flat_map (λ f. nodes_after W l f ++ stays W l f) fs) (flat_map (nodes_after W l) fs ++ flat_map (stays W l) fs) (same_parted (nodes_after W l) (stays W l) fs))
        (same_each (Known W l) (λ f. nodes_after W l f ++ stays W l f) after (parts_after W l) fs k))
        (same_parted (λ f. cells_under (suc l) (pieces_after W l f)) (λ f. flat_map kept_cells (kept_after W l f)) fs)))
        (same_eq _ _ (ap (λ cs. hs ++ (cs ++ ((ks ++ flat_map (λ f. flat_map kept_cells (kept_after W l f)) fs) ++ rest))) pieces ∙ ap (λ cs. hs ++ (cells_under (suc l) (pieces_under (suc l) (map (result_after W l) fs)) ++ (cs ++ rest))) kepts))
      where
        pieces : flat_map (λ f. cells_under (suc l) (pieces_after W l f)) fs ≡ cells_under (suc l) (pieces_under (suc l) (map (result_after W l) fs))
        pieces = sym (flat_flat (pieces_after W l) (λ (child : ℕ × Placed (suc l)). cells_of (suc l) child.1) fs) ∙ ap (cells_under (suc l)) (sym (flat_map' (result_after W l) (λ r. r.pieces) fs))

        kepts : ks ++ flat_map (λ f. flat_map kept_cells (kept_after W l f)) fs ≡ flat_map kept_cells (st.kept ++ flat_map (kept_after W l) fs)
        kepts = ap (λ cs. ks ++ cs) (sym (flat_flat (kept_after W l) kept_cells fs)) ∙ sym (flat_map-append kept_cells st.kept (flat_map (kept_after W l) fs))

-- The loose rows.
loose_after : (d l : ℕ) (root : Site (raised l (suc d))) (W : NodeId → Bool) (rest : List Cell) (m m' : NodeId → Option Node) (seen : Changes) (st : Stands (suc d) l root W rest m seen) (fs : List (Family l)) → Worked d l root W st.results m m' fs → AllByRecursion (Known W l) fs
    → IsPermutation (seen.loose ++ flat_map kept_rows (st.kept ++ flat_map (kept_after W l) fs)) (flat_map (loose_of (suc l) d) (map (result_after W l) fs))
loose_after d l root W rest m m' seen st fs w k =
    subst (λ z. IsPermutation z (flat_map (loose_of (suc l) d) (map (result_after W l) fs))) from
    (subst (λ z. IsPermutation ((seen.loose ++ flat_map kept_rows st.kept) ++ flat_map (λ f. gone_of l (placed_left l f)) fs) z) into
    (perm_more (λ f. gone_of l (placed_left l f)) (λ f. flat_map (λ r. (site_pass l r.site).loose) f.children) (seen.loose ++ flat_map kept_rows st.kept) fs
    (subst (λ z. IsPermutation (seen.loose ++ flat_map kept_rows st.kept) z) (loose_passed l d st.results ∙ ap (flat_map (λ r. (site_pass l r.site).loose)) (sym w.children) ∙ flat_flat (λ f. f.children) (λ r. (site_pass l r.site).loose) fs) st.loose)))
  where
    from : (seen.loose ++ flat_map kept_rows st.kept) ++ flat_map (λ f. gone_of l (placed_left l f)) fs ≡ seen.loose ++ flat_map kept_rows (st.kept ++ flat_map (kept_after W l) fs)
    from =
        append_assoc (seen.loose) (flat_map kept_rows st.kept) (flat_map (λ f. gone_of l (placed_left l f)) fs)
        ∙ ap (λ rs. seen.loose ++ (flat_map kept_rows st.kept ++ rs)) (sym (flat_flat (kept_after W l) kept_rows fs ∙ flat_each (Known W l) (λ f. flat_map kept_rows (kept_after W l f)) (λ f. gone_of l (placed_left l f)) (gone_after W l) fs k))
        ∙ ap (λ rs. seen.loose ++ rs) (sym (flat_map-append kept_rows st.kept (flat_map (kept_after W l) fs)))

    into : flat_map (λ f. gone_of l (placed_left l f) ++ flat_map (λ r. (site_pass l r.site).loose) f.children) fs ≡ flat_map (loose_of (suc l) d) (map (result_after W l) fs)
    into =
        sym (flat_each (Known W l) (λ f. (site_pass (suc l) f.parent).loose) (λ f. gone_of l (placed_left l f) ++ flat_map (λ r. (site_pass l r.site).loose) f.children) (λ f q. parent_loose l f.parent f.children q.family q.right) fs k)
        ∙ sym (flat_map' (result_after W l) (loose_of (suc l) d) fs)

-- Where the changes stand for a level, the changes of its families stand for the next.
pub level_stands : (d l : ℕ) (root : Site (raised l (suc d))) (W : NodeId → Bool) (rest : List Cell) (m m' : NodeId → Option Node) (seen : Changes) (st : Stands (suc d) l root W rest m seen) (fs : List (Family l)) → Worked d l root W st.results m m' fs
    → Stands d (suc l) root W rest m' (record { nodes = map (change_of (suc l)) (filter (is_hit W (suc l)) (map (result_after W l) fs)); loose = seen.loose; removed = seen.removed ++ map removed_of (flat_map (kept_after W l) fs) })
level_stands d l root W rest m m' seen st fs w =
    let k = known_all d l root W rest m m' seen st fs w in
    record {
      results = map (result_after W l) fs;
      kept = st.kept ++ flat_map (kept_after W l) fs;
      sites = map_map (result_after W l) (λ r. r.site) fs ∙ w.parents;
      still = all_map (StandsForItself W (suc l)) (result_after W l) fs (every_weaker (Known W l) (λ f. StandsForItself W (suc l) (result_after W l f)) (λ f q. still_after W l f) fs k);
      right = all_map (IsPassed (suc l)) (result_after W l) fs (every_weaker (Known W l) (λ f. IsPassed (suc l) (result_after W l f)) (right_after W l) fs k);
      changed = refl;
      removed = ap (λ rs. rs ++ map removed_of (flat_map (kept_after W l) fs)) st.removed ∙ sym (map-append removed_of st.kept (flat_map (kept_after W l) fs));
      loose = loose_after d l root W rest m m' seen st fs w k;
      owned = owned_after d l root W rest m m' seen st fs w k;
      untouched = untouched_next d l root W m m' (flat_map (nodes_after W l) fs) (subst (λ cs. Turns m m' cs (flat_map (nodes_after W l) fs)) worked w.turned) st.untouched;
    }
  where
    worked : flat_map (nodes_before W l) fs ≡ flat_map (touched_own W (suc l)) (sites_at d (suc l) root)
    worked = sym (flat_map' (λ f. f.parent) (touched_own W (suc l)) fs) ∙ ap (flat_map (touched_own W (suc l))) w.parents
