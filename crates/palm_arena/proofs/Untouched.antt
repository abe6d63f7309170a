-- Nodes that a pass leaves alone: a map that holds cells holds them still where other cells turn, and the untouched nodes of
-- a level are those of the level below with its own.
use Rattle.std.proofs.Common.{◌≡◌, ℕ, suc, Bool, true, false, cond, List, [], ◌∷◌, ◌++◌, map, refl, sym, ap, ◌∙◌, append_assoc, subst}
use Rattle.std.specs.Prelude.{Option}
use Rattle.std.specs.List.{flat_map}
use Rattle.std.proofs.lemmas.List.{append-nil}
use Rattle.palm_node.specs.declared.id.NodeId.{NodeId}
use Rattle.palm_node.specs.declared.node.Node.{Node}
use Rattle.palm_arena.specs.Cells.{Cell, Owns, HasCells, SameCells, Turns, found_at}
use Rattle.palm_arena.specs.Placed.{Placed}
use Rattle.palm_arena.specs.Sites.{Site, raised, sites_below, sites_at, cell_of_site, cells_above}
use Rattle.palm_arena.specs.Standing.{is_touched, untouched_own, untouched_cells, untouched_at}
use Rattle.palm_arena.proofs.CellLists.{owned_same, same_append, same_eq, same_front, same_pass, same_sym, same_trans}
use Rattle.palm_arena.proofs.LevelCells.{sites_children}
use Rattle.palm_arena.proofs.ListParts.{same_parted, flat_flat, flat_map'}

-- ---- cells that a map holds

pub has_same : (m : NodeId → Option Node) (xs ys : List Cell) → HasCells m xs → SameCells xs ys → HasCells m ys
has_same m xs ys has same = (has.0, owned_same m (xs ++ has.0) (ys ++ has.0) has.1 (same_append xs ys has.0 has.0 same (λ i. refl)))

pub has_last : (m : NodeId → Option Node) (xs ys : List Cell) → HasCells m (xs ++ ys) → HasCells m ys
has_last m xs ys has = (
  xs ++ has.0,
  owned_same m ((xs ++ ys) ++ has.0) (ys ++ (xs ++ has.0)) has.1 (same_trans ((xs ++ ys) ++ has.0) (xs ++ (ys ++ has.0)) (ys ++ (xs ++ has.0)) (same_eq ((xs ++ ys) ++ has.0) (xs ++ (ys ++ has.0)) (append_assoc xs ys has.0)) (same_pass xs ys has.0)),
)

pub has_turned : (m m' : NodeId → Option Node) (before after cells : List Cell) → Turns m m' before after → HasCells m (before ++ cells) → HasCells m' cells
has_turned m m' before after cells turns has =
    let now : Owns m' (after ++ (cells ++ has.0)) = turns (cells ++ has.0) (subst (Owns m) (append_assoc before cells has.0) has.1) in
    has_last m' after cells (has.0, subst (Owns m') (sym (append_assoc after cells has.0)) now)

-- ---- from a level to the next

-- What is under the sites of a node's children is what is under its children.
pub under_sites : (l : ℕ) (f : Placed l → List Cell) (site : Site (suc l)) → flat_map (λ s. f s.place) (sites_below l site) ≡ flat_map (λ child. f child.1) site.place.1
under_sites l f site =
    sym (flat_map' {Y = ℕ × Placed l} (λ s. (s.low, s.place)) (λ child. f child.1) (sites_below l site))
    ∙ ap (flat_map (λ child. f child.1)) (sites_children l site.path site.place.0 0 site.place.1 site.edits)

-- The node's own cell, where it is touched.
abbrev pub touched_own : (NodeId → Bool) → (l : ℕ) → Site l → List Cell
touched_own touched l site = let own = cell_of_site l site ∷ [] in cond (is_touched touched l site.place) own []

-- The nodes of a level are the touched and the untouched ones.
parted : (touched : NodeId → Bool) (l : ℕ) (sites : List (Site l)) → SameCells (map (cell_of_site l) sites) (flat_map (touched_own touched l) sites ++ flat_map (λ site. untouched_own touched l site.place) sites)
parted touched l sites =
    same_trans (map (cell_of_site l) sites) (flat_map (λ site. touched_own touched l site ++ untouched_own touched l site.place) sites) _
    (same_eq (map (cell_of_site l) sites) (flat_map (λ site. touched_own touched l site ++ untouched_own touched l site.place) sites) (each sites))
    (same_parted (touched_own touched l) (λ site. untouched_own touched l site.place) sites)
  where
    by : (cell : Cell) (b : Bool) → cell ∷ [] ≡ cond b (cell ∷ []) [] ++ cond b [] (cell ∷ [])
    by cell true = refl
    by cell false = refl

    each : (sites : List (Site l)) → map (cell_of_site l) sites ≡ flat_map (λ site. touched_own touched l site ++ untouched_own touched l site.place) sites
    each [] = refl
    each (site ∷ sites) =
        ap (λ cs. cell_of_site l site ∷ cs) (each sites)
        ∙ ap (λ cs. cs ++ flat_map (λ site. touched_own touched l site ++ untouched_own touched l site.place) sites) (by (cell_of_site l site) (is_touched touched l site.place))

-- The untouched nodes of a level and under it are its own and those of the level below.
joined : (touched : NodeId → Bool) (l : ℕ) (sites : List (Site (suc l))) → SameCells (flat_map (λ site. untouched_own touched (suc l) site.place) sites ++ untouched_at touched l (flat_map (sites_below l) sites)) (untouched_at touched (suc l) sites)
joined touched l sites =
    same_trans _ (flat_map own sites ++ flat_map under sites) (untouched_at touched (suc l) sites)
    (same_eq (flat_map own sites ++ untouched_at touched l (flat_map (sites_below l) sites)) (flat_map own sites ++ flat_map under sites) (ap (λ cs. flat_map own sites ++ cs) (flat_flat (sites_below l) (λ site. untouched_cells touched l site.place) sites ∙ lower sites)))
    (same_sym (untouched_at touched (suc l) sites) (flat_map own sites ++ flat_map under sites) (same_parted own under sites))
  where
    own : Site (suc l) → List Cell
    own site = untouched_own touched (suc l) site.place

    under : Site (suc l) → List Cell
    under site = flat_map (λ child. untouched_cells touched l child.1) site.place.1

    lower : (sites : List (Site (suc l))) → flat_map (λ site. flat_map (λ s. untouched_cells touched l s.place) (sites_below l site)) sites ≡ flat_map under sites
    lower [] = refl
    lower (site ∷ sites) =
        ap (λ cs. cs ++ flat_map (λ site. flat_map (λ s. untouched_cells touched l s.place) (sites_below l site)) sites) (under_sites l (untouched_cells touched l) site)
        ∙ ap (λ cs. under site ++ cs) (lower sites)

-- Where the touched nodes of a level give way to others, the untouched ones stay.
pub untouched_next : (d l : ℕ) (root : Site (raised l (suc d))) (touched : NodeId → Bool) (m m' : NodeId → Option Node) (after : List Cell) → Turns m m' (flat_map (touched_own touched (suc l)) (sites_at d (suc l) root)) after
    → HasCells m (cells_above (suc d) l root ++ untouched_at touched l (sites_at (suc d) l root)) → HasCells m' (cells_above d (suc l) root ++ untouched_at touched (suc l) (sites_at d (suc l) root))
untouched_next d l root touched m m' after turns has =
    has_same m' (own ++ (hs ++ under)) (hs ++ untouched_at touched (suc l) sites)
    (has_turned m m' worked after (own ++ (hs ++ under)) turns
    (has_same m ((hs ++ map (cell_of_site (suc l)) sites) ++ under) (worked ++ (own ++ (hs ++ under))) has
    (same_front hs (map (cell_of_site (suc l)) sites) [] under worked own (λ i. ap (found_at i) (append-nil (map (cell_of_site (suc l)) sites)) ∙ parted touched (suc l) sites i))))
    (same_trans (own ++ (hs ++ under)) (hs ++ (own ++ under)) (hs ++ untouched_at touched (suc l) sites) (same_pass own hs under)
    (same_append hs hs (own ++ under) (untouched_at touched (suc l) sites) (λ i. refl) (joined touched l sites)))
  where
    sites : List (Site (suc l))
    sites = sites_at d (suc l) root

    hs : List Cell
    hs = cells_above d (suc l) root

    worked : List Cell
    worked = flat_map (touched_own touched (suc l)) sites

    own : List Cell
    own = flat_map (λ site. untouched_own touched (suc l) site.place) sites

    under : List Cell
    under = untouched_at touched l (flat_map (sites_below l) sites)
