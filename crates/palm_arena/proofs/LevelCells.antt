-- The cells of a tree by its levels: the nodes above a level, and the subtrees at it.
use Rattle.std.proofs.Common.{◌≡◌, ℕ, zero, suc, List, [], ◌∷◌, ◌++◌, map, refl, sym, ap, ◌∙◌, append_assoc}
use Rattle.std.specs.List.{flat_map, filter}
use Rattle.std.proofs.lemmas.List.{append-nil}
use Rattle.palm_base.specs.Pass.{goes_right}
use Rattle.palm_base.specs.declared.call.Call.{Call}
use Rattle.palm_node.specs.declared.id.NodeId.{NodeId}
use Rattle.palm_arena.specs.Cells.{SameCells}
use Rattle.palm_arena.specs.Placed.{Placed, cells_of, cells_under}
use Rattle.palm_arena.specs.Sites.{Site, sites_of_children, sites_below, raised, sites_at, cell_of_site, cells_above}
use Rattle.palm_arena.proofs.CellLists.{same_append, same_eq, same_trans}
use Rattle.palm_arena.proofs.ListParts.{same_parted, flat_flat, flat_map'}

-- The sites of children are the children.
pub sites_children : (l : ℕ) (path : List (NodeId × ℕ)) (id : NodeId) (i : ℕ) (children : List (ℕ × Placed l)) (edits : List Call)
    → map {B = ℕ × Placed l} (λ site. (site.low, site.place)) (sites_of_children l path id i children edits) ≡ children
sites_children l path id i [] edits = refl
sites_children l path id i (child ∷ []) edits = refl
sites_children l path id i (child ∷ next ∷ children) edits = ap (λ cs. child ∷ cs) (sites_children l path id (suc i) (next ∷ children) (filter (goes_right next.0) edits))

pub children_cells : (l : ℕ) (site : Site (suc l)) → flat_map (λ s. cells_of l s.place) (sites_below l site) ≡ cells_under l site.place.1
children_cells l site =
    sym (flat_map' {Y = ℕ × Placed l} (λ s. (s.low, s.place)) (λ child. cells_of l child.1) (sites_below l site))
    ∙ ap (cells_under l) (sites_children l site.path site.place.0 0 site.place.1 site.edits)

-- A tree's cells are the nodes above a level and the subtrees at it.
pub level_cells : (d l : ℕ) (root : Site (raised l d)) → SameCells (cells_of (raised l d) root.place) (cells_above d l root ++ flat_map (λ site. cells_of l site.place) (sites_at d l root))
level_cells zero l root = same_eq (cells_of l root.place) (cells_of l root.place ++ []) (sym (append-nil (cells_of l root.place)))
level_cells (suc d) l root =
    let parents = sites_at d (suc l) root in
    let heads = map (cell_of_site (suc l)) parents in
    let under = flat_map (λ site. cells_of l site.place) (flat_map (sites_below l) parents) in
    same_trans (cells_of (raised (suc l) d) root.place) (cells_above d (suc l) root ++ flat_map (λ site. cells_of (suc l) site.place) parents) ((cells_above d (suc l) root ++ heads) ++ under) (level_cells d (suc l) root)
    (same_trans (cells_above d (suc l) root ++ flat_map (λ site. cells_of (suc l) site.place) parents) (cells_above d (suc l) root ++ (heads ++ under)) ((cells_above d (suc l) root ++ heads) ++ under)
    (same_append (cells_above d (suc l) root) (cells_above d (suc l) root) (flat_map (λ site. cells_of (suc l) site.place) parents) (heads ++ under) (λ i. refl)
    (same_trans (flat_map (λ site. cells_of (suc l) site.place) parents) (flat_map (λ site. cell_of_site (suc l) site ∷ []) parents ++ flat_map (λ site. cells_under l site.place.1) parents) (heads ++ under)
    (same_parted (λ site. cell_of_site (suc l) site ∷ []) (λ site. cells_under l site.place.1) parents)
    (same_eq _ (heads ++ under) (ap (λ cs. cs ++ flat_map (λ site. cells_under l site.place.1) parents) (single parents) ∙ ap (λ cs. heads ++ cs) (lower parents ∙ sym (flat_flat (sites_below l) (λ site. cells_of l site.place) parents))))))
    (same_eq (cells_above d (suc l) root ++ (heads ++ under)) ((cells_above d (suc l) root ++ heads) ++ under) (sym (append_assoc (cells_above d (suc l) root) heads under))))
  where
    single : (sites : List (Site (suc l))) → flat_map (λ site. cell_of_site (suc l) site ∷ []) sites ≡ map (cell_of_site (suc l)) sites
    single [] = refl
    single (site ∷ sites) = ap (λ cs. cell_of_site (suc l) site ∷ cs) (single sites)

    lower : (sites : List (Site (suc l))) → flat_map (λ site. cells_under l site.place.1) sites ≡ flat_map (λ site. flat_map (λ s. cells_of l s.place) (sites_below l site)) sites
    lower [] = refl
    lower (site ∷ sites) = ap (λ cs. cs ++ flat_map (λ s. cells_under l s.place.1) sites) (sym (children_cells l site)) ∙ ap (λ cs. flat_map (λ s. cells_of l s.place) (sites_below l site) ++ cs) (lower sites)
