-- What a pass gives the leaf stage, and what the stage gives it back.
use Rattle.std.proofs.Common.{◌≡◌, ℕ, zero, suc, ◌≤◌, Bool, true, false, cond, List, [], ◌∷◌, ◌++◌, length, map, Some, refl, sym, ap, ◌∙◌, append_assoc, subst, arith, eq-eqb}
use Rattle.std.specs.Prelude.{Option}
use Rattle.std.specs.List.{flat_map, AllByRecursion}
use Rattle.std.proofs.lemmas.Bool.{le-ltb, ne_eqb}
use Rattle.palm_base.specs.Table.{after_all}
use Rattle.palm_base.specs.Cut.{cut}
use Rattle.palm_base.specs.Pass.{Outcome, pass, is_small}
use Rattle.palm_base.specs.Lawful.{Root}
use Rattle.palm_base.specs.declared.bounds.TheConstants.{LEAST_LEAF_ROWS, MOST_LEAF_ROWS}
use Rattle.palm_base.specs.declared.row.Row.{Row}
use Rattle.palm_base.proofs.CutParts.{large}
use Rattle.palm_base.proofs.Cuts.{few_are_one_piece}
use Rattle.palm_base.proofs.Every.{every_weaker}
use Rattle.palm_node.specs.declared.id.NodeId.{NodeId}
use Rattle.palm_node.specs.declared.node.Node.{Node}
use Rattle.palm_node.specs.declared.node.Node.TheVariants.{Leaf}
use Rattle.palm_arena.specs.declared.shape.Shape.{Shape}
use Rattle.palm_arena.specs.Cells.{Cell, Owns, SameCells}
use Rattle.palm_arena.specs.Placed.{Placed, value_in}
use Rattle.palm_arena.specs.Sites.{Site, raised, sites_at, cells_above, outcome_at}
use Rattle.palm_arena.specs.Passes.{Pass, is_among, root_site, leaf_sites, Begins, StandsAt}
use Rattle.palm_arena.proofs.CellLists.{owned_same, same_append, same_trans, same_eq}
use Rattle.palm_arena.proofs.OwnedTrees.{first_holds}
use Rattle.palm_arena.proofs.ListParts.{same_parted, map_all, all_both}
use Rattle.palm_route.specs.Edits.{edits_of}
use Rattle.palm_route.specs.declared.part.Part.{Part}
use Rattle.palm_route.specs.declared.part.Group.{Group}
use Rattle.palm_leaf.specs.Answers.{rows_at, rows_in_node}
use Rattle.palm_leaf.specs.Ends.{LeafEnd, LeavesEnd, end_of, group_cells}
use Rattle.palm_leaf.specs.Loads.{LeafLoad, IsLoad, load_group, Loads}
use Rattle.palm_leaf.specs.Routed.{HasKey, IsRouted, written_low}
use Rattle.palm_leaf.specs.Stage.{least_of, HasGroups, LeavesDone}
use Rattle.palm_leaf.specs.Worked.{leaf_left}
use Rattle.palm_leaf.specs.declared.settling.Gathered.{Gathered}
use Rattle.palm_leaf.proofs.Loads.{loads_of}
use Rattle.palm_leaf.proofs.LoadFacts.{raised_sum, by_levels, leaf_sites_are, load_cell, loads_owned, has_parts, hits, IsFull, root_full}
use Rattle.palm_leaf.proofs.LeafStands.{IsStillLoad, end_by, load_ends, leaves_stand}

-- A pass whose root is counted up from the leaves.
abbrev pass_at : (d : ℕ) → Placed (raised zero d) → Pass → Pass
pass_at d place p = record { tree = (raised zero d, place); edits = p.edits; routed = p.routed; rest = p.rest }

-- ---- groups of loads

abbrev IsHeld : (NodeId → Option Node) → LeafLoad → Type 0
IsHeld nodes load = nodes load.site.place.0 ≡ Some (Leaf load.site.place.1)

loads_held : (nodes : NodeId → Option Node) (loads : List LeafLoad) → AllByRecursion (λ cell. nodes cell.0 ≡ Some cell.1) (map load_cell loads) → AllByRecursion (IsHeld nodes) loads
loads_held nodes [] held = tt
loads_held nodes (load ∷ loads) held = (held.0, loads_held nodes loads held.1)

abbrev touched_cells : List LeafLoad → List Cell
touched_cells loads = flat_map (λ load. cond (has_parts load.parts) (load_cell load ∷ []) []) loads

abbrev still_cells : List LeafLoad → List Cell
still_cells loads = flat_map (λ load. cond (has_parts load.parts) [] (load_cell load ∷ [])) loads

groups_are_touched : (nodes : NodeId → Option Node) (loads : List LeafLoad) → AllByRecursion (IsHeld nodes) loads → group_cells nodes (flat_map load_group loads) ≡ touched_cells loads
groups_are_touched nodes [] held = refl
groups_are_touched nodes (load ∷ loads) held = by load.site load.low load.parts held.0 (groups_are_touched nodes loads held.1)
  where
    by : (site : Site zero) (low : ℕ) (parts : List Part) → nodes site.place.0 ≡ Some (Leaf site.place.1) → group_cells nodes (flat_map load_group loads) ≡ touched_cells loads
        → group_cells nodes (load_group (record { site = site; low = low; parts = parts }) ++ flat_map load_group loads) ≡ cond (has_parts parts) ((site.place.0, Leaf site.place.1) ∷ []) [] ++ touched_cells loads
    by site low [] one rest = rest
    by site low (part ∷ parts) one rest =
        ap (λ (o : Option Node). let cells : List Cell = (site.place.0, Leaf (rows_in_node o)) ∷ group_cells nodes (flat_map load_group loads) in cells) one ∙ ap (λ (cs : List Cell). (site.place.0, Leaf site.place.1) ∷ cs) rest

load_parted : (loads : List LeafLoad) → SameCells (map load_cell loads) (touched_cells loads ++ still_cells loads)
load_parted loads =
    same_trans (map load_cell loads) (flat_map (λ (load : LeafLoad). touched load ++ still load) loads) (touched_cells loads ++ still_cells loads) (one loads) (same_parted touched still loads)
  where
    touched : LeafLoad → List Cell
    touched load = cond (has_parts load.parts) (load_cell load ∷ []) []

    still : LeafLoad → List Cell
    still load = cond (has_parts load.parts) [] (load_cell load ∷ [])

    both : (b : Bool) (cell : Cell) → SameCells (cell ∷ []) (cond b (cell ∷ []) [] ++ cond b [] (cell ∷ []))
    both true cell i = refl
    both false cell i = refl

    one : (ls : List LeafLoad) → SameCells (map load_cell ls) (flat_map (λ (load : LeafLoad). touched load ++ still load) ls)
    one [] = λ i. refl
    one (load ∷ ls) = same_append (load_cell load ∷ []) (touched load ++ still load) (map load_cell ls) (flat_map (λ (l : LeafLoad). touched l ++ still l) ls) (both (has_parts load.parts) (load_cell load)) (one ls)

group_facts : (P : List Part → Type 0) → ((part : Part) (parts : List Part) → AllByRecursion HasKey (part ∷ parts) → P (part ∷ parts)) → (loads : List LeafLoad) → AllByRecursion IsLoad loads → AllByRecursion (λ group. P group.parts) (flat_map load_group loads)
group_facts P make [] each = tt
group_facts P make (load ∷ loads) each = by load.site load.low load.parts each.0.keys (group_facts P make loads each.1)
  where
    by : (site : Site zero) (low : ℕ) (parts : List Part) → AllByRecursion HasKey parts → AllByRecursion (λ group. P group.parts) (flat_map load_group loads)
        → AllByRecursion (λ group. P group.parts) (load_group (record { site = site; low = low; parts = parts }) ++ flat_map load_group loads)
    by site low [] keys rest = rest
    by site low (part ∷ parts) keys rest = (make part parts keys, rest)

-- What the serial rule makes of a leaf is what its rows are left as.
abbrev IsCut : ℕ → ℕ → LeafLoad → Type 0
IsCut least d load = leaf_left least load.site.low (after_all load.site.place.1 load.site.edits) ≡ outcome_at zero d load.site

ends_of_groups : (nodes : NodeId → Option Node) (least d : ℕ) (loads : List LeafLoad) → AllByRecursion IsLoad loads → AllByRecursion (IsHeld nodes) loads → AllByRecursion (IsCut least d) loads
    → map (end_of nodes least) (flat_map load_group loads) ≡ load_ends d loads
ends_of_groups nodes least d [] each held fits = refl
ends_of_groups nodes least d (load ∷ loads) each held fits = by load.site load.low load.parts each.0 held.0 fits.0 (ends_of_groups nodes least d loads each.1 held.1 fits.1)
  where
    by : (site : Site zero) (low : ℕ) (parts : List Part) → IsLoad (record { site = site; low = low; parts = parts }) → nodes site.place.0 ≡ Some (Leaf site.place.1) → leaf_left least site.low (after_all site.place.1 site.edits) ≡ outcome_at zero d site
        → map (end_of nodes least) (flat_map load_group loads) ≡ load_ends d loads
        → map (end_of nodes least) (load_group (record { site = site; low = low; parts = parts }) ++ flat_map load_group loads) ≡ end_by d site parts ++ load_ends d loads
    by site low [] is held cut rest = rest
    by site low (part ∷ parts) is held cut rest =
        let parts' = part ∷ parts in
        let end : Outcome zero → LeafEnd = λ (o : Outcome zero). record { node = site.place.0; path = site.path; outcome = o } in
        let outcome : leaf_left least (written_low site.path low) (after_all (rows_at nodes site.place.0) (edits_of parts')) ≡ outcome_at zero d site =
        ap (λ (l : ℕ). leaf_left least l (after_all (rows_at nodes site.place.0) (edits_of parts'))) (sym is.low-is)
        ∙ ap (λ (o : Option Node). leaf_left least site.low (after_all (rows_in_node o) (edits_of parts'))) held
        ∙ ap (λ edits. leaf_left least site.low (after_all site.place.1 edits)) (sym is.edits-are) ∙ cut in
        ap (λ (e : LeafEnd). e ∷ map (end_of nodes least) (flat_map load_group loads)) (ap end outcome) ∙ ap (λ (es : List LeafEnd). end (outcome_at zero d site) ∷ es) rest

-- ---- what the serial rule makes of a leaf

never_small : (rows : List Row) → is_small 0 rows ≡ false
never_small [] = refl
never_small (row ∷ rows) = le-ltb (length (row ∷ rows)) 0 (omega arith)

no_parts : (parts : List Part) → has_parts parts ≡ false → parts ≡ []
no_parts [] none = refl
no_parts (part ∷ parts) none = absurd cc

-- A leaf that is a root.
root_cut : (site : Site zero) → site.low ≡ 0 → leaf_left 0 site.low (after_all site.place.1 site.edits) ≡ outcome_at zero zero site
root_cut site low = rw (never_small (after_all site.place.1 site.edits), low) refl

one_load : (root : Site zero) (loads : List LeafLoad) → map (λ load. load.site) loads ≡ root ∷ [] → root.low ≡ 0 → AllByRecursion (IsCut 0 zero) loads × AllByRecursion (IsStillLoad zero) loads
one_load root [] sites low = absurd cc
one_load root (load ∷ later ∷ loads) sites low = absurd cc
one_load root (load ∷ []) sites low =
    let same : load.site ≡ root = cc in
    ((root_cut load.site (ap (λ (s : Site zero). s.low) same ∙ low), tt), ((λ none. tt), tt))

-- A leaf below the root.
full_still : (d : ℕ) (load : LeafLoad) → IsLoad load → IsFull load.site → IsStillLoad (suc d) load
unfolding pass
full_still d load is full none =
    let rows = load.site.place.1 in
    let edits : load.site.edits ≡ [] = is.edits-are ∙ ap edits_of (no_parts load.parts none) in
    rw (edits, large LEAST_LEAF_ROWS rows full.0, few_are_one_piece MOST_LEAF_ROWS rows (omega (arith, full.0)) full.1) refl

below_cut : (d : ℕ) (load : LeafLoad) → IsCut LEAST_LEAF_ROWS (suc d) load
unfolding pass
below_cut d load = refl

all_below_cut : (d : ℕ) (loads : List LeafLoad) → AllByRecursion (IsCut LEAST_LEAF_ROWS (suc d)) loads
all_below_cut d [] = tt
all_below_cut d (load ∷ loads) = (below_cut d load, all_below_cut d loads)

lawful_full : (n high : ℕ) (site : Site n) → 1 ≤ n → Root n high (value_in n site.place.1) → AllByRecursion IsFull (leaf_sites n site)
lawful_full zero high site some root = absurd (omega arith)
lawful_full (suc n) high site some root = root_full n high site root

least_root : (shape : Shape) → shape.levels ≡ 1 → least_of shape ≡ 0
least_root shape one = ap (λ b. cond b 0 LEAST_LEAF_ROWS) (eq-eqb shape.levels 1 one)

least_below : (shape : Shape) (n : ℕ) → shape.levels ≡ suc n → 1 ≤ n → least_of shape ≡ LEAST_LEAF_ROWS
least_below shape n levels some = ap (λ b. cond b 0 LEAST_LEAF_ROWS) (ne_eqb shape.levels 1 (λ e. omega (arith, levels, e)))

-- ---- the facts of a pass

pub record PassFacts (d : ℕ) (place : Placed (raised zero d)) (p : Pass) (nodes : NodeId → Option Node) (shape : Shape) (groups : List Group) : Type 0 where
  pub loads : List LeafLoad
  pub groups-are : groups ≡ flat_map load_group loads
  pub each : AllByRecursion IsLoad loads
  pub sites-are : map (λ load. load.site) loads ≡ sites_at d zero (root_site (pass_at d place p))
  pub owned : Owns nodes (map load_cell loads ++ (cells_above d zero (root_site (pass_at d place p)) ++ p.rest))
  pub held : AllByRecursion (IsHeld nodes) loads
  pub cuts : AllByRecursion (IsCut (least_of shape) d) loads
  pub stills : AllByRecursion (IsStillLoad d) loads

pass_facts : (d : ℕ) (place : Placed (raised zero d)) (p : Pass) (nodes : NodeId → Option Node) (shape : Shape) (groups : List Group) (parts : List Part)
    → Begins (pass_at d place p) nodes shape → IsRouted (pass_at d place p) nodes shape groups parts → PassFacts d place p nodes shape groups
pass_facts d place p nodes shape groups parts begins routed =
    let l = loads_of (pass_at d place p) nodes shape groups parts begins routed in
    let root = root_site (pass_at d place p) in
    let sites = l.sites-are ∙ leaf_sites_are d root in
    let owned = loads_owned d root p.rest nodes l.loads sites begins.owned in
    let fits = by d place begins routed l sites in
    record {
      loads = l.loads;
      groups-are = l.groups-are;
      each = l.each;
      sites-are = sites;
      owned = owned;
      held = loads_held nodes l.loads (first_holds nodes (map load_cell l.loads) (cells_above d zero root ++ p.rest) owned);
      cuts = fits.0;
      stills = fits.1;
    }
  where
    by : (d : ℕ) (place : Placed (raised zero d)) → Begins (pass_at d place p) nodes shape → IsRouted (pass_at d place p) nodes shape groups parts → (l : Loads (pass_at d place p) groups)
        → map (λ load. load.site) l.loads ≡ sites_at d zero (root_site (pass_at d place p)) → AllByRecursion (IsCut (least_of shape) d) l.loads × AllByRecursion (IsStillLoad d) l.loads
    by zero place begins routed l sites =
        subst (λ least. AllByRecursion (IsCut least zero) l.loads × AllByRecursion (IsStillLoad zero) l.loads) (sym (least_root shape begins.levels))
        (one_load (root_site (pass_at zero place p)) l.loads sites refl)
    by (suc d) place begins routed l sites =
        let n = raised zero (suc d) in
        let some : 1 ≤ n = omega (arith, raised_sum zero (suc d)) in
        let lawful = begins.is-pass.lawful in
        let full = lawful_full n lawful.0 (root_site (pass_at (suc d) place p)) some lawful.1 in
        let fulls = map_all IsFull (λ (load : LeafLoad). load.site) l.loads (subst (AllByRecursion IsFull) (sym l.sites-are) full) in (
          subst (λ least. AllByRecursion (IsCut least (suc d)) l.loads) (sym (least_below shape n begins.levels some)) (all_below_cut d l.loads),
          every_weaker (λ (load : LeafLoad). IsLoad load × IsFull load.site) (IsStillLoad (suc d)) (λ load both. full_still d load both.0 both.1) l.loads (all_both IsLoad (λ (load : LeafLoad). IsFull load.site) l.loads l.each fulls),
        )

-- ---- what the stage takes and gives

pub has_groups : (p : Pass) (nodes : NodeId → Option Node) (shape : Shape) (groups : List Group) (parts : List Part) → Begins p nodes shape → IsRouted p nodes shape groups parts → HasGroups nodes groups
has_groups p nodes shape groups parts =
    by_levels (λ p. Begins p nodes shape → IsRouted p nodes shape groups parts → HasGroups nodes groups)
    (λ d place p begins routed.
    let facts = pass_facts d place p nodes shape groups parts begins routed in
    let loads = facts.loads in
    let others = cells_above d zero (root_site (pass_at d place p)) ++ p.rest in
    let touched = touched_cells loads in
    let still = still_cells loads in
    let cells : group_cells nodes groups ≡ touched = ap (group_cells nodes) facts.groups-are ∙ groups_are_touched nodes loads facts.held in
    record {
      leaves = (
        still ++ others,
        subst (λ (cs : List Cell). Owns nodes (cs ++ (still ++ others))) (sym cells)
            (owned_same nodes (map load_cell loads ++ others) (touched ++ (still ++ others)) facts.owned
            (same_trans (map load_cell loads ++ others) ((touched ++ still) ++ others) (touched ++ (still ++ others)) (same_append (map load_cell loads) (touched ++ still) others others (load_parted loads) (λ i. refl))
            (same_eq ((touched ++ still) ++ others) (touched ++ (still ++ others)) (append_assoc touched still others)))),
      );
      keys = subst (AllByRecursion (λ (group : Group). AllByRecursion HasKey group.parts)) (sym facts.groups-are) (group_facts (AllByRecursion HasKey) (λ part parts keys. keys) loads facts.each);
      some = subst (AllByRecursion (λ (group : Group). 1 ≤ length group.parts)) (sym facts.groups-are) (group_facts (λ parts. 1 ≤ length parts) (λ part parts keys. omega arith) loads facts.each);
    })
    p

pub stands_at : (p : Pass) (old new : NodeId → Option Node) (shape : Shape) (groups : List Group) (parts : List Part) (gathered : Gathered) → Begins p old shape → IsRouted p old shape groups parts → LeavesDone old new (least_of shape) groups gathered
    → StandsAt p 1 new (record { nodes = gathered.nodes; loose = gathered.loose.items; removed = [] })
stands_at p old new shape groups parts gathered =
    by_levels (λ p. Begins p old shape → IsRouted p old shape groups parts → LeavesDone old new (least_of shape) groups gathered → StandsAt p 1 new (record { nodes = gathered.nodes; loose = gathered.loose.items; removed = [] }))
    (λ d place p begins routed done.
    let facts = pass_facts d place p old shape groups parts begins routed in
    let loads = facts.loads in
    let root = root_site (pass_at d place p) in
    let ends : map (end_of old (least_of shape)) groups ≡ load_ends d loads = ap (map (end_of old (least_of shape))) facts.groups-are ∙ ends_of_groups old (least_of shape) d loads facts.each facts.held facts.cuts in
    let cells : group_cells old groups ≡ touched_cells loads = ap (group_cells old) facts.groups-are ∙ groups_are_touched old loads facts.held in
    let ended : LeavesEnd old new (touched_cells loads) (load_ends d loads) gathered.nodes gathered.loose.items =
    subst (λ (es : List LeafEnd). LeavesEnd old new (touched_cells loads) es gathered.nodes gathered.loose.items) ends
    (subst (λ (cs : List Cell). LeavesEnd old new cs (map (end_of old (least_of shape)) groups) gathered.nodes gathered.loose.items) cells done.ends) in
    let ids : p.routed ≡ map (λ (group : Group). group.leaf) (flat_map load_group loads) = routed.routed-are ∙ ap (map (λ (group : Group). group.leaf)) facts.groups-are in
    let hit = hits old loads (cells_above d zero root ++ p.rest) facts.owned in
    record {
      is-pass = begins.is-pass;
      d = d;
      l = zero;
      root = root;
      level-is = refl;
      tree-is = refl;
      path-is = refl;
      low-is = refl;
      edits-are = refl;
      stands = leaves_stand d root (is_among p.routed) p.rest old new loads gathered.nodes gathered.loose.items facts.sites-are facts.stills
          (subst (λ (ids : List NodeId). AllByRecursion (λ (load : LeafLoad). is_among ids load.site.place.0 ≡ has_parts load.parts) loads) (sym ids) hit) facts.owned ended;
    })
    p
