-- A pass over the parts of a batch begins where a map holds a lawful tree.
use Rattle.std.proofs.Common.{◌≡◌, ℕ, zero, suc, Bool, true, false, ◌||◌, List, [], ◌∷◌, ◌++◌, map, refl, sym, ap, ◌∙◌, append_assoc, subst}
use Rattle.std.specs.Prelude.{Option}
use Rattle.std.specs.List.{flat_map, AllByRecursion}
use Rattle.std.proofs.lemmas.Bool.{eq-eqb}
use Rattle.palm_base.specs.Lawful.{IsLawful}
use Rattle.palm_base.specs.Lows.{LowsAreKeys, SetsPrefix}
use Rattle.palm_base.specs.Pass.{is_edit}
use Rattle.palm_base.specs.Table.{after_all}
use Rattle.palm_node.specs.declared.id.NodeId.{NodeId}
use Rattle.palm_node.specs.declared.node.Node.{Node}
use Rattle.palm_arena.specs.declared.shape.Shape.{Shape}
use Rattle.palm_arena.proofs.ListParts.{map_map}
use Rattle.palm_arena.specs.Cells.{Owns}
use Rattle.palm_arena.specs.Leaves.{leaves_at}
use Rattle.palm_arena.specs.Placed.{PlacedTree, cells_of, value_of}
use Rattle.palm_arena.specs.Passes.{Pass, is_among, root_site, leaf_sites, IsTouchedOrStill, Begins}
use Rattle.palm_arena.specs.Sites.{Site}
use Rattle.palm_arena.specs.Reads.{same_place}
use Rattle.palm_route.specs.Edits.{edit_before, edits_of}
use Rattle.palm_route.specs.Groups.{groups_of}
use Rattle.palm_route.specs.declared.part.Ask.{Ask}
use Rattle.palm_route.specs.declared.part.Ask.TheVariants as ask
use Rattle.palm_route.specs.declared.part.Group.{Group}
use Rattle.palm_route.specs.declared.part.Part.{Part}
use Rattle.palm_leaf.specs.Loads.{LeafLoad, IsLoad, load_group, Loads}
use Rattle.palm_leaf.specs.Routed.{GoesByKey, HasKey}
use Rattle.palm_leaf.proofs.Loads.{loads_at}

-- ---- ids among others

among_later : (xs ys : List NodeId) (id : NodeId) → is_among ys id ≡ true → is_among (xs ++ ys) id ≡ true
among_later [] ys id there = there
among_later (x ∷ xs) ys id there = by (same_place x id) (among_later xs ys id there)
  where
    by : (b : Bool) → is_among (xs ++ ys) id ≡ true → (b || is_among (xs ++ ys) id) ≡ true
    by true rest = refl
    by false rest = rest

same_self : (id : NodeId) → same_place id id ≡ true
same_self id = eq-eqb id.place id.place refl

among_here : (id : NodeId) (ids : List NodeId) → is_among (id ∷ ids) id ≡ true
among_here id ids = ap (λ b. b || is_among ids id) (same_self id)

-- Each id of the loads' leaves is among those of all leaves.
leaves_there : (front : List NodeId) (loads : List LeafLoad)
    → AllByRecursion (λ id. is_among (front ++ map (λ (load : LeafLoad). load.site.place.0) loads) id ≡ true) (map (λ (group : Group). group.leaf) (flat_map load_group loads))
leaves_there front [] = tt
leaves_there front (load ∷ loads) =
    by load.site.place.0 load.parts
    (subst (λ ids. AllByRecursion (λ id. is_among ids id ≡ true) (map (λ (group : Group). group.leaf) (flat_map load_group loads))) (append_assoc front (load.site.place.0 ∷ []) (map (λ (load : LeafLoad). load.site.place.0) loads))
    (leaves_there (front ++ load.site.place.0 ∷ []) loads))
  where
    by : (id : NodeId) (parts : List Part) → AllByRecursion (λ other. is_among (front ++ id ∷ map (λ (load : LeafLoad). load.site.place.0) loads) other ≡ true) (map (λ (group : Group). group.leaf) (flat_map load_group loads))
        → AllByRecursion (λ other. is_among (front ++ id ∷ map (λ (load : LeafLoad). load.site.place.0) loads) other ≡ true)
        (map (λ (group : Group). group.leaf) (load_group (record { site = record { path = load.site.path; low = load.site.low; place = (id, load.site.place.1); edits = load.site.edits }; low = load.low; parts = parts }) ++ flat_map load_group loads))
    by id [] rest = rest
    by id (part ∷ parts) rest = (among_later front (id ∷ map (λ (load : LeafLoad). load.site.place.0) loads) id (among_here id (map (λ (load : LeafLoad). load.site.place.0) loads)), rest)

-- The edits that go to a leaf leave its rows where it has no part, and else its leaf is among the routed ones.
still_there : (front : List NodeId) (loads : List LeafLoad) → AllByRecursion (λ load. load.site.edits ≡ edits_of load.parts) loads
    → AllByRecursion (IsTouchedOrStill (front ++ map (λ (group : Group). group.leaf) (flat_map load_group loads))) (map (λ load. load.site) loads)
still_there front [] edits = tt
still_there front (load ∷ loads) edits = by (λ front. still_there front loads edits.1) load.site load.low load.parts edits.0
  where
    leaves : List NodeId
    leaves = map (λ (group : Group). group.leaf) (flat_map load_group loads)

    by : ((front : List NodeId) → AllByRecursion (IsTouchedOrStill (front ++ leaves)) (map (λ load. load.site) loads)) → (site : Site zero) (low : ℕ) (parts : List Part) → site.edits ≡ edits_of parts
        → AllByRecursion (IsTouchedOrStill (front ++ map (λ (group : Group). group.leaf) (load_group (record { site = site; low = low; parts = parts }) ++ flat_map load_group loads))) (site ∷ map (λ load. load.site) loads)
    by rest site low [] are = ((λ none. ap (after_all site.place.1) are), rest front)
    by rest site low (part ∷ parts) are = (
      (λ none. absurd (subst (λ b. b ≡ false → ⊥) (sym (among_later front (site.place.0 ∷ leaves) site.place.0 (among_here site.place.0 leaves))) (λ e. absurd cc) none)),
      subst (λ ids. AllByRecursion (IsTouchedOrStill ids) (map (λ load. load.site) loads)) (append_assoc front (site.place.0 ∷ []) leaves) (rest (front ++ site.place.0 ∷ [])),
    )

-- ---- the edits of parts

are_edits : (parts : List Part) → AllByRecursion (λ edit. is_edit edit ≡ true) (edits_of parts)
are_edits [] = tt
are_edits (part ∷ parts) = by part.key part.ask (are_edits parts)
  where
    by : (k : ℕ) (what : Ask) → AllByRecursion (λ edit. is_edit edit ≡ true) (edits_of parts) → AllByRecursion (λ edit. is_edit edit ≡ true) (edit_before k what (edits_of parts))
    by k (ask.Set rate) rest = (refl, rest)
    by k ask.Del rest = (refl, rest)
    by k ask.Look rest = rest
    by k (ask.List from to limit) rest = rest

set_prefixes : (parts : List Part) → AllByRecursion HasKey parts → AllByRecursion SetsPrefix (edits_of parts)
set_prefixes [] keys = tt
set_prefixes (part ∷ parts) keys = by part.key part.ask keys.0 (set_prefixes parts keys.1)
  where
    by : (k : ℕ) (what : Ask) → GoesByKey k what → AllByRecursion SetsPrefix (edits_of parts) → AllByRecursion SetsPrefix (edit_before k what (edits_of parts))
    by k (ask.Set rate) is rest = (is.prefix, rest)
    by k ask.Del is rest = (tt, rest)
    by k ask.Look is rest = rest
    by k (ask.List from to limit) is rest = rest

-- ---- the pass

-- The pass of parts over a placed tree that a map holds alone.
abbrev pub pass_over : (NodeId → Option Node) → Shape → List Part → PlacedTree → Pass
pass_over nodes shape parts tree = record { tree = tree; edits = edits_of parts; routed = map (λ (group : Group). group.leaf) (groups_of (leaves_at nodes shape) parts); rest = [] }

pub pass_begins : (nodes : NodeId → Option Node) (shape : Shape) (parts : List Part) (tree : PlacedTree) → IsLawful (value_of tree) → LowsAreKeys (value_of tree) → shape.root ≡ tree.1.0 → shape.levels ≡ suc tree.0
    → Owns nodes (cells_of tree.0 tree.1 ++ []) → AllByRecursion HasKey parts → Begins (pass_over nodes shape parts tree) nodes shape
pass_begins nodes shape parts tree lawful lows root levels owned keys = record {
  is-pass = record {
    lawful = lawful;
    lows = lows;
    edits = are_edits parts;
    prefixes = set_prefixes parts keys;
    leaves = subst (λ groups. AllByRecursion (λ id. is_among (map (λ (site : Site zero). site.place.0) (leaf_sites tree.0 (root_site p))) id ≡ true) (map (λ (group : Group). group.leaf) groups)) (sym loads.groups-are)
        (subst (λ ids. AllByRecursion (λ id. is_among ids id ≡ true) (map (λ (group : Group). group.leaf) (flat_map load_group loads.loads)))
        (sym (map_map (λ (load : LeafLoad). load.site) (λ (site : Site zero). site.place.0) loads.loads) ∙ ap (map (λ (site : Site zero). site.place.0)) loads.sites-are) (leaves_there [] loads.loads));
    still = subst (AllByRecursion (IsTouchedOrStill p.routed)) loads.sites-are
        (subst (λ groups. AllByRecursion (IsTouchedOrStill (map (λ (group : Group). group.leaf) groups)) (map (λ load. load.site) loads.loads)) (sym loads.groups-are)
        (still_there [] loads.loads (each loads.loads loads.each)));
  };
  root = root;
  levels = levels;
  owned = owned;
}
  where
    p : Pass
    p = pass_over nodes shape parts tree

    loads : Loads p (groups_of (leaves_at nodes shape) parts)
    loads = loads_at p nodes shape parts lawful root levels owned refl keys

    each : (loads : List LeafLoad) → AllByRecursion IsLoad loads → AllByRecursion (λ load. load.site.edits ≡ edits_of load.parts) loads
    each [] all = tt
    each (load ∷ loads) all = (all.0.edits-are, each loads all.1)
