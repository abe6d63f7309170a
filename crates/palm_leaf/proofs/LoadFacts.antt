-- The leaves of a pass and their parts: which ids are touched, and where their cells stand.
use Rattle.std.proofs.Common.{◌≡◌, ℕ, zero, suc, ◌+◌, Bool, true, false, List, [], ◌∷◌, ◌++◌, map, refl, sym, ap, ◌∙◌, append_assoc, subst, arith, eq-eqb}
use Rattle.std.specs.Prelude.{Option}
use Rattle.std.specs.List.{flat_map, filter, AllByRecursion}
use Rattle.std.proofs.lemmas.List.{append-nil}
use Rattle.palm_base.specs.Lawful.{HasFromTo, Sound, InOrder, Root}
use Rattle.palm_base.specs.declared.bounds.TheConstants.{LEAST_LEAF_ROWS, MOST_LEAF_ROWS}
use Rattle.palm_base.specs.declared.call.Call.{Call}
use Rattle.palm_base.specs.Pass.{goes_right}
use Rattle.palm_base.proofs.Every.{every_weaker}
use Rattle.palm_node.specs.declared.id.NodeId.{NodeId}
use Rattle.palm_node.specs.declared.node.Node.{Node}
use Rattle.palm_node.specs.declared.node.Node.TheVariants.{Leaf}
use Rattle.palm_arena.specs.Cells.{Cell, Found, Nothing, One, Several, both, found_at, found_if, Owns, SameCells}
use Rattle.palm_arena.specs.Reads.{same_place}
use Rattle.palm_arena.specs.Placed.{Placed, value_in, values, cells_of}
use Rattle.palm_arena.specs.Sites.{Site, raised, sites_at, sites_below, sites_of_children, cells_above}
use Rattle.palm_arena.specs.Passes.{Pass, is_among, leaf_sites}
use Rattle.palm_arena.proofs.CellLists.{owned_front, owned_same, same_append, same_trans, same_eq, same_pass}
use Rattle.palm_arena.proofs.LevelCells.{level_cells}
use Rattle.palm_arena.proofs.ListParts.{flat_flat, all_both, flat_all}
use Rattle.palm_arena.proofs.PlacedTrees.{apart_turned}
use Rattle.palm_route.specs.declared.part.Part.{Part}
use Rattle.palm_leaf.specs.Loads.{LeafLoad, load_group}

-- ---- levels

-- The level so many levels above the leaves has their number.
pub raised_sum : (l d : ℕ) → raised l d ≡ l + d
raised_sum l zero = omega arith
raised_sum l (suc d) = raised_sum (suc l) d ∙ omega arith

pub raised_zero : (n : ℕ) → raised zero n ≡ n
raised_zero n = raised_sum zero n ∙ omega arith

-- What holds of passes whose root is counted up from the leaves holds of all.
pub by_levels : (Q : Pass → Type 0) → ((d : ℕ) (place : Placed (raised zero d)) (p : Pass) → Q (record { tree = (raised zero d, place); edits = p.edits; routed = p.routed; rest = p.rest })) → (p : Pass) → Q p
by_levels Q base p =
    subst (λ n. (place : Placed n) → Q (record { tree = (n, place); edits = p.edits; routed = p.routed; rest = p.rest })) (raised_zero p.tree.0) (λ place. base p.tree.0 place p) p.tree.1

-- The leaves below a node are those below the nodes of each level under it.
leaves_by_level : (d l : ℕ) (root : Site (raised l d)) → leaf_sites (raised l d) root ≡ flat_map (leaf_sites l) (sites_at d l root)
leaves_by_level zero l root = sym (append-nil (leaf_sites l root))
leaves_by_level (suc d) l root = leaves_by_level d (suc l) root ∙ sym (flat_flat (sites_below l) (leaf_sites l) (sites_at d (suc l) root))

ones : {X : Type 0} (xs : List X) → flat_map (λ x. x ∷ []) xs ≡ xs
ones [] = refl
ones {X} (x ∷ xs) = ap (λ (l : List X). x ∷ l) (ones xs)

pub leaf_sites_are : (d : ℕ) (root : Site (raised zero d)) → leaf_sites (raised zero d) root ≡ sites_at d zero root
leaf_sites_are d root = leaves_by_level d zero root ∙ ones (sites_at d zero root)

-- ---- cells

abbrev pub load_cell : LeafLoad → Cell
load_cell load = (load.site.place.0, Leaf load.site.place.1)

cells_of_loads : (loads : List LeafLoad) → flat_map (λ site. cells_of zero site.place) (map (λ load. load.site) loads) ≡ map load_cell loads
cells_of_loads [] = refl
cells_of_loads (load ∷ loads) = ap (λ (cs : List Cell). load_cell load ∷ cs) (cells_of_loads loads)

-- The cells of the leaves stand before those above them.
pub loads_owned : (d : ℕ) (root : Site (raised zero d)) (rest : List Cell) (nodes : NodeId → Option Node) (loads : List LeafLoad) → map (λ load. load.site) loads ≡ sites_at d zero root → Owns nodes (cells_of (raised zero d) root.place ++ rest)
    → Owns nodes (map load_cell loads ++ (cells_above d zero root ++ rest))
loads_owned d root rest nodes loads sites owned =
    let above = cells_above d zero root in
    let leaves = map load_cell loads in
    let level : SameCells (cells_of (raised zero d) root.place) (above ++ leaves) =
    same_trans (cells_of (raised zero d) root.place) (above ++ flat_map (λ site. cells_of zero site.place) (sites_at d zero root)) (above ++ leaves) (level_cells d zero root)
    (same_eq (above ++ flat_map (λ site. cells_of zero site.place) (sites_at d zero root)) (above ++ leaves) (ap (λ (cs : List Cell). above ++ cs) (ap (flat_map (λ site. cells_of zero site.place)) (sym sites) ∙ cells_of_loads loads))) in
    owned_same nodes (cells_of (raised zero d) root.place ++ rest) (leaves ++ (above ++ rest)) owned
    (same_trans (cells_of (raised zero d) root.place ++ rest) ((above ++ leaves) ++ rest) (leaves ++ (above ++ rest)) (same_append (cells_of (raised zero d) root.place) (above ++ leaves) rest rest level (λ i. refl))
    (same_trans ((above ++ leaves) ++ rest) (above ++ (leaves ++ rest)) (leaves ++ (above ++ rest)) (same_eq ((above ++ leaves) ++ rest) (above ++ (leaves ++ rest)) (append_assoc above leaves rest)) (same_pass above leaves rest)))

-- ---- which leaves are touched

abbrev pub has_parts : List Part → Bool
has_parts [] = false
has_parts (part ∷ parts) = true

abbrev touched_ids : List LeafLoad → List NodeId
touched_ids loads = map (λ group. group.leaf) (flat_map load_group loads)

apart_if : (b : Bool) (node : Node) (x : Found) → both (found_if b node) x ≡ Nothing → (b ≡ false) × (x ≡ Nothing)
apart_if true node Nothing e = absurd cc
apart_if true node (One other) e = absurd cc
apart_if true node Several e = absurd cc
apart_if false node x e = (refl, e)

all_apart : (id : NodeId) (loads : List LeafLoad) (others : List Cell) → found_at id (map load_cell loads ++ others) ≡ Nothing → AllByRecursion (λ load. same_place load.site.place.0 id ≡ false) loads
all_apart id [] others e = tt
all_apart id (load ∷ loads) others e =
    let split = apart_if (same_place load.site.place.0 id) (Leaf load.site.place.1) (found_at id (map load_cell loads ++ others)) e in
    (split.0, all_apart id loads others split.1)

-- Each leaf's id is another.
abbrev Distinct : List LeafLoad → Type 0
Distinct [] = Unit {0}
Distinct (load ∷ loads) = AllByRecursion (λ later. same_place later.site.place.0 load.site.place.0 ≡ false) loads × Distinct loads

distinct : (nodes : NodeId → Option Node) (loads : List LeafLoad) (others : List Cell) → Owns nodes (map load_cell loads ++ others) → Distinct loads
distinct nodes [] others owned = tt
distinct nodes (load ∷ loads) others owned =
    let cell = load_cell load in (
      all_apart load.site.place.0 loads others (owned_front nodes cell.0 cell.1 (map load_cell loads ++ others) owned).1,
      distinct nodes loads (cell ∷ others) (owned_same nodes ((cell ∷ []) ++ (map load_cell loads ++ others)) (map load_cell loads ++ (cell ∷ others)) owned (same_pass (cell ∷ []) (map load_cell loads) others)),
    )

not_among : (id : NodeId) (loads : List LeafLoad) → AllByRecursion (λ load. same_place load.site.place.0 id ≡ false) loads → is_among (touched_ids loads) id ≡ false
not_among id [] apart = refl
not_among id (load ∷ loads) apart = by load.site load.low load.parts apart.0 (not_among id loads apart.1)
  where
    by : (site : Site zero) (low : ℕ) (parts : List Part) → same_place site.place.0 id ≡ false → is_among (touched_ids loads) id ≡ false → is_among (touched_ids (record { site = site; low = low; parts = parts } ∷ loads)) id ≡ false
    by site low [] one rest = rest
    by site low (part ∷ parts) one rest = rw (one, rest) refl

-- A leaf is touched where it has parts.
abbrev pub IsHit : List NodeId → LeafLoad → Type 0
IsHit ids load = is_among ids load.site.place.0 ≡ has_parts load.parts

hit_own : (load : LeafLoad) (loads : List LeafLoad) → is_among (touched_ids loads) load.site.place.0 ≡ false → IsHit (touched_ids (load ∷ loads)) load
hit_own load loads none = by load.site load.low load.parts none
  where
    by : (site : Site zero) (low : ℕ) (parts : List Part) → is_among (touched_ids loads) site.place.0 ≡ false → is_among (touched_ids (record { site = site; low = low; parts = parts } ∷ loads)) site.place.0 ≡ has_parts parts
    by site low [] none = none
    by site low (part ∷ parts) none = rw (eq-eqb site.place.0.place site.place.0.place refl) refl

hit_later : (load later : LeafLoad) (loads : List LeafLoad) → same_place load.site.place.0 later.site.place.0 ≡ false → IsHit (touched_ids loads) later → IsHit (touched_ids (load ∷ loads)) later
hit_later load later loads apart hit = by load.site load.low load.parts apart
  where
    by : (site : Site zero) (low : ℕ) (parts : List Part) → same_place site.place.0 later.site.place.0 ≡ false → is_among (touched_ids (record { site = site; low = low; parts = parts } ∷ loads)) later.site.place.0 ≡ has_parts later.parts
    by site low [] apart = hit
    by site low (part ∷ parts) apart = rw apart hit

all_hit : (loads : List LeafLoad) → Distinct loads → AllByRecursion (IsHit (touched_ids loads)) loads
all_hit [] all = tt
all_hit (load ∷ loads) all = (
  hit_own load loads (not_among load.site.place.0 loads all.0),
  every_weaker (λ later. (same_place later.site.place.0 load.site.place.0 ≡ false) × IsHit (touched_ids loads) later) (IsHit (touched_ids (load ∷ loads)))
      (λ later both. hit_later load later loads (apart_turned later.site.place.0 load.site.place.0 both.0) both.1) loads
      (all_both (λ later. same_place later.site.place.0 load.site.place.0 ≡ false) (IsHit (touched_ids loads)) loads all.0 (all_hit loads all.1)),
)

pub hits : (nodes : NodeId → Option Node) (loads : List LeafLoad) (others : List Cell) → Owns nodes (map load_cell loads ++ others) → AllByRecursion (IsHit (map (λ group. group.leaf) (flat_map load_group loads))) loads
hits nodes loads others owned = all_hit loads (distinct nodes loads others owned)

-- ---- leaves below the root are full

abbrev pub IsFull : Site zero → Type 0
IsFull site = HasFromTo LEAST_LEAF_ROWS MOST_LEAF_ROWS site.place.1

abbrev SoundSite : (n : ℕ) → Site n → Type 0
SoundSite n site = (low : ℕ) × (high : ℕ) × Sound n low high (value_in n site.place.1)

children_sound : (n low high : ℕ) (path : List (NodeId × ℕ)) (id : NodeId) (i : ℕ) (children : List (ℕ × Placed n)) (edits : List Call) → InOrder n low high (values n children) → AllByRecursion (SoundSite n) (sites_of_children n path id i children edits)
children_sound n low high path id i [] edits order = tt
children_sound n low high path id i (child ∷ []) edits order = ((low, high, order.0.1), tt)
children_sound n low high path id i (child ∷ next ∷ children) edits order =
    ((low, next.0, order.0.1), children_sound n next.0 high path id (suc i) (next ∷ children) (filter (goes_right next.0) edits) order.1)

sound_full : (n : ℕ) (site : Site n) → SoundSite n site → AllByRecursion IsFull (leaf_sites n site)
sound_full zero site sound = (sound.2.0, tt)
sound_full (suc n) site sound =
    flat_all IsFull (leaf_sites n) (sites_below n site)
    (every_weaker (SoundSite n) (λ s. AllByRecursion IsFull (leaf_sites n s)) (λ s one. sound_full n s one) (sites_below n site) (children_sound n sound.0 sound.1 site.path site.place.0 0 site.place.1 site.edits sound.2.2))

-- The leaves of a lawful tree with an inner root.
pub root_full : (n high : ℕ) (site : Site (suc n)) → Root (suc n) high (value_in (suc n) site.place.1) → AllByRecursion IsFull (leaf_sites (suc n) site)
root_full n high site root =
    flat_all IsFull (leaf_sites n) (sites_below n site)
    (every_weaker (SoundSite n) (λ s. AllByRecursion IsFull (leaf_sites n s)) (λ s one. sound_full n s one) (sites_below n site) (children_sound n 0 high site.path site.place.0 0 site.place.1 site.edits root.2))
