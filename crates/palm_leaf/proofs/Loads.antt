-- Each leaf of a pass has the parts of its group: parts go down a tree as its edits do.
use Rattle.std.proofs.Common.{◌≡◌, ℕ, zero, suc, ◌<◌, ◌≤◌, Bool, true, false, cond, ltb, leb, eqb, List, [], ◌∷◌, ◌++◌, length, map, refl, sym, ap, ◌∙◌, append_assoc, subst, arith, Some}
use Rattle.std.specs.Prelude.{Option}
use Rattle.std.specs.List.{filter, flat_map, AllByRecursion}
use Rattle.std.proofs.lemmas.Bool.{ltb-true, leb-true, lt-ltb, le-leb, ne_eqb}
use Rattle.std.proofs.lemmas.List.{append-nil}
use Rattle.std.proofs.lemmas.List.Concat.{flat_map-append}
use mathlib.Core.List.{map-append}
use Rattle.palm_base.specs.Pass.{edit_key, goes_left, goes_right}
use Rattle.palm_base.specs.Lawful.{next_low, Sound, InOrder, Root, IsLawful}
use Rattle.palm_base.proofs.Every.{every_append, every_filter}
use Rattle.palm_base.proofs.SoundNodes.{in_order_proper}
use Rattle.palm_base.specs.declared.bounds.TheConstants.{LEAST_CHILDREN}
use Rattle.palm_base.specs.declared.call.Call.{Call}
use Rattle.palm_node.specs.declared.id.NodeId.{NodeId}
use Rattle.palm_node.specs.declared.node.Node.{Node}
use Rattle.palm_arena.specs.declared.shape.Shape.{Shape}
use Rattle.palm_arena.specs.Reads.{inner_in}
use Rattle.palm_arena.specs.Leaves.{LeafPlace, leaves_of_children, leaves_of_node, leaves_under, leaves_at}
use Rattle.palm_arena.specs.Cells.{Owns}
use Rattle.palm_arena.specs.Placed.{Placed, value_in, value_of, values, cells_of, ids_of_children, node_of}
use Rattle.palm_arena.specs.Routes.{separators_of}
use Rattle.palm_arena.specs.Sites.{Site, sites_of_children}
use Rattle.palm_arena.specs.Passes.{Pass, root_site, leaf_sites, Begins}
use Rattle.palm_arena.proofs.ListParts.{all_flat}
use Rattle.palm_arena.proofs.PlacedTrees.{Holds}
use Rattle.palm_arena.proofs.OwnedTrees.{first_holds}
use Rattle.palm_route.specs.Edits.{edit_before, edits_of}
use Rattle.palm_route.specs.Groups.{group_at, groups_of}
use Rattle.palm_route.specs.declared.part.Ask.{Ask}
use Rattle.palm_route.specs.declared.part.Ask.TheVariants as ask
use Rattle.palm_route.specs.declared.part.Part.{Part}
use Rattle.palm_route.specs.declared.part.Group.{Group}
use Rattle.palm_route.proofs.Routings.{filter_twice}
use Rattle.palm_leaf.specs.Routed.{GoesByKey, HasKey, IsRouted, written_low}
use Rattle.palm_leaf.specs.Loads.{LeafLoad, IsLoad, load_group, Loads}
use Rattle.palm_leaf.proofs.Filtered.{filter-wider}

-- ---- parts beside their edits

-- What goes by a test on keys among parts goes by it among their edits.
edits-filter : (t : ℕ → Bool) (parts : List Part) → AllByRecursion HasKey parts → edits_of (filter (λ part. t part.key) parts) ≡ filter (λ edit. t (edit_key edit)) (edits_of parts)
edits-filter t [] keys = refl
edits-filter t (part ∷ parts) keys = by (edits-filter t parts keys.1) (t part.key) refl
  where
    rest : List Part
    rest = filter (λ part. t part.key) parts

    left : List Call
    left = filter (λ edit. t (edit_key edit)) (edits_of parts)

    kept : (k : ℕ) (what : Ask) → GoesByKey k what → t k ≡ true → edit_before k what left ≡ filter (λ edit. t (edit_key edit)) (edit_before k what (edits_of parts))
    kept k (ask.Set rate) is e = rw (is.whole, e) refl
    kept k ask.Del is e = rw (is.whole, e) refl
    kept k ask.Look is e = refl
    kept k (ask.List from to limit) is e = refl

    gone : (k : ℕ) (what : Ask) → GoesByKey k what → t k ≡ false → left ≡ filter (λ edit. t (edit_key edit)) (edit_before k what (edits_of parts))
    gone k (ask.Set rate) is e = rw (is.whole, e) refl
    gone k ask.Del is e = rw (is.whole, e) refl
    gone k ask.Look is e = refl
    gone k (ask.List from to limit) is e = refl

    by : edits_of rest ≡ left → (b : Bool) → t part.key ≡ b → edits_of (cond b (part ∷ rest) rest) ≡ filter (λ edit. t (edit_key edit)) (edit_before part.key part.ask (edits_of parts))
    by ih true e = ap (edit_before part.key part.ask) ih ∙ kept part.key part.ask keys.0 e
    by ih false e = ih ∙ gone part.key part.ask keys.0 e

-- ---- groups of joined leaves

-- Of leaves that stand left of others, the parts below those make the groups.
groups_join : (place : LeafPlace) (places : List LeafPlace) (next : LeafPlace) (more : List LeafPlace) (parts : List Part) → AllByRecursion (λ p. p.low < next.low) places
    → groups_of ((place ∷ places) ++ (next ∷ more)) parts ≡ groups_of (place ∷ places) (filter (λ p. ltb p.key next.low) parts) ++ groups_of (next ∷ more) (filter (λ p. leb next.low p.key) parts)
groups_join place [] next more parts below = refl
groups_join place (second ∷ places) next more parts below =
    ap (λ gs. group_at place (filter (λ p. ltb p.key second.low) parts) ++ gs) (groups_join second places next more (filter (λ p. leb second.low p.key) parts) below.1)
    ∙ ap (λ gs. group_at place (filter (λ p. ltb p.key second.low) parts) ++ (groups_of (second ∷ places) gs ++ groups_of (next ∷ more) (filter (λ p. leb next.low p.key) (filter (λ p. leb second.low p.key) parts))))
    (filter_twice (λ p. ltb p.key next.low) (λ p. leb second.low p.key) parts)
    ∙ ap (λ gs. group_at place (filter (λ p. ltb p.key second.low) parts) ++ (groups_of (second ∷ places) (filter (λ p. leb second.low p.key) (filter (λ p. ltb p.key next.low) parts)) ++ groups_of (next ∷ more) gs))
    (filter-wider (λ p. leb next.low p.key) (λ p. leb second.low p.key) parts (λ p e. le-leb second.low p.key (let h = leb-true next.low p.key e in let b = below.0 in omega arith)))
    ∙ ap (λ gs. group_at place gs ++ (groups_of (second ∷ places) (filter (λ p. leb second.low p.key) (filter (λ p. ltb p.key next.low) parts)) ++ groups_of (next ∷ more) (filter (λ p. leb next.low p.key) parts)))
    (sym (filter-wider (λ p. ltb p.key second.low) (λ p. ltb p.key next.low) parts (λ p e. lt-ltb p.key next.low (let h = ltb-true p.key second.low e in let b = below.0 in omega arith))))
    ∙ sym (append_assoc (group_at place (filter (λ p. ltb p.key second.low) (filter (λ p. ltb p.key next.low) parts))) _ _)

-- ---- the loads of a node's leaves

-- The loads of the leaves under these children of a node, as those of one child are given.
abbrev pub loads_of_children : (n : ℕ) → (Site n → ℕ → List Part → List LeafLoad) → List (NodeId × ℕ) → NodeId → ℕ → ℕ → List (ℕ × Placed n) → List Call → List Part → List LeafLoad
loads_of_children n go path id i low [] edits parts = []
loads_of_children n go path id i low (child ∷ []) edits parts = go (record { path = path ++ (id, i) ∷ []; low = child.0; place = child.1; edits = edits }) low parts
loads_of_children n go path id i low (child ∷ next ∷ children) edits parts =
    go (record { path = path ++ (id, i) ∷ []; low = child.0; place = child.1; edits = filter (goes_left next.0) edits }) low (filter (λ p. ltb p.key next.0) parts)
    ++ loads_of_children n go path id (suc i) next.0 (next ∷ children) (filter (goes_right next.0) edits) (filter (λ p. leb next.0 p.key) parts)

-- The loads of the leaves under a site whose range begins at `low`.
abbrev pub loads_under : (n : ℕ) → Site n → ℕ → List Part → List LeafLoad
loads_under zero site low parts = record { site = site; low = low; parts = parts } ∷ []
loads_under (suc n) site low parts = loads_of_children n (loads_under n) site.path site.place.0 0 low site.place.1 site.edits parts

-- They are at the sites of the leaves.
sites_loaded : (n : ℕ) (site : Site n) (low : ℕ) (parts : List Part) → map (λ load. load.site) (loads_under n site low parts) ≡ leaf_sites n site
sites_loaded zero site low parts = refl
sites_loaded (suc n) site low parts = each site.path site.place.0 0 low site.place.1 site.edits parts (sites_loaded n)
  where
    each : (path : List (NodeId × ℕ)) (id : NodeId) (i low : ℕ) (children : List (ℕ × Placed n)) (edits : List Call) (parts : List Part)
        → ((site : Site n) (low : ℕ) (parts : List Part) → map (λ load. load.site) (loads_under n site low parts) ≡ leaf_sites n site)
        → map (λ load. load.site) (loads_of_children n (loads_under n) path id i low children edits parts) ≡ flat_map (leaf_sites n) (sites_of_children n path id i children edits)
    each path id i low [] edits parts ih = refl
    each path id i low (child ∷ []) edits parts ih = ih (record { path = path ++ (id, i) ∷ []; low = child.0; place = child.1; edits = edits }) low parts ∙ sym (append-nil _)
    each path id i low (child ∷ next ∷ children) edits parts ih =
        map-append (λ (load : LeafLoad). load.site) (loads_under n (record { path = path ++ (id, i) ∷ []; low = child.0; place = child.1; edits = filter (goes_left next.0) edits }) low (filter (λ p. ltb p.key next.0) parts)) _
        ∙ ap (λ sites. sites ++ map (λ load. load.site) (loads_of_children n (loads_under n) path id (suc i) next.0 (next ∷ children) (filter (goes_right next.0) edits) (filter (λ p. leb next.0 p.key) parts)))
        (ih (record { path = path ++ (id, i) ∷ []; low = child.0; place = child.1; edits = filter (goes_left next.0) edits }) low (filter (λ p. ltb p.key next.0) parts))
        ∙ ap (λ sites. leaf_sites n (record { path = path ++ (id, i) ∷ []; low = child.0; place = child.1; edits = filter (goes_left next.0) edits }) ++ sites)
        (each path id (suc i) next.0 (next ∷ children) (filter (goes_right next.0) edits) (filter (λ p. leb next.0 p.key) parts) ih)

-- ---- groups and loads under a node

-- Leaves from one key up to another, whose groups of these parts are those of the loads.
record Matches (low high : ℕ) (places : List LeafPlace) (parts : List Part) (loads : List LeafLoad) : Type 0 where
  first : LeafPlace
  more : List LeafPlace
  places-are : places ≡ first ∷ more
  low-is : first.low ≡ low
  below : AllByRecursion (λ place. place.low < high) places
  groups : groups_of places parts ≡ flat_map load_group loads

below_more : (low high : ℕ) (places : List LeafPlace) → low ≤ high → AllByRecursion (λ place. place.low < low) places → AllByRecursion (λ place. place.low < high) places
below_more low high [] h a = tt
below_more low high (place ∷ places) h a = ((let b = a.0 in omega arith), below_more low high places h a.1)

matches_join : (low mid high : ℕ) (places places' : List LeafPlace) (parts : List Part) (loads loads' : List LeafLoad) → mid ≤ high
    → Matches low mid places (filter (λ p. ltb p.key mid) parts) loads → Matches mid high places' (filter (λ p. leb mid p.key) parts) loads'
    → Matches low high (places ++ places') parts (loads ++ loads')
matches_join low mid high places places' parts loads loads' h left right = record {
  first = left.first;
  more = left.more ++ places';
  places-are = ap (λ ps. ps ++ places') left.places-are;
  low-is = left.low-is;
  below = every_append (λ place. place.low < high) places places' (below_more mid high places h left.below) right.below;
  groups =
      ap (λ ps. groups_of (ps ++ places') parts) left.places-are ∙ ap (λ ps. groups_of ((left.first ∷ left.more) ++ ps) parts) right.places-are
      ∙ groups_join left.first left.more right.first right.more parts (subst (λ (m : ℕ). AllByRecursion (λ place. place.low < m) left.more) (sym right.low-is) (rest left.first left.more (subst (AllByRecursion (λ place. place.low < mid)) left.places-are left.below)))
      ∙ ap (λ m. groups_of (left.first ∷ left.more) (filter (λ p. ltb p.key m) parts) ++ groups_of (right.first ∷ right.more) (filter (λ p. leb m p.key) parts)) right.low-is
      ∙ ap (λ ps. groups_of ps (filter (λ p. ltb p.key mid) parts) ++ groups_of (right.first ∷ right.more) (filter (λ p. leb mid p.key) parts)) (sym left.places-are)
      ∙ ap (λ ps. groups_of places (filter (λ p. ltb p.key mid) parts) ++ groups_of ps (filter (λ p. leb mid p.key) parts)) (sym right.places-are)
      ∙ ap (λ gs. gs ++ groups_of places' (filter (λ p. leb mid p.key) parts)) left.groups ∙ ap (λ gs. flat_map load_group loads ++ gs) right.groups
      ∙ sym (flat_map-append load_group loads loads');
}
  where
    rest : (first : LeafPlace) (more : List LeafPlace) → AllByRecursion (λ place. place.low < mid) (first ∷ more) → AllByRecursion (λ place. place.low < mid) more
    rest first more a = a.1

matches_end : (low high : ℕ) (places : List LeafPlace) (parts : List Part) (loads : List LeafLoad) → Matches low high places parts loads → Matches low high (places ++ []) parts loads
matches_end low high places parts loads m = subst (λ ps. Matches low high ps parts loads) (sym (append-nil places)) m

-- What is shown of a node below the root, of its children.
abbrev NodesMatch : (NodeId → Option Node) → ℕ → Type 0
NodesMatch nodes n =
    (site : Site n) (low high : ℕ) (parts : List Part) → Holds nodes (cells_of n site.place) → low < high → Sound n low high (value_in n site.place.1)
    → Matches low high (leaves_under nodes n site.path low site.place.0) parts (loads_under n site low parts)

children_match : (nodes : NodeId → Option Node) (n : ℕ) → NodesMatch nodes n → (path : List (NodeId × ℕ)) (id : NodeId) (i low high : ℕ) (child : ℕ × Placed n) (children : List (ℕ × Placed n)) (edits : List Call) (parts : List Part)
    → AllByRecursion (λ c. Holds nodes (cells_of n c.1)) (child ∷ children) → InOrder n low high (values n (child ∷ children))
    → Matches low high (leaves_of_children (leaves_under nodes n) path id i (low ∷ separators_of (child ∷ children)) (ids_of_children (child ∷ children))) parts (loads_of_children n (loads_under n) path id i low (child ∷ children) edits parts)
children_match nodes n ih path id i low high child [] edits parts held order =
    let site : Site n = record { path = path ++ (id, i) ∷ []; low = child.0; place = child.1; edits = edits } in
    matches_end low high (leaves_under nodes n site.path low child.1.0) parts (loads_under n site low parts) (ih site low high parts held.0 order.0.0 order.0.1)
children_match nodes n ih path id i low high child (next ∷ children) edits parts held order =
    let site : Site n = record { path = path ++ (id, i) ∷ []; low = child.0; place = child.1; edits = filter (goes_left next.0) edits } in
    matches_join low next.0 high (leaves_under nodes n site.path low child.1.0) _ parts (loads_under n site low (filter (λ p. ltb p.key next.0) parts)) _
    (let p = proper next children order.1 in omega arith)
    (ih site low next.0 (filter (λ p. ltb p.key next.0) parts) held.0 order.0.0 order.0.1)
    (children_match nodes n ih path id (suc i) next.0 high next children (filter (goes_right next.0) edits) (filter (λ p. leb next.0 p.key) parts) held.1 order.1)
  where
    proper : (next : ℕ × Placed n) (children : List (ℕ × Placed n)) → InOrder n next.0 high (values n (next ∷ children)) → next.0 < high
    proper next children order = in_order_proper n next.0 high (next.0, value_in n next.1.1) (values n children) order

-- The rules of a node's own cell and of its children's.
pub held_node : (nodes : NodeId → Option Node) (n : ℕ) (placed : Placed (suc n)) → Holds nodes (cells_of (suc n) placed)
    → (nodes placed.0 ≡ Some (node_of (suc n) placed.1)) × AllByRecursion (λ child. Holds nodes (cells_of n child.1)) placed.1
held_node nodes n placed held = (held.0, all_flat (λ cell. nodes cell.0 ≡ Some cell.1) (λ child. cells_of n child.1) placed.1 held.1)

-- The leaves under an inner node that a map holds.
pub leaves_node : (nodes : NodeId → Option Node) (n : ℕ) (path : List (NodeId × ℕ)) (low : ℕ) (placed : Placed (suc n)) → nodes placed.0 ≡ Some (node_of (suc n) placed.1)
    → leaves_under nodes (suc n) path low placed.0 ≡ leaves_of_children (leaves_under nodes n) path placed.0 0 (low ∷ separators_of placed.1) (ids_of_children placed.1)
leaves_node nodes n path low placed e = ap (λ (o : Option Node). leaves_of_node (leaves_under nodes n) path low placed.0 (inner_in o)) e

nodes_match : (nodes : NodeId → Option Node) (n : ℕ) → NodesMatch nodes n
nodes_match nodes zero site low high parts held less sound = record {
  first = record { leaf = site.place.0; path = site.path; low = low };
  more = [];
  places-are = refl;
  low-is = refl;
  below = (less, tt);
  groups = sym (append-nil (group_at (record { leaf = site.place.0; path = site.path; low = low }) parts));
}
nodes_match nodes (suc n) site low high parts held less sound =
    let here = held_node nodes n site.place held in
    subst (λ ps. Matches low high ps parts (loads_under (suc n) site low parts)) (sym (leaves_node nodes n site.path low site.place here.0))
    (some (nodes_match nodes n) site.place.1 site.edits here.1 sound.0.0 sound.2)
  where
    some : NodesMatch nodes n → (children : List (ℕ × Placed n)) (edits : List Call) → AllByRecursion (λ c. Holds nodes (cells_of n c.1)) children → LEAST_CHILDREN ≤ length (values n children) → InOrder n low high (values n children)
        → Matches low high (leaves_of_children (leaves_under nodes n) site.path site.place.0 0 (low ∷ separators_of children) (ids_of_children children)) parts (loads_of_children n (loads_under n) site.path site.place.0 0 low children edits parts)
    some ih [] edits held many order = absurd (omega arith)
    some ih (child ∷ children) edits held many order = children_match nodes n ih site.path site.place.0 0 low high child children edits parts held order

-- ---- what each load says

written_end : (path : List (NodeId × ℕ)) (step : NodeId × ℕ) (low : ℕ) → written_low (path ++ step ∷ []) low ≡ cond (eqb step.1 0) 0 low
written_end [] step low = refl
written_end (first ∷ []) step low = refl
written_end (first ∷ next ∷ path) step low = written_end (next ∷ path) step low

written_later : (path : List (NodeId × ℕ)) (id : NodeId) (i low : ℕ) → written_low (path ++ (id, suc i) ∷ []) low ≡ low
written_later path id i low = written_end path (id, suc i) low ∙ rw (ne_eqb (suc i) 0 (λ e. omega (arith, e))) refl

abbrev LoadsHold : ℕ → Type 0
LoadsHold n =
    (site : Site n) (low first high : ℕ) (parts : List Part) → Sound n first high (value_in n site.place.1) → site.edits ≡ edits_of parts → AllByRecursion HasKey parts → site.low ≡ written_low site.path low
    → AllByRecursion IsLoad (loads_under n site low parts)

children_hold : (n : ℕ) → LoadsHold n → (path : List (NodeId × ℕ)) (id : NodeId) (i low first high : ℕ) (child : ℕ × Placed n) (children : List (ℕ × Placed n)) (edits : List Call) (parts : List Part)
    → InOrder n first high (values n (child ∷ children)) → edits ≡ edits_of parts → AllByRecursion HasKey parts → child.0 ≡ written_low (path ++ (id, i) ∷ []) low
    → AllByRecursion IsLoad (loads_of_children n (loads_under n) path id i low (child ∷ children) edits parts)
children_hold n ih path id i low first high child [] edits parts order are keys is =
    ih (record { path = path ++ (id, i) ∷ []; low = child.0; place = child.1; edits = edits }) low first high parts order.0.1 are keys is
children_hold n ih path id i low first high child (next ∷ children) edits parts order are keys is =
    let site : Site n = record { path = path ++ (id, i) ∷ []; low = child.0; place = child.1; edits = filter (goes_left next.0) edits } in
    every_append IsLoad (loads_under n site low (filter (λ p. ltb p.key next.0) parts)) _
    (ih site low first next.0 (filter (λ p. ltb p.key next.0) parts) order.0.1 (ap (filter (goes_left next.0)) are ∙ sym (edits-filter (λ k. ltb k next.0) parts keys)) (every_filter HasKey HasKey (λ p. ltb p.key next.0) (λ p is passes. is) parts keys) is)
    (children_hold n ih path id (suc i) next.0 next.0 high next children (filter (goes_right next.0) edits) (filter (λ p. leb next.0 p.key) parts) order.1
    (ap (filter (goes_right next.0)) are ∙ sym (edits-filter (λ k. leb next.0 k) parts keys)) (every_filter HasKey HasKey (λ p. leb next.0 p.key) (λ p is passes. is) parts keys) (sym (written_later path id i next.0)))

nodes_hold : (n : ℕ) → LoadsHold n
nodes_hold zero site low first high parts sound are keys is = (record { edits-are = are; low-is = is; keys = keys }, tt)
nodes_hold (suc n) site low first high parts sound are keys is = some (nodes_hold n) site.place.1 sound.1 sound.2
  where
    some : LoadsHold n → (children : List (ℕ × Placed n)) → next_low (λ c. c.0) 0 (values n children) ≡ 0 → InOrder n first high (values n children)
        → AllByRecursion IsLoad (loads_of_children n (loads_under n) site.path site.place.0 0 low children site.edits parts)
    some ih [] first-zero order = tt
    some ih (child ∷ children) first-zero order = children_hold n ih site.path site.place.0 0 low first high child children site.edits parts order are keys (first-zero ∙ sym (written_end site.path (site.place.0, 0) low))

-- ---- a pass's leaves

pub root_matches : (p : Pass) (nodes : NodeId → Option Node) (high : ℕ) (parts : List Part) → Holds nodes (cells_of p.tree.0 p.tree.1) → Root p.tree.0 high (value_in p.tree.0 p.tree.1.1)
    → groups_of (leaves_under nodes p.tree.0 [] 0 p.tree.1.0) parts ≡ flat_map load_group (loads_under p.tree.0 (root_site p) 0 parts)
root_matches p nodes high parts = by p.tree.0 p.tree.1
  where
    by : (n : ℕ) (placed : Placed n) → Holds nodes (cells_of n placed) → Root n high (value_in n placed.1)
        → groups_of (leaves_under nodes n [] 0 placed.0) parts ≡ flat_map load_group (loads_under n (record { path = []; low = 0; place = placed; edits = p.edits }) 0 parts)
    by zero placed held root = sym (append-nil (group_at (record { leaf = placed.0; path = []; low = 0 }) parts))
    by (suc n) placed held root =
        let here = held_node nodes n placed held in
        ap (λ ps. groups_of ps parts) (leaves_node nodes n [] 0 placed here.0) ∙ some n placed.0 placed.1 here.1 root.0.0 root.2
      where
        some : (n : ℕ) (id : NodeId) (children : List (ℕ × Placed n)) → AllByRecursion (λ c. Holds nodes (cells_of n c.1)) children → 2 ≤ length (values n children) → InOrder n 0 high (values n children)
            → groups_of (leaves_of_children (leaves_under nodes n) [] id 0 (0 ∷ separators_of children) (ids_of_children children)) parts ≡ flat_map load_group (loads_of_children n (loads_under n) [] id 0 0 children p.edits parts)
        some n id [] held many order = absurd (omega arith)
        some n id (child ∷ children) held many order = (children_match nodes n (nodes_match nodes n) [] id 0 0 high child children p.edits parts held order).groups

root_loads : (p : Pass) (high : ℕ) (parts : List Part) → Root p.tree.0 high (value_in p.tree.0 p.tree.1.1) → p.edits ≡ edits_of parts → AllByRecursion HasKey parts
    → AllByRecursion IsLoad (loads_under p.tree.0 (root_site p) 0 parts)
root_loads p high parts root are keys = by p.tree.0 p.tree.1 root
  where
    by : (n : ℕ) (placed : Placed n) → Root n high (value_in n placed.1) → AllByRecursion IsLoad (loads_under n (record { path = []; low = 0; place = placed; edits = p.edits }) 0 parts)
    by zero placed root = (record { edits-are = are; low-is = refl; keys = keys }, tt)
    by (suc n) placed root = some n placed.0 placed.1 root.1 root.2
      where
        some : (n : ℕ) (id : NodeId) (children : List (ℕ × Placed n)) → next_low (λ c. c.0) 0 (values n children) ≡ 0 → InOrder n 0 high (values n children)
            → AllByRecursion IsLoad (loads_of_children n (loads_under n) [] id 0 0 children p.edits parts)
        some n id [] first-zero order = tt
        some n id (child ∷ children) first-zero order = children_hold n (nodes_hold n) [] id 0 0 0 high child children p.edits parts order are keys first-zero

-- The leaves of a tree that a map holds have the parts of the groups on its leaves, whatever is routed.
pub loads_at : (p : Pass) (nodes : NodeId → Option Node) (shape : Shape) (parts : List Part) → IsLawful (value_of p.tree) → shape.root ≡ p.tree.1.0 → shape.levels ≡ suc p.tree.0 → Owns nodes (cells_of p.tree.0 p.tree.1 ++ p.rest)
    → p.edits ≡ edits_of parts → AllByRecursion HasKey parts → Loads p (groups_of (leaves_at nodes shape) parts)
loads_at p nodes shape parts lawful root levels owned edits keys = record {
  loads = loads_under p.tree.0 (root_site p) 0 parts;
  sites-are = sites_loaded p.tree.0 (root_site p) 0 parts;
  groups-are =
      ap (λ (n : ℕ). groups_of (leaves_under nodes n [] 0 shape.root) parts) (omega (arith, levels))
      ∙ ap (λ (id : NodeId). groups_of (leaves_under nodes p.tree.0 [] 0 id) parts) root
      ∙ root_matches p nodes lawful.0 parts held lawful.1;
  each = root_loads p lawful.0 parts lawful.1 edits keys;
}
  where
    held : Holds nodes (cells_of p.tree.0 p.tree.1)
    held = first_holds nodes (cells_of p.tree.0 p.tree.1) p.rest owned

-- The leaves of a pass have the parts of its groups.
pub loads_of : (p : Pass) (nodes : NodeId → Option Node) (shape : Shape) (groups : List Group) (parts : List Part) → Begins p nodes shape → IsRouted p nodes shape groups parts → Loads p groups
loads_of p nodes shape groups parts begins routed =
    subst (Loads p) (sym routed.groups-are) (loads_at p nodes shape parts begins.is-pass.lawful begins.root begins.levels begins.owned routed.edits-are routed.keys)
