-- What the arena has where the changes of a level stand for a pass: the nodes above them can be worked on.
use Rattle.std.proofs.Common.{◌≡◌, ◌≢◌, ◌≤◌, ◌<◌, ◌+◌, ℕ, zero, suc, Bool, true, false, cond, List, [], ◌∷◌, ◌++◌, length, map, drop, get_or, refl, sym, ap, ◌∙◌, arith, subst, append_assoc, length-append, Option, Some}
use Rattle.std.specs.List.{flat_map, AllByRecursion, filter}
use Rattle.palm_base.specs.Tree.{Subtree}
use Rattle.palm_base.specs.Pass.{goes_right}
use Rattle.palm_base.specs.Lawful.{next_low, Root}
use Rattle.palm_base.specs.declared.call.Call.{Call}
use Rattle.palm_node.specs.InnerNode.{InnerNode, Rise, later_lows}
use Rattle.palm_node.specs.declared.id.NodeId.{NodeId}
use Rattle.palm_node.specs.declared.node.Node.{Node}
use Rattle.palm_node.specs.declared.node.Node.TheVariants.{Inner}
use Rattle.palm_node.specs.declared.change.Change.{Change}
use Rattle.palm_node.specs.declared.change.Changes.{Changes}
use Rattle.palm_arena.specs.Reads.{inner_in}
use Rattle.palm_arena.specs.Cells.{Cell, found_at, Owns}
use Rattle.palm_arena.specs.Placed.{Placed, value_in, values, cells_under, node_of, ids_of_children}
use Rattle.palm_arena.specs.Routes.{separators_of}
use Rattle.palm_arena.specs.Sites.{Site, sites_of_children, sites_below, raised, sites_at, cell_of_site, cells_above}
use Rattle.palm_arena.specs.Standing.{Result, is_hit, StandsForItself, change_of, kept_cells, Stands}
use Rattle.palm_arena.proofs.Natural.{length-map'}
use Rattle.palm_arena.proofs.CellLists.{owned_same, owned_front, same_swap}
use Rattle.palm_arena.proofs.ListParts.{map_map, map_all, all_flat, flat_all}
use Rattle.palm_level.specs.Families.{Family, IsPassed, is_worked, IsFull, IsFamily}
use Rattle.palm_base.proofs.Batches.{highest, adds_below, root_wider}
use Rattle.palm_base.proofs.Every.{every_weaker}
use Rattle.palm_level.specs.Splices.{PlacesRise, last_step, path_above}
use Rattle.palm_level.specs.Runs.{runs, parent_of}
use Rattle.palm_level.specs.Groups.{Touched, touched_of, low_in, low_at}
use Rattle.palm_level.specs.Plans.{IsInnerAt, CanWork, Fits}
use Rattle.palm_level.specs.Tasks.{Distinct}
use Rattle.palm_level.proofs.Bare.{last_snoc, above_snoc, StepsFrom, drop_one, changes_in, family_steps, inner_of, family_left, family_places}
use Rattle.palm_level.proofs.Split.{Split, family_changes, changes_split, family_parents, parents_distinct, ids_in, some_hit, family_any, family_runs}
use Rattle.palm_level.proofs.SoundSites.{SoundSite, sound_parents, sound_full, left_rises}
use Rattle.palm_level.proofs.Families.{passed_all}

-- ---- the node above

-- The way leads to a child of an inner node of the map, which has the low there.
pub record HasAbove (nodes : NodeId → Option Node) (path : List (NodeId × ℕ)) (low : ℕ) : Type 0 where
  pub front : List (NodeId × ℕ)
  pub id : NodeId
  pub i : ℕ
  pub node : InnerNode
  pub path-is : path ≡ front ++ (id, i) ∷ []
  pub held : nodes id ≡ Some (Inner node)
  pub inside : i < length node.children
  pub low-is : low ≡ get_or (0 ∷ node.separators) i 0

got_at : (i : ℕ) (xs : List ℕ) (y : ℕ) (ys : List ℕ) → drop i xs ≡ y ∷ ys → (get_or xs i 0 ≡ y) × (i < length xs)
got_at zero [] y ys e = absurd cc
got_at zero (x ∷ xs) y ys e = (cc, omega arith)
got_at (suc i) [] y ys e = absurd cc
got_at (suc i) (x ∷ xs) y ys e = let rest = got_at i xs y ys e in let less = rest.1 in (rest.0, omega (arith, less))

above_children : (nodes : NodeId → Option Node) (l : ℕ) (path : List (NodeId × ℕ)) (id : NodeId) (i : ℕ) (node : InnerNode) (children : List (ℕ × Placed l)) (edits : List Call) → nodes id ≡ Some (Inner node)
    → length (0 ∷ node.separators) ≡ length node.children → drop i (0 ∷ node.separators) ≡ map (λ c. c.0) children
    → AllByRecursion (λ (s : Site l). HasAbove nodes s.path s.low) (sites_of_children l path id i children edits)
above_children nodes l path id i node [] edits held many at = tt
above_children nodes l path id i node (child ∷ []) edits held many at =
    let got = got_at i (0 ∷ node.separators) child.0 [] at in
    let less = got.1 in
    (record { front = path; id = id; i = i; node = node; path-is = refl; held = held; inside = omega (arith, less, many); low-is = sym got.0 }, tt)
above_children nodes l path id i node (child ∷ next ∷ children) edits held many at =
    let got = got_at i (0 ∷ node.separators) child.0 (map (λ (c : ℕ × Placed l). c.0) (next ∷ children)) at in
    let less = got.1 in (
      record { front = path; id = id; i = i; node = node; path-is = refl; held = held; inside = omega (arith, less, many); low-is = sym got.0 },
      above_children nodes l path id (suc i) node (next ∷ children) (filter (goes_right next.0) edits) held many (drop_one i (0 ∷ node.separators) child.0 (map (λ (c : ℕ × Placed l). c.0) (next ∷ children)) at),
    )

-- The first low of a node is written 0.
abbrev FirstIsZero : (l : ℕ) → Site (suc l) → Type 0
FirstIsZero l s = (1 ≤ length s.place.1) × (next_low (λ child. child.0) 0 s.place.1 ≡ 0)

above_below : (nodes : NodeId → Option Node) (l : ℕ) (s : Site (suc l)) → FirstIsZero l s → nodes s.place.0 ≡ Some (Inner (inner_of s.place.1)) → AllByRecursion (λ (t : Site l). HasAbove nodes t.path t.low) (sites_below l s)
above_below nodes l s first held =
    above_children nodes l s.path s.place.0 0 (inner_of s.place.1) s.place.1 s.edits held (many s.place.1 first.0) (lows s.place.1 first.0 first.1)
  where
    many : (cs : List (ℕ × Placed l)) → 1 ≤ length cs → length (0 ∷ separators_of cs) ≡ length (ids_of_children cs)
    many [] some = absurd (omega (arith, some))
    many (c ∷ cs) some = ap suc (length-map' (λ (c : ℕ × Placed l). c.0) cs ∙ sym (length-map' (λ (c : ℕ × Placed l). c.1.0) cs))

    lows : (cs : List (ℕ × Placed l)) → 1 ≤ length cs → next_low (λ child. child.0) 0 cs ≡ 0 → 0 ∷ separators_of cs ≡ map (λ c. c.0) cs
    lows [] some nil = absurd (omega (arith, some))
    lows (c ∷ cs) some nil = ap (λ n. n ∷ map (λ (c : ℕ × Placed l). c.0) cs) (sym nil)

owned_each : (nodes : NodeId → Option Node) (l : ℕ) (ss : List (Site (suc l))) (rest : List Cell) → Owns nodes (map (cell_of_site (suc l)) ss ++ rest) → AllByRecursion (λ (s : Site (suc l)). nodes s.place.0 ≡ Some (Inner (inner_of s.place.1))) ss
owned_each nodes l [] rest owned = tt
owned_each nodes l (s ∷ ss) rest owned = (
  (owned_front nodes s.place.0 (node_of (suc l) s.place.1) (map (cell_of_site (suc l)) ss ++ rest) owned).0,
  owned_each nodes l ss (rest ++ cell_of_site (suc l) s ∷ [])
      (owned_same nodes (cell_of_site (suc l) s ∷ (map (cell_of_site (suc l)) ss ++ rest)) (map (cell_of_site (suc l)) ss ++ (rest ++ cell_of_site (suc l) s ∷ [])) owned
      (λ i. same_swap (cell_of_site (suc l) s ∷ []) (map (cell_of_site (suc l)) ss ++ rest) i ∙ ap (found_at i) (append_assoc (map (cell_of_site (suc l)) ss) rest (cell_of_site (suc l) s ∷ [])))),
)

-- ---- what is known of each family

pub record Known (W : NodeId → Bool) (l : ℕ) (nodes : NodeId → Option Node) (f : Family l) : Type 0 where
  pub family : IsFamily l f
  pub sound : SoundSite (suc l) f.parent
  pub still : AllByRecursion (StandsForItself W l) f.children
  pub passed : AllByRecursion (IsPassed l) f.children
  pub held : nodes f.parent.place.0 ≡ Some (Inner (inner_of f.parent.place.1))
  pub above : HasAbove nodes f.parent.path f.parent.low

pub known_full : (W : NodeId → Bool) (l : ℕ) (nodes : NodeId → Option Node) (f : Family l) → Known W l nodes f → IsFull l f.parent
known_full W l nodes f k = sound_full l f.parent k.sound

-- What the changes of a level's families come to.
pub record Setting (l : ℕ) (W : NodeId → Bool) (nodes : NodeId → Option Node) (changes : Changes) (fs : List (Family l)) : Type 0 where
  pub known : AllByRecursion (Known W l nodes) fs
  pub changed : changes.nodes ≡ flat_map (family_changes W l) fs
  pub distinct : Distinct (ids_in fs)

first_zeros : (d l high : ℕ) (root : Site (raised (suc l) d)) → Root (raised (suc l) d) high (value_in (raised (suc l) d) root.place.1) → AllByRecursion (FirstIsZero l) (sites_at d (suc l) root)
first_zeros zero l high root r =
    let n = length-map' {B = ℕ × Subtree l} (λ (child : ℕ × Placed l). (child.0, value_in l child.1.1)) root.place.1 in
    let some = r.0.0 in
    ((omega (arith, n, some), value_first root.place.1 ∙ r.1), tt)
  where
    value_first : (cs : List (ℕ × Placed l)) → next_low (λ child. child.0) 0 cs ≡ next_low (λ child. child.0) 0 (values l cs)
    value_first [] = refl
    value_first (c ∷ cs) = refl
first_zeros (suc d) l high root r =
    every_weaker (SoundSite (suc l)) (FirstIsZero l) (λ s sound. let full = sound_full l s sound in let some = full.0.0 in (omega (arith, some), full.1)) (sites_at (suc d) (suc l) root)
    (sound_parents d (suc l) (high + highest root.edits) root (root_wider (raised (suc (suc l)) d) high (high + highest root.edits) (value_in (raised (suc (suc l)) d) root.place.1) r (omega arith)) (adds_below (high + highest root.edits) root.edits (omega arith)))

pub setting : (d l high : ℕ) (root : Site (raised (suc (suc l)) d)) (W : NodeId → Bool) (rest : List Cell) (nodes : NodeId → Option Node) (changes : Changes) (st : Stands (suc (suc d)) l root W rest nodes changes)
    → Root (raised (suc (suc l)) d) high (value_in (raised (suc (suc l)) d) root.place.1) → (s : Split l (sites_at (suc d) (suc l) root) st.results) → Setting l W nodes changes s.families
setting d l high root W rest nodes changes st r s =
    let grands = sites_at d (suc (suc l)) root in
    let parents = sites_at (suc d) (suc l) root in
    let under = cells_under l (flat_map (λ result. result.pieces) st.results) ++ (flat_map kept_cells st.kept ++ rest) in
    let own_cells : Owns nodes (map (cell_of_site (suc l)) parents ++ (under ++ cells_above (suc d) (suc l) root)) =
    owned_same nodes ((cells_above (suc d) (suc l) root ++ map (cell_of_site (suc l)) parents) ++ under) (map (cell_of_site (suc l)) parents ++ (under ++ cells_above (suc d) (suc l) root)) st.owned
    (λ i. ap (found_at i) (append_assoc (cells_above (suc d) (suc l) root) (map (cell_of_site (suc l)) parents) under) ∙ same_swap (cells_above (suc d) (suc l) root) (map (cell_of_site (suc l)) parents ++ under) i
    ∙ ap (found_at i) (append_assoc (map (cell_of_site (suc l)) parents) under (cells_above (suc d) (suc l) root))) in
    let more = map (cell_of_site (suc l)) parents ++ under in
    let grand_cells : Owns nodes (map (cell_of_site (suc (suc l))) grands ++ (more ++ cells_above d (suc (suc l)) root)) =
    owned_same nodes ((cells_above (suc d) (suc l) root ++ map (cell_of_site (suc l)) parents) ++ under) (map (cell_of_site (suc (suc l))) grands ++ (more ++ cells_above d (suc (suc l)) root)) st.owned
    (λ i. ap (found_at i) (append_assoc (cells_above (suc d) (suc l) root) (map (cell_of_site (suc l)) parents) under ∙ append_assoc (cells_above d (suc (suc l)) root) (map (cell_of_site (suc (suc l))) grands) more)
    ∙ same_swap (cells_above d (suc (suc l)) root) (map (cell_of_site (suc (suc l))) grands ++ more) i ∙ ap (found_at i) (append_assoc (map (cell_of_site (suc (suc l))) grands) more (cells_above d (suc (suc l)) root))) in
    let wide = high + highest root.edits in
    let sound = sound_parents d (suc l) wide root (root_wider (raised (suc (suc l)) d) high wide (value_in (raised (suc (suc l)) d) root.place.1) r (omega arith)) (adds_below wide root.edits (omega arith)) in
    let above = flat_all (λ (t : Site (suc l)). HasAbove nodes t.path t.low) (sites_below (suc l)) grands (aboves grands (first_zeros d (suc l) high root r) (owned_each nodes (suc l) grands (more ++ cells_above d (suc (suc l)) root) grand_cells)) in
    let held = owned_each nodes l parents (under ++ cells_above (suc d) (suc l) root) own_cells in
    let still = all_flat (StandsForItself W l) (λ f. f.children) s.families (subst (AllByRecursion (StandsForItself W l)) (sym s.children) st.still) in
    let passed = all_flat (IsPassed l) (λ f. f.children) s.families (subst (AllByRecursion (IsPassed l)) (sym s.children) (passed_all W l (suc d) st.results st.right)) in
    record {
      known = go s.families s.own
          (map_all (SoundSite (suc l)) (λ f. f.parent) s.families (subst (AllByRecursion (SoundSite (suc l))) (sym s.parents) sound)) still passed
          (map_all (λ (t : Site (suc l)). nodes t.place.0 ≡ Some (Inner (inner_of t.place.1))) (λ f. f.parent) s.families (subst (AllByRecursion (λ (t : Site (suc l)). nodes t.place.0 ≡ Some (Inner (inner_of t.place.1)))) (sym s.parents) held))
          (map_all (λ (t : Site (suc l)). HasAbove nodes t.path t.low) (λ f. f.parent) s.families (subst (AllByRecursion (λ (t : Site (suc l)). HasAbove nodes t.path t.low)) (sym s.parents) above));
      changed = st.changed ∙ ap (λ (rs : List (Result l)). map (change_of l) (filter (is_hit W l) rs)) (sym s.children) ∙ changes_split W l s.families;
      distinct = subst Distinct (ap (map (λ (t : Site (suc l)). t.place.0)) (sym s.parents) ∙ map_map (λ (f : Family l). f.parent) (λ (t : Site (suc l)). t.place.0) s.families) (parents_distinct l nodes parents (under ++ cells_above (suc d) (suc l) root) own_cells);
    }
  where
    aboves : (gs : List (Site (suc (suc l)))) → AllByRecursion (FirstIsZero (suc l)) gs → AllByRecursion (λ (s : Site (suc (suc l))). nodes s.place.0 ≡ Some (Inner (inner_of s.place.1))) gs
        → AllByRecursion (λ (g : Site (suc (suc l))). AllByRecursion (λ (t : Site (suc l)). HasAbove nodes t.path t.low) (sites_below (suc l) g)) gs
    aboves [] zeros held = tt
    aboves (g ∷ gs) zeros held = (above_below nodes (suc l) g zeros.0 held.0, aboves gs zeros.1 held.1)

    go : (fs : List (Family l)) → AllByRecursion (IsFamily l) fs → AllByRecursion (λ (f : Family l). SoundSite (suc l) f.parent) fs → AllByRecursion (λ (f : Family l). AllByRecursion (StandsForItself W l) f.children) fs
        → AllByRecursion (λ (f : Family l). AllByRecursion (IsPassed l) f.children) fs → AllByRecursion (λ (f : Family l). nodes f.parent.place.0 ≡ Some (Inner (inner_of f.parent.place.1))) fs
        → AllByRecursion (λ (f : Family l). HasAbove nodes f.parent.path f.parent.low) fs → AllByRecursion (Known W l nodes) fs
    go [] a b c d e g = tt
    go (f ∷ fs) a b c d e g = (record { family = a.0; sound = b.0; still = c.0; passed = d.0; held = e.0; above = g.0 }, go fs a.1 b.1 c.1 d.1 e.1 g.1)

-- ---- the parent, as its changes tell it

path_aboves : (W : NodeId → Bool) (l : ℕ) (path : List (NodeId × ℕ)) (id : NodeId) (i : ℕ) (rs : List (Result l)) → StepsFrom path id i (map (λ r. r.site) rs)
    → AllByRecursion (λ (c : Change). (path_above c.path ≡ path) × (0 < length c.path)) (changes_in W l rs)
path_aboves W l path id i [] steps = tt
path_aboves W l path id i (r ∷ rs) steps = by (is_hit W l r) (path_aboves W l path id (suc i) rs steps.1)
  where
    long : 0 < length r.site.path
    long = let n = ap length steps.0 ∙ length-append path ((id, i) ∷ []) in omega (arith, n)

    by : (b : Bool) → AllByRecursion (λ (c : Change). (path_above c.path ≡ path) × (0 < length c.path)) (changes_in W l rs)
        → AllByRecursion (λ (c : Change). (path_above c.path ≡ path) × (0 < length c.path)) (map (change_of l) (cond b (r ∷ filter (is_hit W l) rs) (filter (is_hit W l) rs)))
    by true rest = ((ap path_above steps.0 ∙ above_snoc path (id, i), long), rest)
    by false rest = rest

family_paths : (W : NodeId → Bool) (l : ℕ) (f : Family l) → IsFamily l f → AllByRecursion (λ (c : Change). (path_above c.path ≡ f.parent.path) × (0 < length c.path)) (family_changes W l f)
family_paths W l f e = path_aboves W l f.parent.path f.parent.place.0 0 f.children (family_steps l f e)

above_low : (nodes : NodeId → Option Node) (path : List (NodeId × ℕ)) (low : ℕ) → HasAbove nodes path low → low_at nodes path ≡ low
above_low nodes path low above =
    ap (λ (s : NodeId × ℕ). low_in (inner_in (nodes s.0)) s.1) (ap last_step above.path-is ∙ last_snoc above.front (above.id, above.i))
    ∙ ap (λ (o : Option Node). low_in (inner_in o) above.i) above.held ∙ sym above.low-is

pub some_change : (W : NodeId → Bool) (l : ℕ) (f : Family l) → IsFamily l f → is_worked W l f ≡ true → 1 ≤ length (family_changes W l f)
some_change W l f e worked = by (filter (is_hit W l) f.children) refl
  where
    by : (rs : List (Result l)) → filter (is_hit W l) f.children ≡ rs → 1 ≤ length (map (change_of l) rs)
    by [] none = let no = sym (some_hit W l f.children none) ∙ family_any W l f e ∙ worked in absurd cc
    by (r ∷ rs) some = omega arith

pub family_touched : (W : NodeId → Bool) (l : ℕ) (nodes : NodeId → Option Node) (f : Family l) → Known W l nodes f → is_worked W l f ≡ true
    → touched_of nodes (family_changes W l f) ≡ record { id = f.parent.place.0; path = f.parent.path; low = f.parent.low; changes = family_changes W l f }
family_touched W l nodes f k worked = by (family_changes W l f) (some_change W l f k.family worked) (family_parents W l f k.family) (family_paths W l f k.family)
  where
    by : (cs : List Change) → 1 ≤ length cs → AllByRecursion (λ c. parent_of c ≡ f.parent.place.0) cs → AllByRecursion (λ (c : Change). (path_above c.path ≡ f.parent.path) × (0 < length c.path)) cs
        → touched_of nodes cs ≡ record { id = f.parent.place.0; path = f.parent.path; low = f.parent.low; changes = cs }
    by [] some parents paths = absurd (omega (arith, some))
    by (c ∷ cs) some parents paths =
        let low : low_at nodes (path_above c.path) ≡ f.parent.low = ap (low_at nodes) paths.0.0 ∙ above_low nodes f.parent.path f.parent.low k.above in
        rw (parents.0, low, paths.0.0) refl

can_work : (W : NodeId → Bool) (l : ℕ) (nodes : NodeId → Option Node) (f : Family l) → Known W l nodes f → CanWork nodes f.parent.place.0 (family_changes W l f)
can_work W l nodes f k = record {
  node = inner_of f.parent.place.1;
  held = k.held;
  can-splice = record {
    paths = every_weaker (λ (c : Change). (path_above c.path ≡ f.parent.path) × (0 < length c.path)) (λ (c : Change). 0 < length c.path) (λ c both. both.1) (family_changes W l f) (family_paths W l f k.family);
    places = subst (λ n. PlacesRise 0 n (family_changes W l f)) (sym (length-map' (λ (c : ℕ × Placed l). c.1.0) f.parent.place.1)) (family_places W l f k.family);
    rising = subst (λ ps. Rise (later_lows ps)) (sym (family_left W l f k.family (known_full W l nodes f k).1 k.still)) (left_rises l f k.sound k.family k.passed);
  };
}

family_fits : (W : NodeId → Bool) (l : ℕ) (nodes : NodeId → Option Node) (f : Family l) → Known W l nodes f → is_worked W l f ≡ true → Fits nodes (family_changes W l f)
family_fits W l nodes f k worked =
    let is = family_touched W l nodes f k worked in
    let step = ap last_step k.above.path-is ∙ last_snoc k.above.front (k.above.id, k.above.i) in
    let over : IsInnerAt nodes (last_step f.parent.path) = subst (IsInnerAt nodes) (sym step) (record { node = k.above.node; held = k.above.held; inside = k.above.inside }) in
    record {
      some = some_change W l f k.family worked;
      path = subst (λ (t : Touched). 1 ≤ length t.path) (sym is) (let n = ap length k.above.path-is ∙ length-append k.above.front ((k.above.id, k.above.i) ∷ []) in omega (arith, n));
      over = subst (λ (t : Touched). IsInnerAt nodes (last_step t.path)) (sym is) over;
      own = subst (λ (t : Touched). CanWork nodes t.id (family_changes W l f)) (sym is) (can_work W l nodes f k);
    }

-- ---- all families

pub worked_runs : (l : ℕ) (W : NodeId → Bool) (nodes : NodeId → Option Node) (changes : Changes) (fs : List (Family l)) → Setting l W nodes changes fs → runs changes.nodes ≡ map (family_changes W l) (filter (is_worked W l) fs)
worked_runs l W nodes changes fs s = ap runs s.changed ∙ family_runs W l fs (every_weaker (Known W l nodes) (IsFamily l) (λ f k. k.family) fs s.known) s.distinct

all_fit : (W : NodeId → Bool) (l : ℕ) (nodes : NodeId → Option Node) (fs : List (Family l)) → AllByRecursion (Known W l nodes) fs → AllByRecursion (Fits nodes) (map (family_changes W l) (filter (is_worked W l) fs))
all_fit W l nodes [] known = tt
all_fit W l nodes (f ∷ fs) known = by (is_worked W l f) refl (all_fit W l nodes fs known.1)
  where
    by : (b : Bool) → is_worked W l f ≡ b → AllByRecursion (Fits nodes) (map (family_changes W l) (filter (is_worked W l) fs)) → AllByRecursion (Fits nodes) (map (family_changes W l) (cond b (f ∷ filter (is_worked W l) fs) (filter (is_worked W l) fs)))
    by true e rest = (family_fits W l nodes f known.0 e, rest)
    by false e rest = rest

pub runs_fit : (l : ℕ) (W : NodeId → Bool) (nodes : NodeId → Option Node) (changes : Changes) (fs : List (Family l)) → Setting l W nodes changes fs → AllByRecursion (Fits nodes) (runs changes.nodes)
runs_fit l W nodes changes fs s = subst (AllByRecursion (Fits nodes)) (sym (worked_runs l W nodes changes fs s)) (all_fit W l nodes fs s.known)

pub paths_lead : (l : ℕ) (W : NodeId → Bool) (nodes : NodeId → Option Node) (changes : Changes) (fs : List (Family l)) → Setting l W nodes changes fs → AllByRecursion (λ (c : Change). 0 < length c.path) changes.nodes
paths_lead l W nodes changes fs s =
    subst (AllByRecursion (λ (c : Change). 0 < length c.path)) (sym s.changed)
    (flat_all (λ (c : Change). 0 < length c.path) (family_changes W l) fs
    (every_weaker (Known W l nodes) (λ f. AllByRecursion (λ (c : Change). 0 < length c.path) (family_changes W l f))
    (λ f k. every_weaker (λ (c : Change). (path_above c.path ≡ f.parent.path) × (0 < length c.path)) (λ (c : Change). 0 < length c.path) (λ c both. both.1) (family_changes W l f) (family_paths W l f k.family)) fs s.known))

-- The parents' ids, each once.
pub ids_once : (l : ℕ) (W : NodeId → Bool) (nodes : NodeId → Option Node) (changes : Changes) (fs : List (Family l)) → Setting l W nodes changes fs
    → Distinct (map (λ (t : Touched). t.id) (map (touched_of nodes) (runs changes.nodes)))
ids_once l W nodes changes fs s =
    subst (λ rs. Distinct (map (λ (t : Touched). t.id) (map (touched_of nodes) rs))) (sym (worked_runs l W nodes changes fs s)) (go fs s.known s.distinct)
  where
    others : (id : NodeId) (fs : List (Family l)) → AllByRecursion (Known W l nodes) fs → AllByRecursion (λ other. id ≢ other) (ids_in fs)
        → AllByRecursion (λ other. id ≢ other) (map (λ (t : Touched). t.id) (map (touched_of nodes) (map (family_changes W l) (filter (is_worked W l) fs))))
    others id [] known apart = tt
    others id (f ∷ fs) known apart = by (is_worked W l f) refl (others id fs known.1 apart.1)
      where
        by : (b : Bool) → is_worked W l f ≡ b → AllByRecursion (λ other. id ≢ other) (map (λ (t : Touched). t.id) (map (touched_of nodes) (map (family_changes W l) (filter (is_worked W l) fs))))
            → AllByRecursion (λ other. id ≢ other) (map (λ (t : Touched). t.id) (map (touched_of nodes) (map (family_changes W l) (cond b (f ∷ filter (is_worked W l) fs) (filter (is_worked W l) fs)))))
        by true e rest = (subst (λ (t : Touched). id ≢ t.id) (sym (family_touched W l nodes f known.0 e)) apart.0, rest)
        by false e rest = rest

    go : (fs : List (Family l)) → AllByRecursion (Known W l nodes) fs → Distinct (ids_in fs) → Distinct (map (λ (t : Touched). t.id) (map (touched_of nodes) (map (family_changes W l) (filter (is_worked W l) fs))))
    go [] known distinct = tt
    go (f ∷ fs) known distinct = by (is_worked W l f) refl (go fs known.1 distinct.1) (others f.parent.place.0 fs known.1 distinct.0)
      where
        by : (b : Bool) → is_worked W l f ≡ b → Distinct (map (λ (t : Touched). t.id) (map (touched_of nodes) (map (family_changes W l) (filter (is_worked W l) fs))))
            → AllByRecursion (λ other. f.parent.place.0 ≢ other) (map (λ (t : Touched). t.id) (map (touched_of nodes) (map (family_changes W l) (filter (is_worked W l) fs))))
            → Distinct (map (λ (t : Touched). t.id) (map (touched_of nodes) (map (family_changes W l) (cond b (f ∷ filter (is_worked W l) fs) (filter (is_worked W l) fs)))))
        by true e rest apart = (subst (λ (t : Touched). AllByRecursion (λ other. t.id ≢ other) (map (λ (t : Touched). t.id) (map (touched_of nodes) (map (family_changes W l) (filter (is_worked W l) fs))))) (sym (family_touched W l nodes f known.0 e)) apart, rest)
        by false e rest apart = rest
