-- The results of a level by their parents, and the runs of the changes.
use Rattle.std.proofs.Common.{◌≡◌, ◌≢◌, ℕ, suc, Bool, true, false, cond, ◌||◌, List, [], ◌∷◌, ◌++◌, map, refl, sym, ap, ◌∙◌, subst, eq-eqb, eqb-true, Option, append_assoc}
use Rattle.std.specs.List.{flat_map, filter, AllByRecursion, list_any}
use Rattle.std.proofs.lemmas.List.Elements.{filter-append}
use mathlib.Core.List.{map-append}
use Rattle.palm_base.specs.Pass.{goes_right}
use Rattle.palm_base.specs.declared.call.Call.{Call}
use Rattle.palm_node.specs.declared.id.NodeId.{NodeId}
use Rattle.palm_node.specs.declared.node.Node.{Node}
use Rattle.palm_node.specs.declared.change.Change.{Change}
use Rattle.palm_arena.specs.Reads.{same_place}
use Rattle.palm_arena.specs.Cells.{Cell, Found, Nothing, One, Several, both, found_if, found_at, Owns}
use Rattle.palm_arena.specs.Placed.{Placed}
use Rattle.palm_arena.specs.Sites.{Site, sites_of_children, sites_below, cell_of_site}
use Rattle.palm_arena.specs.Standing.{is_touched, Result, is_hit, change_of}
use Rattle.palm_arena.proofs.LevelCells.{sites_children}
use Rattle.palm_arena.proofs.CellLists.{owned_same, owned_front, same_swap}
use Rattle.palm_arena.proofs.ListParts.{map_all, part}
use Rattle.palm_level.specs.Splices.{last_step}
use Rattle.palm_level.specs.Runs.{parent_of, add_run, runs}
use Rattle.palm_level.proofs.Bare.{last_snoc}
use Rattle.palm_arena.proofs.Keeping.{same_id}
use Rattle.palm_level.specs.Tasks.{Distinct}
use Rattle.palm_level.specs.Families.{Family, is_worked, IsFamily}

-- The families of a level's results.
pub record Split (l : ℕ) (ps : List (Site (suc l))) (rs : List (Result l)) : Type 0 where
  pub families : List (Family l)
  pub parents : map (λ f. f.parent) families ≡ ps
  pub children : flat_map (λ f. f.children) families ≡ rs
  pub own : AllByRecursion (IsFamily l) families

pub split : (l : ℕ) (ps : List (Site (suc l))) (rs : List (Result l)) → map (λ r. r.site) rs ≡ flat_map (sites_below l) ps → Split l ps rs
split l [] [] e = record { families = []; parents = refl; children = refl; own = tt }
split l [] (r ∷ rs) e = absurd (cc)
split l (p ∷ ps) rs e =
    let t = part (λ (r : Result l). r.site) rs (sites_below l p) (flat_map (sites_below l) ps) e in
    let s = split l ps t.later t.of_later in
    record {
      families = record { parent = p; children = t.first; ids = [] } ∷ s.families;
      parents = ap (λ qs. p ∷ qs) s.parents;
      children = ap (λ qs. t.first ++ qs) s.children ∙ t.whole;
      own = (t.of_first, s.own);
    }

-- The touched children of a family.
abbrev pub family_changes : (NodeId → Bool) → (l : ℕ) → Family l → List Change
family_changes W l f = map (change_of l) (filter (is_hit W l) f.children)

pub changes_split : (W : NodeId → Bool) (l : ℕ) (fs : List (Family l)) → map (change_of l) (filter (is_hit W l) (flat_map (λ f. f.children) fs)) ≡ flat_map (family_changes W l) fs
changes_split W l [] = refl
changes_split W l (f ∷ fs) =
    ap (map (change_of l)) (filter-append (is_hit W l) f.children (flat_map (λ f. f.children) fs)) ∙ map-append (change_of l) (filter (is_hit W l) f.children) (filter (is_hit W l) (flat_map (λ f. f.children) fs))
    ∙ ap (λ cs. family_changes W l f ++ cs) (changes_split W l fs)

site_parents : (l : ℕ) (path : List (NodeId × ℕ)) (id : NodeId) (i : ℕ) (children : List (ℕ × Placed l)) (edits : List Call) → AllByRecursion (λ s. (last_step s.path).0 ≡ id) (sites_of_children l path id i children edits)
site_parents l path id i [] edits = tt
site_parents l path id i (child ∷ []) edits = (ap (λ (s : NodeId × ℕ). s.0) (last_snoc path (id, i)), tt)
site_parents l path id i (child ∷ next ∷ children) edits = (ap (λ (s : NodeId × ℕ). s.0) (last_snoc path (id, i)), site_parents l path id (suc i) (next ∷ children) (filter (goes_right next.0) edits))

changes_parents : (W : NodeId → Bool) (l : ℕ) (id : NodeId) (rs : List (Result l)) → AllByRecursion (λ r. (last_step r.site.path).0 ≡ id) rs → AllByRecursion (λ c. parent_of c ≡ id) (map (change_of l) (filter (is_hit W l) rs))
changes_parents W l id [] a = tt
changes_parents W l id (r ∷ rs) a = by (is_hit W l r) (changes_parents W l id rs a.1)
  where
    by : (b : Bool) → AllByRecursion (λ c. parent_of c ≡ id) (map (change_of l) (filter (is_hit W l) rs)) → AllByRecursion (λ c. parent_of c ≡ id) (map (change_of l) (cond b (r ∷ filter (is_hit W l) rs) (filter (is_hit W l) rs)))
    by true ih = (a.0, ih)
    by false ih = ih

pub family_parents : (W : NodeId → Bool) (l : ℕ) (f : Family l) → IsFamily l f → AllByRecursion (λ c. parent_of c ≡ f.parent.place.0) (family_changes W l f)
family_parents W l f e =
    changes_parents W l f.parent.place.0 f.children (map_all (λ (s : Site l). (last_step s.path).0 ≡ f.parent.place.0) (λ r. r.site) f.children (subst (AllByRecursion (λ (s : Site l). (last_step s.path).0 ≡ f.parent.place.0)) (sym e) (site_parents l f.parent.path f.parent.place.0 0 f.parent.place.1 f.parent.edits)))

-- What begins the runs of a list.
abbrev Begins : Change → List (List Change) → Type 0
Begins x [] = ⊥
Begins x ([] ∷ rs) = ⊥
Begins x ((y ∷ ys) ∷ rs) = y ≡ x

runs_begin : (x : Change) (xs : List Change) → Begins x (runs (x ∷ xs))
runs_begin x xs = by (runs xs)
  where
    by : (rs : List (List Change)) → Begins x (add_run x rs)
    by [] = refl
    by ([] ∷ rs) = refl
    by ((y ∷ ys) ∷ rs) = if_same (same_place (parent_of x) (parent_of y))
      where
        if_same : (b : Bool) → Begins x (cond b ((x ∷ y ∷ ys) ∷ rs) ((x ∷ []) ∷ (y ∷ ys) ∷ rs))
        if_same true = refl
        if_same false = refl

abbrev pub Apart : NodeId → List Change → Type 0
Apart id [] = Unit {0}
Apart id (x ∷ xs) = id ≢ parent_of x

ne-eqb : (a b : NodeId) → a ≢ b → same_place a b ≡ false
ne-eqb a b n = by (same_place a b) refl
  where
    by : (c : Bool) → same_place a b ≡ c → c ≡ false
    by true e = absurd (n (same_id a b (eqb-true a.place b.place e)))
    by false e = refl

pub run_front : (x : Change) (xs rest : List Change) → AllByRecursion (λ y. parent_of y ≡ parent_of x) xs → Apart (parent_of x) rest → runs (x ∷ xs ++ rest) ≡ (x ∷ xs) ∷ runs rest
run_front x [] [] a n = refl
run_front x [] (y ∷ ys) a n = by (runs (y ∷ ys)) (runs_begin y ys)
  where
    by : (rs : List (List Change)) → Begins y rs → add_run x rs ≡ (x ∷ []) ∷ rs
    by [] b = absurd b
    by ([] ∷ rs) b = absurd b
    by ((z ∷ zs) ∷ rs) b = rw (ne-eqb (parent_of x) (parent_of z) (λ e. n (e ∙ ap parent_of b)))
run_front x (y ∷ ys) rest a n =
    let ih = run_front y ys rest (same ys a.1) (apart rest n) in
    ap (add_run x) ih ∙ rw (eq-eqb (parent_of x).place (parent_of y).place (ap (λ (i : NodeId). i.place) (sym a.0)))
  where
    same : (zs : List Change) → AllByRecursion (λ z. parent_of z ≡ parent_of x) zs → AllByRecursion (λ z. parent_of z ≡ parent_of y) zs
    same [] b = tt
    same (z ∷ zs) b = (b.0 ∙ sym a.0, same zs b.1)

    apart : (zs : List Change) → Apart (parent_of x) zs → Apart (parent_of y) zs
    apart [] b = tt
    apart (z ∷ zs) b = λ e. b (sym a.0 ∙ e)

others_at : (l : ℕ) (i : NodeId) (ps : List (Site (suc l))) (rest : List Cell) → found_at i (map (cell_of_site (suc l)) ps ++ rest) ≡ Nothing → AllByRecursion (λ j. i ≢ j) (map (λ p. p.place.0) ps)
others_at l i [] rest e = tt
others_at l i (p ∷ ps) rest e = by (same_place p.place.0 i) refl (others_at l i ps rest) e
  where
    by : (b : Bool) → same_place p.place.0 i ≡ b → (found_at i (map (cell_of_site (suc l)) ps ++ rest) ≡ Nothing → AllByRecursion (λ j. i ≢ j) (map (λ p. p.place.0) ps)) → both (found_if b (cell_of_site (suc l) p).1) (found_at i (map (cell_of_site (suc l)) ps ++ rest)) ≡ Nothing → AllByRecursion (λ j. i ≢ j) (p.place.0 ∷ map (λ p. p.place.0) ps)
    by true q ih e = absurd (never (found_at i (map (cell_of_site (suc l)) ps ++ rest)) e)
      where
        never : (x : Found) → both (One (cell_of_site (suc l) p).1) x ≡ Nothing → ⊥
        never Nothing e = (cc)
        never (One s) e = (cc)
        never Several e = (cc)
    by false q ih e = ((λ s. let t = eq-eqb p.place.0.place i.place (ap (λ (k : NodeId). k.place) (sym s)) in absurd (cc)), ih e)

pub parents_distinct : (l : ℕ) (m : NodeId → Option Node) (ps : List (Site (suc l))) (rest : List Cell) → Owns m (map (cell_of_site (suc l)) ps ++ rest) → Distinct (map (λ p. p.place.0) ps)
parents_distinct l m [] rest o = tt
parents_distinct l m (p ∷ ps) rest o =
    let f = owned_front m p.place.0 (cell_of_site (suc l) p).1 (map (cell_of_site (suc l)) ps ++ rest) o in
    (others_at l p.place.0 ps rest f.1, parents_distinct l m ps (rest ++ cell_of_site (suc l) p ∷ []) (owned_same m (cell_of_site (suc l) p ∷ (map (cell_of_site (suc l)) ps ++ rest)) (map (cell_of_site (suc l)) ps ++ (rest ++ cell_of_site (suc l) p ∷ [])) o (λ i. same_swap (cell_of_site (suc l) p ∷ []) (map (cell_of_site (suc l)) ps ++ rest) i ∙ ap (found_at i) (append_assoc (map (cell_of_site (suc l)) ps) rest (cell_of_site (suc l) p ∷ [])))))

-- A touched node has a touched child.
pub some_hit : (W : NodeId → Bool) (l : ℕ) (rs : List (Result l)) → filter (is_hit W l) rs ≡ [] → list_any (λ (child : ℕ × Placed l). is_touched W l child.1) (map {B = ℕ × Placed l} (λ s. (s.low, s.place)) (map (λ r. r.site) rs)) ≡ false
some_hit W l [] e = refl
some_hit W l (r ∷ rs) e = by (is_hit W l r) e (some_hit W l rs)
  where
    by : (b : Bool) → cond b (r ∷ filter (is_hit W l) rs) (filter (is_hit W l) rs) ≡ [] → (filter (is_hit W l) rs ≡ [] → list_any (λ (child : ℕ × Placed l). is_touched W l child.1) (map {B = ℕ × Placed l} (λ s. (s.low, s.place)) (map (λ r. r.site) rs)) ≡ false)
        → (b || list_any (λ (child : ℕ × Placed l). is_touched W l child.1) (map {B = ℕ × Placed l} (λ s. (s.low, s.place)) (map (λ r. r.site) rs))) ≡ false
    by true e ih = absurd (cc)
    by false e ih = ih e

no_hit : (W : NodeId → Bool) (l : ℕ) (rs : List (Result l)) → list_any (λ (child : ℕ × Placed l). is_touched W l child.1) (map {B = ℕ × Placed l} (λ s. (s.low, s.place)) (map (λ r. r.site) rs)) ≡ false → filter (is_hit W l) rs ≡ []
no_hit W l [] e = refl
no_hit W l (r ∷ rs) e = by (is_hit W l r) e (no_hit W l rs)
  where
    by : (b : Bool) → (b || list_any (λ (child : ℕ × Placed l). is_touched W l child.1) (map {B = ℕ × Placed l} (λ s. (s.low, s.place)) (map (λ r. r.site) rs))) ≡ false
        → (list_any (λ (child : ℕ × Placed l). is_touched W l child.1) (map {B = ℕ × Placed l} (λ s. (s.low, s.place)) (map (λ r. r.site) rs)) ≡ false → filter (is_hit W l) rs ≡ []) → cond b (r ∷ filter (is_hit W l) rs) (filter (is_hit W l) rs) ≡ []
    by true e ih = absurd (cc)
    by false e ih = ih e

pub family_any : (W : NodeId → Bool) (l : ℕ) (f : Family l) → IsFamily l f → list_any (λ (child : ℕ × Placed l). is_touched W l child.1) (map {B = ℕ × Placed l} (λ s. (s.low, s.place)) (map (λ r. r.site) f.children)) ≡ is_worked W l f
family_any W l f e = ap (list_any (λ (child : ℕ × Placed l). is_touched W l child.1)) (ap (map {B = ℕ × Placed l} (λ s. (s.low, s.place))) e ∙ sites_children l f.parent.path f.parent.place.0 0 f.parent.place.1 f.parent.edits)

-- Of two families one after the other, the next touched one has another id.
abbrev pub ids_in : {l : ℕ} → List (Family l) → List NodeId
ids_in fs = map (λ f. f.parent.place.0) fs

apart_next : (W : NodeId → Bool) (l : ℕ) (id : NodeId) (fs : List (Family l)) → AllByRecursion (IsFamily l) fs → AllByRecursion (λ j. id ≢ j) (ids_in fs) → Apart id (flat_map (family_changes W l) fs)
apart_next W l id [] a d = tt
apart_next W l id (f ∷ fs) a d = by (family_changes W l f) (family_parents W l f a.0) (apart_next W l id fs a.1 d.1)
  where
    by : (cs : List Change) → AllByRecursion (λ c. parent_of c ≡ f.parent.place.0) cs → Apart id (flat_map (family_changes W l) fs) → Apart id (cs ++ flat_map (family_changes W l) fs)
    by [] p ih = ih
    by (c ∷ cs) p ih = λ e. d.0 (e ∙ p.0)

-- The runs of the changes are the changes of each touched node's children.
pub family_runs : (W : NodeId → Bool) (l : ℕ) (fs : List (Family l)) → AllByRecursion (IsFamily l) fs → Distinct (ids_in fs) → runs (flat_map (family_changes W l) fs) ≡ map (family_changes W l) (filter (is_worked W l) fs)
family_runs W l [] a d = refl
family_runs W l (f ∷ fs) a d = by (is_worked W l f) refl (family_runs W l fs a.1 d.1)
  where
    by : (b : Bool) → is_worked W l f ≡ b → runs (flat_map (family_changes W l) fs) ≡ map (family_changes W l) (filter (is_worked W l) fs)
        → runs (family_changes W l f ++ flat_map (family_changes W l) fs) ≡ map (family_changes W l) (cond b (f ∷ filter (is_worked W l) fs) (filter (is_worked W l) fs))
    by false e ih = ap (λ (rs : List (Result l)). runs (map (change_of l) rs ++ flat_map (family_changes W l) fs)) (no_hit W l f.children (family_any W l f a.0 ∙ e)) ∙ ih
    by true e ih = cases (family_changes W l f) (family_parents W l f a.0) none ∙ ap (λ rs. family_changes W l f ∷ rs) ih
      where
        none : family_changes W l f ≡ [] → ⊥
        none q = let z = sym (some_hit W l f.children (unmap (filter (is_hit W l) f.children) q)) ∙ (family_any W l f a.0 ∙ e) in absurd (cc)
          where
            unmap : (rs : List (Result l)) → map (change_of l) rs ≡ [] → rs ≡ []
            unmap [] q = refl
            unmap (r ∷ rs) q = absurd (cc)

        cases : (cs : List Change) → AllByRecursion (λ c. parent_of c ≡ f.parent.place.0) cs → (cs ≡ [] → ⊥) → runs (cs ++ flat_map (family_changes W l) fs) ≡ cs ∷ runs (flat_map (family_changes W l) fs)
        cases [] p n = absurd (n refl)
        cases (c ∷ cs) p n = run_front c cs (flat_map (family_changes W l) fs) (same cs p.1) (subst (λ i. Apart i (flat_map (family_changes W l) fs)) (sym p.0) (apart_next W l f.parent.place.0 fs a.1 d.0))
          where
            same : (zs : List Change) → AllByRecursion (λ z. parent_of z ≡ f.parent.place.0) zs → AllByRecursion (λ z. parent_of z ≡ parent_of c) zs
            same [] b = tt
            same (z ∷ zs) b = (b.0 ∙ sym p.0, same zs b.1)
