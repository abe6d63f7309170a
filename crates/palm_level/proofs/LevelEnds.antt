-- The work on the parents of a level's changes leads to the changes of the next, and takes no more than these tell.
use Rattle.std.proofs.Common.{◌≡◌, ℕ, zero, suc, Bool, true, false, cond, List, [], ◌∷◌, ◌++◌, length, map, refl, sym, ap, ◌∙◌, eqb-true, Option, Some}
use Rattle.std.specs.List.{flat_map, AllByRecursion, filter}
use Rattle.std.proofs.lemmas.Bool.{and_parts}
use Rattle.std.proofs.lemmas.List.{append-nil}
use Rattle.palm_base.specs.Cut.{cut}
use Rattle.palm_base.specs.Tree.{Subtree}
use Rattle.palm_base.specs.Pass.{Outcome, node_over, nodes_over, is_small, below, rows_under, pass}
use Rattle.palm_base.specs.Lawful.{next_low}
use Rattle.palm_base.specs.declared.bounds.TheConstants.{LEAST_CHILDREN, MOST_CHILDREN}
use Rattle.palm_base.specs.declared.call.Call.{Call}
use Rattle.palm_base.proofs.CutParts.{large}
use Rattle.palm_node.specs.InnerNode.{InnerNode, inner_over}
use Rattle.palm_node.specs.declared.id.NodeId.{NodeId}
use Rattle.palm_node.specs.declared.id.Piece.{Piece}
use Rattle.palm_node.specs.declared.node.Node.{Node}
use Rattle.palm_node.specs.declared.node.Node.TheVariants.{Inner}
use Rattle.palm_node.specs.declared.change.Change.{Change}
use Rattle.palm_node.specs.declared.change.Changes.{Changes}
use Rattle.palm_arena.specs.Cells.{Cell, found_at, SameCells, Turns}
use Rattle.palm_arena.specs.Placed.{Placed, value_in, values, bare}
use Rattle.palm_arena.specs.Sites.{Site, raised, sites_at}
use Rattle.palm_arena.specs.Standing.{Result, is_hit, StandsForItself, change_of, Stands}
use Rattle.palm_arena.proofs.Natural.{inside, small-map}
use Rattle.palm_arena.proofs.SitePasses.{site_pass}
use Rattle.palm_arena.proofs.CellLists.{same_trans, same_sym, same_eq}
use Rattle.palm_arena.proofs.ListParts.{same_parted, same_each, flat_map'}
use Rattle.palm_level.specs.Families.{Family, IsPassed, placed_left, is_worked}
use Rattle.palm_base.specs.Pass.{leaves_of}
use Rattle.palm_base.proofs.SoundNodes.{low_of, first_has_low}
use Rattle.palm_base.proofs.Every.{every_weaker}
use Rattle.palm_base.specs.Table.{row_key, after_all}
use Rattle.palm_base.specs.declared.bounds.TheConstants.{LEAST_LEAF_ROWS, MOST_LEAF_ROWS}
use Rattle.palm_arena.proofs.Keeping.{same_id}
use Rattle.palm_arena.proofs.Turning.{turns_before, turns_same}
use Rattle.palm_level.specs.Runs.{runs}
use Rattle.palm_level.specs.Groups.{Touched, Group, touched_of, is_alone, is_still, group_left, nodes_left, group_nodes, named_pieces, cells_at, cells_before, cells_after, removed_cell, group_change, group_removed}
use Rattle.palm_level.specs.Tasks.{IsGroup, HasWorked, change_for, removed_for, lent_for, made_for, itself}
use Rattle.palm_level.proofs.Bare.{own, changes_in, family_own, inner_of, family_left, flat_bare, left_bare}
use Rattle.palm_level.proofs.Split.{family_changes}
use Rattle.palm_level.proofs.Families.{full_left}
use Rattle.palm_level.proofs.Running.{IsOf, Ready, Aligned, none, other, this, given, run_stands}
use Rattle.palm_level.proofs.LevelFacts.{Known, known_full, Setting, family_touched, worked_runs}

-- ---- a node that stays as it is

-- The first piece of a node keeps its low.
pass_first : (l low : ℕ) (node : Subtree l) (edits : List Call) → next_low low_of low (pass l low node edits).pieces ≡ low
unfolding pass
pass_first zero low rows edits = by (is_small LEAST_LEAF_ROWS (after_all rows edits))
  where
    by : (b : Bool) → next_low low_of low (let o : Outcome zero = cond b (record { pieces = []; loose = after_all rows edits }) (record { pieces = leaves_of low (after_all rows edits); loose = [] }) in o.pieces) ≡ low
    by true = refl
    by false = first_has_low row_key (λ part. part) low (cut MOST_LEAF_ROWS (after_all rows edits))
pass_first (suc l) low children edits = by (is_small LEAST_CHILDREN (below l (pass l) children edits).pieces)
  where
    left : Outcome l
    left = below l (pass l) children edits

    by : (b : Bool) → next_low low_of low (let o : Outcome (suc l) = cond b (record { pieces = []; loose = rows_under l left.pieces ++ left.loose }) (record { pieces = nodes_over low left.pieces; loose = left.loose }) in o.pieces) ≡ low
    by true = refl
    by false = first_has_low low_of node_over low (cut MOST_CHILDREN left.pieces)

-- A passed child that stands for itself alone is its own place.
alone_own : (l : ℕ) (r : Result l) → IsPassed l r → is_alone r.site.place.0 (bare r.pieces) ≡ true → bare r.pieces ≡ own r ∷ []
alone_own l r passed alone = by r.pieces passed alone
  where
    by : (pieces : List (ℕ × Placed l)) → values l pieces ≡ (site_pass l r.site).pieces → is_alone r.site.place.0 (bare pieces) ≡ true → bare pieces ≡ own r ∷ []
    by [] passed alone = absurd cc
    by (p ∷ q ∷ more) passed alone = absurd cc
    by (p ∷ []) passed alone =
        let low : p.0 ≡ r.site.low = ap (next_low low_of r.site.low) passed ∙ pass_first l r.site.low (value_in l r.site.place.1) r.site.edits in
        let id : p.1.0 ≡ r.site.place.0 = same_id p.1.0 r.site.place.0 (eqb-true p.1.0.place r.site.place.0.place alone) in
        rw (low, id) refl

-- Where each changed child stands for itself alone, what is left of the children is the children.
pub still_bare : (W : NodeId → Bool) (l : ℕ) (rs : List (Result l)) → AllByRecursion (StandsForItself W l) rs → AllByRecursion (IsPassed l) rs → is_still (changes_in W l rs) ≡ true → flat_map (λ r. bare r.pieces) rs ≡ map own rs
still_bare W l [] still passed alone = refl
still_bare W l (r ∷ rs) still passed alone = by (is_hit W l r) refl alone (still_bare W l rs still.1 passed.1)
  where
    by : (b : Bool) → is_hit W l r ≡ b → is_still (map (change_of l) (cond b (r ∷ filter (is_hit W l) rs) (filter (is_hit W l) rs))) ≡ true
        → (is_still (changes_in W l rs) ≡ true → flat_map (λ r. bare r.pieces) rs ≡ map own rs) → bare r.pieces ++ flat_map (λ r. bare r.pieces) rs ≡ own r ∷ map own rs
    by true h alone rest =
        let both = and_parts (is_alone r.site.place.0 (bare r.pieces)) (is_still (changes_in W l rs)) alone in
        ap (λ ps. ps ++ flat_map (λ r. bare r.pieces) rs) (alone_own l r passed.0 both.0) ∙ ap (λ ps. own r ∷ ps) (rest both.1)
    by false h alone rest = ap (λ ps. bare ps ++ flat_map (λ r. bare r.pieces) rs) (still.0 h) ∙ ap (λ ps. own r ∷ ps) (rest alone)

still_left : (W : NodeId → Bool) (l : ℕ) (nodes : NodeId → Option Node) (f : Family l) → Known W l nodes f → is_still (family_changes W l f) ≡ true → bare (placed_left l f) ≡ bare f.parent.place.1
still_left W l nodes f k still = sym (flat_bare l f.children) ∙ still_bare W l f.children k.still k.passed still ∙ family_own l f k.family

-- A node that stays has its own id.
abbrev settled : Group → Group
settled g = record { touched = g.touched; node = g.node; ids = cond (is_still g.touched.changes) (g.touched.id ∷ []) g.ids }

-- ---- each group is a family's

-- The group of a touched node, as the node's family tells it.
record IsFor (W : NodeId → Bool) (l : ℕ) (nodes : NodeId → Option Node) (g : Group) (f : Family l) : Type 0 where
  touched : g.touched ≡ record { id = f.parent.place.0; path = f.parent.path; low = f.parent.low; changes = family_changes W l f }
  node : g.node ≡ inner_of f.parent.place.1
  group : IsGroup nodes g

is_for : (W : NodeId → Bool) (l : ℕ) (nodes : NodeId → Option Node) (g : Group) (f : Family l) → Known W l nodes f → is_worked W l f ≡ true → IsGroup nodes g → g.touched ≡ touched_of nodes (family_changes W l f) → IsFor W l nodes g f
is_for W l nodes g f k worked group is =
    let touched = is ∙ family_touched W l nodes f k worked in
    let held : Some (Inner g.node) ≡ Some (Inner (inner_of f.parent.place.1)) = sym group.held ∙ ap (λ (t : Touched). nodes t.id) touched ∙ k.held in
    record { touched = touched; node = (cc); group = group }

ready_of : (W : NodeId → Bool) (l : ℕ) (nodes : NodeId → Option Node) (f : Family l) → Known W l nodes f → Ready W l f
ready_of W l nodes f k = record { family = k.family; full = known_full W l nodes f k; still = k.still }

left_for : (W : NodeId → Bool) (l : ℕ) (nodes : NodeId → Option Node) (g : Group) (f : Family l) → Known W l nodes f → IsFor W l nodes g f → group_left g ≡ bare (placed_left l f)
left_for W l nodes g f k is = rw (is.node, ap (λ (t : Touched). t.changes) is.touched) (family_left W l f k.family (known_full W l nodes f k).1 k.still)

-- What is left of a node that stays: itself.
stays_nodes : (W : NodeId → Bool) (l : ℕ) (nodes : NodeId → Option Node) (g : Group) (f : Family l) → Known W l nodes f → IsFor W l nodes g f → is_still g.touched.changes ≡ true
    → (group_nodes g ≡ (g.touched.low, g.node) ∷ []) × (is_small LEAST_CHILDREN (group_left g) ≡ false)
stays_nodes W l nodes g f k is still =
    let full = known_full W l nodes f k in
    let alone : is_still (family_changes W l f) ≡ true = ap (λ (t : Touched). is_still t.changes) (sym is.touched) ∙ still in
    let left : group_left g ≡ bare f.parent.place.1 = left_for W l nodes g f k is ∙ still_left W l nodes f k alone in
    let large_bare : is_small LEAST_CHILDREN (bare f.parent.place.1) ≡ false = small-map {B = Piece} (λ (child : ℕ × Placed l). record { low = child.0; id = child.1.0 }) LEAST_CHILDREN f.parent.place.1 ∙ large LEAST_CHILDREN f.parent.place.1 full.0.0 in
    let one : nodes_left g.touched.low (bare f.parent.place.1) ≡ (g.touched.low, inner_of f.parent.place.1) ∷ [] =
    sym (left_bare g.touched.low f.parent.place.1) ∙ ap (map {B = ℕ × InnerNode} (inside inner_of)) (full_left g.touched.low f.parent.place.1 full.0 full.1) in
    (ap (nodes_left g.touched.low) left ∙ one ∙ ap (λ n. (g.touched.low, n) ∷ []) (sym is.node), ap (is_small LEAST_CHILDREN) left ∙ large_bare)

-- The settled group is the family's.
is_of : (W : NodeId → Bool) (l : ℕ) (nodes : NodeId → Option Node) (g : Group) (f : Family l) → Known W l nodes f → IsFor W l nodes g f → IsOf W l (settled g) f
is_of W l nodes g f k is = record {
  id = ap (λ (t : Touched). t.id) is.touched;
  path = ap (λ (t : Touched). t.path) is.touched;
  low = ap (λ (t : Touched). t.low) is.touched;
  node = is.node;
  changes = ap (λ (t : Touched). t.changes) is.touched;
  many = by (is_still g.touched.changes) refl;
}
  where
    by : (b : Bool) → is_still g.touched.changes ≡ b → length (cond b (g.touched.id ∷ []) g.ids) ≡ length (group_nodes g)
    by true still = sym (ap length (stays_nodes W l nodes g f k is still).0)
    by false moves = is.group.ids moves

-- What is lent and made, beside what stays, is what the settled group was and is.
abbrev stays_for : Group → List Cell
stays_for g = cond (is_still g.touched.changes) (cells_before g) []

before_for : (g : Group) → SameCells (cells_before (settled g)) (lent_for g ++ stays_for g)
before_for g = by (is_still g.touched.changes)
  where
    by : (b : Bool) → SameCells (cells_before g) (cond b [] (cells_before g) ++ cond b (cells_before g) [])
    by true i = refl
    by false i = refl

record Settles (W : NodeId → Bool) (l : ℕ) (g : Group) : Type 0 where
  after : SameCells (made_for g ++ stays_for g) (cells_after (settled g))
  change : change_for g ≡ group_change (settled g)
  removed : (level : ℕ) → removed_for level g ≡ group_removed level (settled g)

settles : (W : NodeId → Bool) (l : ℕ) (nodes : NodeId → Option Node) (g : Group) (f : Family l) → Known W l nodes f → IsFor W l nodes g f → Settles W l g
settles W l nodes g f k is = by (is_still g.touched.changes) refl
  where
    cells : List NodeId → List Cell
    cells ids = cells_at ids (group_nodes g) ++ removed_cell g

    by : (b : Bool) → is_still g.touched.changes ≡ b → Settles W l g
    by true still =
        let stay = stays_nodes W l nodes g f k is still in
        record {
          after = λ i.
              ap (λ s. found_at i (cond s [] (cells_after g) ++ cond s (cells_before g) [])) still
              ∙ sym (ap (λ s. found_at i (cells_at (cond s (g.touched.id ∷ []) g.ids) (group_nodes g) ++ removed_cell g)) still
              ∙ ap (λ ns. found_at i (cells_at (g.touched.id ∷ []) ns ++ removed_cell g)) stay.0
              ∙ ap (λ s. found_at i ((g.touched.id, Inner g.node) ∷ cond s ((g.touched.id, Inner (inner_over (group_left g))) ∷ []) [])) stay.1);
          change =
              ap (λ s. cond s (itself g.touched) (group_change g)) still
              ∙ sym (ap (λ s. let c : Change = record { node = g.touched.id; path = g.touched.path; pieces = named_pieces (cond s (g.touched.id ∷ []) g.ids) (group_nodes g) } in c) still
              ∙ ap (λ ns. let c : Change = record { node = g.touched.id; path = g.touched.path; pieces = named_pieces (g.touched.id ∷ []) ns } in c) stay.0);
          removed = λ level. ap (λ s. cond s [] (group_removed level g)) still ∙ sym (ap (λ s. cond s (record { level = level; id = g.touched.id } ∷ []) []) stay.1);
        }
    by false moves = record {
      after = λ i.
          ap (λ s. found_at i (cond s [] (cells_after g) ++ cond s (cells_before g) [])) moves ∙ ap (found_at i) (append-nil (cells_after g))
          ∙ sym (ap (λ s. found_at i (cells_at (cond s (g.touched.id ∷ []) g.ids) (group_nodes g) ++ removed_cell g)) moves);
      change = ap (λ s. cond s (itself g.touched) (group_change g)) moves ∙ sym (ap (λ s. let c : Change = record { node = g.touched.id; path = g.touched.path; pieces = named_pieces (cond s (g.touched.id ∷ []) g.ids) (group_nodes g) } in c) moves);
      removed = λ level. ap (λ s. cond s [] (group_removed level g)) moves;
    }

-- ---- all groups

record AlignedAll (W : NodeId → Bool) (l : ℕ) (fs : List (Family l)) (gs : List Group) : Type 0 where
  families : List (Family l)
  aligned : Aligned W l fs (map settled gs) families
  settle : AllByRecursion (Settles W l) gs

align : (W : NodeId → Bool) (l : ℕ) (nodes : NodeId → Option Node) (fs : List (Family l)) (gs : List Group) → AllByRecursion (Known W l nodes) fs → AllByRecursion (IsGroup nodes) gs
    → map (λ (g : Group). g.touched) gs ≡ map (touched_of nodes) (map (family_changes W l) (filter (is_worked W l) fs)) → AlignedAll W l fs gs
align W l nodes [] [] known groups e = record { families = []; aligned = none; settle = tt }
align W l nodes [] (g ∷ gs) known groups e = absurd cc
align W l nodes (f ∷ fs) gs known groups e = by (is_worked W l f) refl gs groups e (λ gs groups e. align W l nodes fs gs known.1 groups e)
  where
    by : (b : Bool) → is_worked W l f ≡ b → (gs : List Group) → AllByRecursion (IsGroup nodes) gs
        → map (λ (g : Group). g.touched) gs ≡ map (touched_of nodes) (map (family_changes W l) (cond b (f ∷ filter (is_worked W l) fs) (filter (is_worked W l) fs)))
        → ((gs : List Group) → AllByRecursion (IsGroup nodes) gs → map (λ (g : Group). g.touched) gs ≡ map (touched_of nodes) (map (family_changes W l) (filter (is_worked W l) fs)) → AlignedAll W l fs gs)
        → AlignedAll W l (f ∷ fs) gs
    by false rests gs groups e more =
        let rest = more gs groups e in
        record { families = f ∷ rest.families; aligned = other f rests rest.aligned; settle = rest.settle }
    by true worked [] groups e more = absurd cc
    by true worked (g ∷ gs) groups e more =
        let first : g.touched ≡ touched_of nodes (family_changes W l f) = (cc) in
        let later : map (λ (g : Group). g.touched) gs ≡ map (touched_of nodes) (map (family_changes W l) (filter (is_worked W l) fs)) = (cc) in
        let rest = more gs groups.1 later in
        let is = is_for W l nodes g f known.0 worked groups.0 first in
        record { families = given f (settled g).ids ∷ rest.families; aligned = this f (settled g) worked (is_of W l nodes g f known.0 is) rest.aligned; settle = (settles W l nodes g f known.0 is, rest.settle) }

all_change : (W : NodeId → Bool) (l : ℕ) (gs : List Group) → AllByRecursion (Settles W l) gs → map change_for gs ≡ map group_change (map settled gs)
all_change W l [] all = refl
all_change W l (g ∷ gs) all = ap (λ c. c ∷ map change_for gs) all.0.change ∙ ap (λ cs. group_change (settled g) ∷ cs) (all_change W l gs all.1)

all_removed : (W : NodeId → Bool) (l level : ℕ) (gs : List Group) → AllByRecursion (Settles W l) gs → flat_map (removed_for level) gs ≡ flat_map (group_removed level) (map settled gs)
all_removed W l level [] all = refl
all_removed W l level (g ∷ gs) all = ap (λ c. c ++ flat_map (removed_for level) gs) (all.0.removed level) ∙ ap (λ cs. group_removed level (settled g) ++ cs) (all_removed W l level gs all.1)

all_turns : (W : NodeId → Bool) (l : ℕ) (old new : NodeId → Option Node) (gs : List Group) → AllByRecursion (Settles W l) gs → Turns old new (flat_map lent_for gs) (flat_map made_for gs)
    → Turns old new (flat_map cells_before (map settled gs)) (flat_map cells_after (map settled gs))
all_turns W l old new gs all turns =
    turns_same old new (flat_map lent_for gs ++ flat_map stays_for gs) (flat_map cells_before (map settled gs)) (flat_map made_for gs ++ flat_map stays_for gs) (flat_map cells_after (map settled gs))
    (same_trans _ (flat_map (λ g. lent_for g ++ stays_for g) gs) _
    (same_trans _ (flat_map (λ g. cells_before (settled g)) gs) _ (same_eq _ _ (flat_map' settled cells_before gs)) (same_each (Settles W l) (λ g. cells_before (settled g)) (λ g. lent_for g ++ stays_for g) (λ g s. before_for g) gs all))
    (same_parted lent_for stays_for gs))
    (same_trans _ (flat_map (λ g. made_for g ++ stays_for g) gs) _ (same_sym (flat_map (λ g. made_for g ++ stays_for g) gs) (flat_map made_for gs ++ flat_map stays_for gs) (same_parted made_for stays_for gs))
    (same_trans _ (flat_map (λ g. cells_after (settled g)) gs) _ (same_each (Settles W l) (λ g. made_for g ++ stays_for g) (λ g. cells_after (settled g)) (λ g s. s.after) gs all) (same_eq _ _ (sym (flat_map' settled cells_after gs)))))
    (turns_before old new (flat_map lent_for gs) (flat_map made_for gs) (flat_map stays_for gs) turns)

-- Where all parents of a level's changes were worked on, their changes stand for the next level.
pub level_worked : (d l : ℕ) (root : Site (raised l (suc (suc d)))) (W : NodeId → Bool) (rest : List Cell) (old new : NodeId → Option Node) (changes before after : Changes) (st : Stands (suc (suc d)) l root W rest old changes) (fs : List (Family l))
    → map (λ f. f.parent) fs ≡ sites_at (suc d) (suc l) root → flat_map (λ f. f.children) fs ≡ st.results → Setting l W old changes fs
    → before ≡ record { nodes = []; loose = changes.loose; removed = changes.removed } → HasWorked old (suc (suc l)) (map (touched_of old) (runs changes.nodes)) new before after
    → Stands (suc d) (suc l) root W rest new after
level_worked d l root W rest old new changes before after st fs parents children s start worked =
    let is = worked.are ∙ ap (map (touched_of old)) (worked_runs l W old changes fs s) in
    let all = align W l old fs worked.groups s.known worked.are-groups is in
    let nodes : after.nodes ≡ map group_change (map settled worked.groups) = worked.changed ∙ ap (λ (c : Changes). c.nodes ++ map change_for worked.groups) start ∙ all_change W l worked.groups all.settle in
    let loose : after.loose ≡ changes.loose = worked.loose ∙ ap (λ (c : Changes). c.loose) start in
    let removed : after.removed ≡ changes.removed ++ flat_map (group_removed (suc (suc l))) (map settled worked.groups) =
    worked.removed ∙ ap (λ (c : Changes). c.removed ++ flat_map (removed_for (suc (suc l))) worked.groups) start ∙ ap (λ rs. changes.removed ++ rs) (all_removed W l (suc (suc l)) worked.groups all.settle) in
    run_stands (suc d) l root W rest old new changes after st fs all.families (map settled worked.groups) parents children (every_weaker (Known W l old) (Ready W l) (λ f k. ready_of W l old f k) fs s.known) all.aligned
    (all_turns W l old new worked.groups all.settle worked.turns)
    (λ i. record { nodes = nodes i; loose = loose i; removed = removed i })
