-- A pass over the parts of a batch: how it begins, and that the tree after it stands alone again.
use Rattle.std.proofs.Common.{◌≡◌, ℕ, suc, ◌<◌, ◌≤◌, ◌+◌, ◌-◌, ◌*◌, ◌⊎◌, inl, inr, not, ltb, leb, List, [], ◌∷◌, ◌++◌, length, refl, sym, ap, ◌∙◌, subst, arith}
use Rattle.std.specs.Prelude.{Option}
use Rattle.std.specs.List.{filter, flat_map, AllByRecursion}
use Rattle.std.proofs.Math.Nat.{mul-le-mul_left, mul-le-mul_right, mul-add, le_trans}
use Rattle.std.proofs.lemmas.Bool.{lt-ltb, le-ltb, lt-leb, le-leb, cases_lt}
use Rattle.std.proofs.lemmas.List.Filters.{length-filter_both}
use Rattle.std.proofs.lemmas.List.Sums.{sum_by-append}
use Rattle.palm_base.specs.Key.{key}
use Rattle.palm_base.specs.Lawful.{IsLawful}
use Rattle.palm_base.specs.Lows.{LowsAreKeys}
use Rattle.palm_base.specs.Pass.{passed_tree, orphans_of}
use Rattle.palm_base.specs.Tree.{Tree}
use Rattle.palm_base.specs.declared.call.Call.{Call}
use Rattle.palm_base.specs.declared.call.Call.TheVariants as call
use Rattle.palm_base.specs.declared.call.Entry.{Entry}
use Rattle.palm_base.specs.declared.row.Row.{Row}
use Rattle.palm_base.proofs.Batches.{pass_keeps_law}
use Rattle.palm_base.proofs.Every.{every_append}
use Rattle.palm_base.proofs.Keys.{is_key}
use Rattle.palm_base.proofs.Lows.{passed_keys}
use Rattle.palm_node.specs.declared.change.Changes.{Changes}
use Rattle.palm_node.specs.declared.id.NodeId.{NodeId}
use Rattle.palm_node.specs.declared.node.Node.{Node}
use Rattle.palm_arena.specs.declared.shape.Shape.{Shape}
use Rattle.palm_arena.specs.Cells.{Cell, Owns}
use Rattle.palm_arena.specs.Leaves.{LeafPlace, leaves_at}
use Rattle.palm_arena.specs.Passes.{Pass, Begins, StandsAt, IsRepaired, outcome_of}
use Rattle.palm_arena.specs.Placed.{PlacedTree, cells_of, value_of}
use Rattle.palm_arena.specs.Reads.{HasTree, ReadsAs}
use Rattle.palm_arena.specs.Standing.{kept_cells}
use Rattle.palm_arena.proofs.CellLists.{owned_same, same_pass}
use Rattle.palm_arena.proofs.OwnedTrees.{owned_reads, owned_whole, whole_owns}
use Rattle.palm_route.specs.Edits.{EditsPrefix, edits_of}
use Rattle.palm_route.specs.Groups.{groups_of, group_at}
use Rattle.palm_route.specs.Parts.{parts_by_keys, front_keys, list_keys, lows_of, parts_of_call, parts_of}
use Rattle.palm_route.specs.declared.part.Ask.{Ask}
use Rattle.palm_route.specs.declared.part.Ask.TheVariants as ask
use Rattle.palm_route.specs.declared.part.Group.{Group}
use Rattle.palm_route.specs.declared.part.Part.{Part}
use Rattle.palm_route.proofs.PartEdits.{parts_keep_edits}
use Rattle.palm_leaf.specs.Routed.{GoesByKey, HasKey, IsRouted, parts_in}
use Rattle.palm_leaf.proofs.Beginnings.{pass_over, pass_begins}
use Rattle.palm_root.specs.Roots.{level_below, StandsBelow}
use Rattle.palm_root.specs.Sweeps.{HoldsRemoved}
use Rattle.palm_batch.specs.Passing.{IsTree, edits_in, parts_at, groups_at}

-- ---- the keys of parts

by_keys : (entry number : ℕ) (what : Ask) (keys : List ℕ) → ((k : ℕ) → GoesByKey k what) → AllByRecursion HasKey (parts_by_keys entry number what keys)
by_keys entry number what [] goes = tt
by_keys entry number what (k ∷ keys) goes = (goes k, by_keys entry (suc number) what keys goes)

call_keys : (places : List LeafPlace) (entry : ℕ) (one : Call) → EditsPrefix one → AllByRecursion HasKey (parts_of_call places entry one)
call_keys places entry (call.Set prefix rate) is = (is_key (key prefix) prefix is refl, tt)
call_keys places entry (call.Del prefix) is = (is_key (key prefix) prefix is refl, tt)
call_keys places entry (call.Get prefix) is = (tt, tt)
call_keys places entry (call.Rate number) is = by_keys entry 0 ask.Look (front_keys number) (λ k. tt)
call_keys places entry (call.List from to limit) is = by_keys entry 0 (ask.List from to limit) (list_keys (key from) (key to) (lows_of places)) (λ k. tt)

-- The edits among the parts of a batch go by the keys of prefixes.
pub parts_have_keys : (places : List LeafPlace) (first : ℕ) (batch : List Entry) → AllByRecursion (λ entry. EditsPrefix entry.call) batch → AllByRecursion HasKey (parts_of places first batch)
parts_have_keys places first [] is = tt
parts_have_keys places first (entry ∷ batch) is = every_append HasKey (parts_of_call places first entry.call) (parts_of places (suc first) batch) (call_keys places first entry.call is.0) (parts_have_keys places (suc first) batch is.1)

-- ---- how the pass begins

pub tree_there : (tree : Tree) (nodes : NodeId → Option Node) (shape : Shape) → IsTree tree nodes shape → HasTree nodes shape
tree_there tree nodes shape is = record { tree = tree; reads-as = is.reads-as; lawful = is.lawful; lows = is.lows }

-- A batch over a tree that stands alone is a pass.
pub record PassOver (tree : Tree) (batch : List Entry) (nodes : NodeId → Option Node) (shape : Shape) : Type 0 where
  pub placed : PlacedTree
  pub begins : Begins (pass_over nodes shape (parts_at nodes shape batch) placed) nodes shape
  pub routed : IsRouted (pass_over nodes shape (parts_at nodes shape batch) placed) nodes shape (groups_at nodes shape batch) (parts_at nodes shape batch)
  pub value-is : value_of placed ≡ tree
  pub edits-are : edits_of (parts_at nodes shape batch) ≡ edits_in batch

pub pass_of : (tree : Tree) (batch : List Entry) (nodes : NodeId → Option Node) (shape : Shape) → IsTree tree nodes shape → AllByRecursion (λ entry. EditsPrefix entry.call) batch → PassOver tree batch nodes shape
pass_of tree batch nodes shape is prefixes =
    let owns = whole_owns nodes shape tree is.reads-as is.whole in
    let keys = parts_have_keys (leaves_at nodes shape) 0 batch prefixes in
    record {
      placed = owns.placed;
      begins = pass_begins nodes shape (parts_at nodes shape batch) owns.placed (subst IsLawful (sym owns.value-is) is.lawful) (subst LowsAreKeys (sym owns.value-is) is.lows) owns.root owns.levels owns.owned keys;
      routed = record { groups-are = refl; edits-are = refl; routed-are = refl; keys = keys };
      value-is = owns.value-is;
      edits-are = parts_keep_edits (leaves_at nodes shape) 0 batch prefixes;
    }

-- The pass itself.
abbrev pub pass_in : (tree : Tree) (batch : List Entry) (nodes : NodeId → Option Node) (shape : Shape) → PassOver tree batch nodes shape → Pass
pass_in tree batch nodes shape over = pass_over nodes shape (parts_at nodes shape batch) over.placed

-- ---- from stage to stage

-- What the leaf stage, the levels and the root are asked and give, with the groups of the batch.
abbrev pub LeavesStand : (nodes later : NodeId → Option Node) → Shape → List Group → Changes → Type 0
LeavesStand nodes later shape groups changes = (p : Pass) (parts : List Part) → Begins p nodes shape → IsRouted p nodes shape groups parts → StandsAt p 1 later changes

abbrev pub LevelsStand : (nodes later : NodeId → Option Node) → Shape → Changes → Changes → Type 0
LevelsStand nodes later shape leaves changes = (p : Pass) → shape.levels ≡ suc p.tree.0 → StandsAt p 1 nodes leaves → StandsAt p (level_below shape.levels) later changes

pub pass_routed : (tree : Tree) (batch : List Entry) (nodes : NodeId → Option Node) (shape : Shape) (groups : List Group) → (over : PassOver tree batch nodes shape) → groups ≡ groups_at nodes shape batch
    → IsRouted (pass_in tree batch nodes shape over) nodes shape groups (parts_at nodes shape batch)
pass_routed tree batch nodes shape groups over are = subst (λ gs. IsRouted (pass_in tree batch nodes shape over) nodes shape gs (parts_at nodes shape batch)) (sym are) over.routed

pub leaves_done : (tree : Tree) (batch : List Entry) (nodes later : NodeId → Option Node) (shape : Shape) (groups : List Group) (changes : Changes) → (over : PassOver tree batch nodes shape) → groups ≡ groups_at nodes shape batch
    → LeavesStand nodes later shape groups changes → StandsAt (pass_in tree batch nodes shape over) 1 later changes
leaves_done tree batch nodes later shape groups changes over are stand =
    stand (pass_in tree batch nodes shape over) (parts_at nodes shape batch) over.begins (pass_routed tree batch nodes shape groups over are)

pub levels_done : (tree : Tree) (batch : List Entry) (nodes first second : NodeId → Option Node) (shape : Shape) (groups : List Group) (leaves changes : Changes) → (over : PassOver tree batch nodes shape) → groups ≡ groups_at nodes shape batch
    → LeavesStand nodes first shape groups leaves → LevelsStand first second shape leaves changes → StandsBelow (pass_in tree batch nodes shape over) second shape changes
levels_done tree batch nodes first second shape groups leaves changes over are stand rise = record {
  root = over.begins.root;
  levels = over.begins.levels;
  stands = rise (pass_in tree batch nodes shape over) over.begins.levels (leaves_done tree batch nodes first shape groups leaves over are stand);
}

-- ---- how it ends

-- What the removed nodes hold stands beside the tree after the pass.
pub removed_there : (p : Pass) (nodes : NodeId → Option Node) (changes : Changes) (shape : Shape) → (repaired : IsRepaired p nodes changes shape) → HoldsRemoved (outcome_of p).loose (cells_of repaired.tree.0 repaired.tree.1 ++ p.rest) nodes changes
removed_there p nodes changes shape repaired = record {
  kept = repaired.kept;
  removed = repaired.removed;
  loose-are = repaired.loose;
  owned = owned_same nodes (cells_of repaired.tree.0 repaired.tree.1 ++ (flat_map kept_cells repaired.kept ++ p.rest)) _ repaired.owned (same_pass (cells_of repaired.tree.0 repaired.tree.1) (flat_map kept_cells repaired.kept) p.rest);
}

-- Where they are dropped, it stands alone.
alone_after : (p : Pass) (nodes last : NodeId → Option Node) (changes : Changes) (shape : Shape) → p.rest ≡ [] → (repaired : IsRepaired p nodes changes shape) → Owns last (cells_of repaired.tree.0 repaired.tree.1 ++ p.rest)
    → IsTree (passed_tree (value_of p.tree) p.edits) last shape
alone_after p nodes last changes shape none repaired owned =
    let lawful = subst IsLawful (sym repaired.tree-is) (pass_keeps_law (value_of p.tree) p.edits repaired.is-pass.lawful) in
    let lows = passed_keys (value_of p.tree) p.edits repaired.is-pass.lows repaired.is-pass.prefixes in
    let own = subst (λ (rest : List Cell). Owns last (cells_of repaired.tree.0 repaired.tree.1 ++ rest)) none owned in
    record {
      reads-as = subst (λ tree. ReadsAs last shape tree) repaired.tree-is (owned_reads last repaired.tree [] shape lawful repaired.root repaired.levels own);
      whole = owned_whole last repaired.tree shape lawful repaired.root repaired.levels own;
      lawful = subst IsLawful repaired.tree-is lawful;
      lows = lows;
    }

-- The orphans and the tree after the pass, where the stages stand and the removed nodes are dropped.
pub tree_passed : (tree : Tree) (batch : List Entry) (nodes between last : NodeId → Option Node) (changes : Changes) (before shape : Shape) → (over : PassOver tree batch nodes before) → (repaired : IsRepaired (pass_in tree batch nodes before over) between changes shape)
    → Owns last (cells_of repaired.tree.0 repaired.tree.1 ++ []) → IsTree (passed_tree tree (edits_in batch)) last shape
tree_passed tree batch nodes between last changes before shape over repaired owned =
    subst (λ (t : Tree). IsTree (passed_tree t (edits_in batch)) last shape) over.value-is
    (subst (λ edits. IsTree (passed_tree (value_of over.placed) edits) last shape) over.edits-are
    (alone_after (pass_in tree batch nodes before over) between last changes shape refl repaired owned))

pub orphans_passed : (tree : Tree) (batch : List Entry) (nodes : NodeId → Option Node) (shape : Shape) (rows : List Row) → (over : PassOver tree batch nodes shape)
    → rows ≡ orphans_of (value_of over.placed) (edits_of (parts_at nodes shape batch)) → rows ≡ orphans_of tree (edits_in batch)
orphans_passed tree batch nodes shape rows over are = are ∙ ap (λ (t : Tree). orphans_of t (edits_of (parts_at nodes shape batch))) over.value-is ∙ ap (orphans_of tree) over.edits-are

-- ---- how much it takes

at_most : (place : LeafPlace) (parts : List Part) → parts_in (group_at place parts) ≤ length parts
at_most place [] = omega arith
at_most place (part ∷ parts) = omega arith

right_is_not_left : (low k : ℕ) → leb low k ≡ not (ltb k low)
right_is_not_left low k = by (cases_lt k low)
  where
    by : (k < low) ⊎ (low ≤ k) → leb low k ≡ not (ltb k low)
    by (inl less) = rw (lt-leb low k less, lt-ltb k low less) refl
    by (inr more) = rw (le-leb low k more, le-ltb k low more) refl

-- Groups have no more parts than they were made of.
pub few_in_groups : (places : List LeafPlace) (parts : List Part) → parts_in (groups_of places parts) ≤ length parts
few_in_groups [] parts = omega arith
few_in_groups (place ∷ []) parts = at_most place parts
few_in_groups (place ∷ next ∷ places) parts =
    let left = filter (λ part. ltb part.key next.low) parts in
    let right = filter (λ part. leb next.low part.key) parts in
    let a = at_most place left in
    let b = few_in_groups (next ∷ places) right in
    let c = sum_by-append (λ (group : Group). length group.parts) (group_at place left) (groups_of (next ∷ places) right) in
    let d = length-filter_both (λ (part : Part). ltb part.key next.low) (λ part. leb next.low part.key) (λ part. right_is_not_left next.low part.key) parts in
    omega (arith, a, b, c, d)

pub few_parts : (nodes : NodeId → Option Node) (shape : Shape) (batch : List Entry) (groups : List Group) → groups ≡ groups_at nodes shape batch → parts_in groups ≤ length (parts_at nodes shape batch)
few_parts nodes shape batch groups are = subst (λ gs. parts_in gs ≤ length (parts_at nodes shape batch)) (sym are) (few_in_groups (leaves_at nodes shape) (parts_at nodes shape batch))

pub some_levels : (tree : Tree) (nodes : NodeId → Option Node) (shape : Shape) → IsTree tree nodes shape → 1 ≤ shape.levels
some_levels tree nodes shape is = omega (arith, is.reads-as.0)

-- All stages of a pass together.
pub pass_ticks : (m n levels before leaves below last : ℕ) → m ≤ n → 1 ≤ levels → leaves ≤ before + 2 * m → below ≤ leaves + 2 * m * (levels - 2) → last ≤ below + 4 * m → last ≤ before + 2 * n * (levels + 2)
pass_ticks m n levels before leaves below last few some first second third =
    let wide : 2 * m * (3 + (levels - 2)) ≤ 2 * n * (levels + 2) = le_trans (mul-le-mul_left (2 * m) (omega (arith, some))) (mul-le-mul_right (levels + 2) (omega (arith, few))) in
    let split : 2 * m * (3 + (levels - 2)) ≡ 2 * m * 3 + 2 * m * (levels - 2) = mul-add (2 * m) 3 (levels - 2) in
    rest (2 * m * (levels - 2)) (2 * m * (3 + (levels - 2))) (2 * n * (levels + 2)) second wide split
  where
    rest : (x y z : ℕ) → below ≤ leaves + x → y ≤ z → y ≡ 2 * m * 3 + x → last ≤ before + z
    rest x y z a b c = omega (arith, first, third, a, b, c)
