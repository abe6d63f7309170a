-- The second pass of a batch: the Sets of its orphans, and what both passes cost.
use Rattle.std.proofs.Common.{◌≡◌, ℕ, suc, ◌≤◌, ◌+◌, ◌*◌, map, List, [], ◌∷◌, length, refl, ap, ◌∙◌, subst, arith}
use Rattle.std.specs.Prelude.{Option}
use Rattle.std.proofs.Math.Nat.{add-mul, mul-add, mul-le-mul_left, le-max_left, le-max_right}
use Rattle.palm_base.specs.History.{calls_of}
use Rattle.palm_base.specs.Pass.{set_of, passed_tree, orphans_of, batch_tree}
use Rattle.palm_base.specs.Tree.{Tree, levels_of}
use Rattle.palm_base.specs.declared.call.Entry.{Entry}
use Rattle.palm_base.specs.declared.row.Row.{Row}
use Rattle.palm_base.proofs.SetLevels.{sets_keep_levels}
use Rattle.palm_base.proofs.Sets.{sets_are}
use Rattle.palm_node.specs.declared.id.NodeId.{NodeId}
use Rattle.palm_node.specs.declared.node.Node.{Node}
use Rattle.palm_arena.specs.Leaves.{LeafPlace, leaves_at}
use Rattle.palm_arena.specs.declared.shape.Shape.{Shape}
use Rattle.palm_route.specs.Counts.{parts_on}
use Rattle.palm_route.specs.Parts.{parts_of}
use Rattle.palm_route.proofs.CountedParts.{parts_are_counted}
use Rattle.palm_batch.specs.Costs.{cost_on, levels_over}
use Rattle.palm_batch.specs.Passing.{IsTree, edits_in, parts_at, set_entry}

-- The Sets of rows are edits, and each has one part.
edits_of_sets : (rows : List Row) → edits_in (map set_entry rows) ≡ map set_of rows
edits_of_sets [] = refl
edits_of_sets (row ∷ rows) = ap (λ calls. set_of row ∷ calls) (edits_of_sets rows)

parts_of_sets : (places : List LeafPlace) (first : ℕ) (rows : List Row) → length (parts_of places first (map set_entry rows)) ≡ length rows
parts_of_sets places first [] = refl
parts_of_sets places first (row ∷ rows) = ap suc (parts_of_sets places (suc first) rows)

-- Of a tree that was passed, the Sets of its orphans leave the tree of the batch.
pub tree_run : (tree : Tree) (batch sets : List Entry) (orphans : List Row) (nodes : NodeId → Option Node) (shape : Shape)
    → orphans ≡ orphans_of tree (edits_in batch) → sets ≡ map set_entry orphans → IsTree (passed_tree (passed_tree tree (edits_in batch)) (edits_in sets)) nodes shape
    → IsTree (batch_tree tree (calls_of batch)) nodes shape
tree_run tree batch sets orphans nodes shape are made is =
    let edits = ap edits_in made ∙ edits_of_sets orphans ∙ ap (map set_of) are in
    subst (λ edits. IsTree (passed_tree (passed_tree tree (edits_in batch)) edits) nodes shape) edits is

-- ---- what both passes cost

pass_costs : (tree : Tree) (nodes : NodeId → Option Node) (shape : Shape) (parts levels before first : ℕ) → IsTree tree nodes shape → levels_of tree ≤ levels
    → first ≤ before + 2 * parts * (shape.levels + 2) → first ≤ before + 2 * parts * (levels + 2)
pass_costs tree nodes shape parts levels before first is few cost =
    let wide : 2 * parts * (shape.levels + 2) ≤ 2 * parts * (levels + 2) = mul-le-mul_left (2 * parts) (omega (arith, few, is.reads-as.0)) in
    within (2 * parts * (shape.levels + 2)) (2 * parts * (levels + 2)) wide cost
  where
    within : (x y : ℕ) → x ≤ y → first ≤ before + x → first ≤ before + y
    within x y wide cost = omega (arith, wide, cost)

together : (parts orphans levels before first last : ℕ) → first ≤ before + 2 * parts * (levels + 2) → last ≤ first + 2 * orphans * (levels + 2) → last ≤ before + 2 * (parts + orphans) * (levels + 2)
together parts orphans levels before first last one two =
    let sum : 2 * (parts + orphans) * (levels + 2) ≡ 2 * parts * (levels + 2) + 2 * orphans * (levels + 2) =
    ap (λ n. n * (levels + 2)) (mul-add 2 parts orphans) ∙ add-mul (2 * parts) (2 * orphans) (levels + 2) in
    within (2 * parts * (levels + 2)) (2 * orphans * (levels + 2)) (2 * (parts + orphans) * (levels + 2)) sum one two
  where
    within : (x y z : ℕ) → z ≡ x + y → first ≤ before + x → last ≤ first + y → last ≤ before + z
    within x y z sum one two = omega (arith, sum, one, two)

-- The first pass costs no more than its parts may over the levels of the tree before or after the batch.
parts_cost : (tree : Tree) (batch : List Entry) (nodes : NodeId → Option Node) (shape : Shape) (before first : ℕ) → IsTree tree nodes shape
    → first ≤ before + 2 * length (parts_at nodes shape batch) * (shape.levels + 2) → first ≤ before + 2 * parts_on tree batch * (levels_over tree batch + 2)
parts_cost tree batch nodes shape before first is one =
    pass_costs tree nodes shape (parts_on tree batch) (levels_over tree batch) before first is (le-max_left (levels_of tree) (levels_of (batch_tree tree (calls_of batch))))
    (subst (λ n. first ≤ before + 2 * n * (shape.levels + 2)) (parts_are_counted nodes shape tree 0 batch is.reads-as) one)

-- So the first pass alone costs no more than the batch may.
pub first_cost : (tree : Tree) (batch : List Entry) (nodes : NodeId → Option Node) (shape : Shape) (before first : ℕ) → IsTree tree nodes shape
    → first ≤ before + 2 * length (parts_at nodes shape batch) * (shape.levels + 2) → first ≤ before + cost_on tree batch
first_cost tree batch nodes shape before first is one =
    let gone = length (orphans_of tree (edits_in batch)) in
    together (parts_on tree batch) gone (levels_over tree batch) before first first (parts_cost tree batch nodes shape before first is one)
    (none (2 * gone * (levels_over tree batch + 2)))
  where
    none : (n : ℕ) → first ≤ first + n
    none n = omega arith

-- Both passes cost no more than the batch may.
pub both_cost : (tree : Tree) (batch sets : List Entry) (orphans : List Row) (nodes between : NodeId → Option Node) (shape after : Shape) (before first last : ℕ) → IsTree tree nodes shape
    → orphans ≡ orphans_of tree (edits_in batch) → sets ≡ map set_entry orphans → IsTree (passed_tree tree (edits_in batch)) between after
    → first ≤ before + 2 * length (parts_at nodes shape batch) * (shape.levels + 2) → last ≤ first + 2 * length (parts_at between after sets) * (after.levels + 2)
    → last ≤ before + cost_on tree batch
both_cost tree batch sets orphans nodes between shape after before first last is are made passed one two =
    let levels = levels_over tree batch in
    let next = passed_tree tree (edits_in batch) in
    let gone = orphans_of tree (edits_in batch) in
    let many : length (parts_at between after sets) ≡ length gone = ap (λ all. length (parts_at between after all)) made ∙ parts_of_sets (leaves_at between after) 0 orphans ∙ ap length are in
    let higher = sets_keep_levels next (map set_of gone) passed.lawful (sets_are gone) in
    let most = le-max_right (levels_of tree) (levels_of (batch_tree tree (calls_of batch))) in
    together (parts_on tree batch) (length gone) levels before first last (parts_cost tree batch nodes shape before first is one)
    (pass_costs next between after (length gone) levels first last passed (omega (arith, higher, most)) (subst (λ n. last ≤ first + 2 * n * (after.levels + 2)) many two))
