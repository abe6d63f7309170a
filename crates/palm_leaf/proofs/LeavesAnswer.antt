-- The answers of the groups of parts go by the rows of the whole table, spread over the leaves.
use Rattle.std.proofs.Common.{◌≡◌, ℕ, zero, suc, ◌≤◌, ltb, leb, List, [], ◌∷◌, ◌++◌, length, drop, refl, sym, ap, ◌∙◌, subst, arith, Some}
use Rattle.std.specs.Prelude.{Option}
use Rattle.std.specs.List.{filter, flat_map, AllByRecursion}
use Rattle.std.proofs.lemmas.List.{append-nil}
use mathlib.Core.List.{map-append}
use Rattle.palm_base.proofs.Every.{every_append}
use Rattle.palm_base.specs.Tree.{Subtree, rows_in, rows_of}
use Rattle.palm_base.specs.Lawful.{Root, InOrder}
use Rattle.palm_base.specs.Pass.{goes_left, goes_right, rows_under}
use Rattle.palm_base.specs.declared.call.Call.{Call}
use Rattle.palm_node.specs.declared.id.NodeId.{NodeId}
use Rattle.palm_node.specs.declared.node.Node.{Node}
use Rattle.palm_node.specs.declared.node.Node.TheVariants.{Leaf}
use Rattle.palm_arena.specs.Leaves.{LeafPlace, leaves_of_children, leaves_under, leaves_at}
use Rattle.palm_arena.specs.Placed.{Placed, value_in, values, cells_of, ids_of_children}
use Rattle.palm_arena.specs.Routes.{separators_of}
use Rattle.palm_arena.proofs.PlacedTrees.{Holds}
use Rattle.palm_arena.specs.Sites.{Site}
use Rattle.palm_arena.specs.Passes.{Pass}
use Rattle.palm_arena.proofs.ListParts.{flat_flat}
use Rattle.palm_arena.proofs.PlacedTrees.{placed_at}
use Rattle.palm_route.specs.Groups.{groups_of}
use Rattle.palm_route.specs.Parts.{lows_of}
use Rattle.palm_route.specs.declared.part.Group.{Group}
use Rattle.palm_route.specs.declared.part.Part.{Part}
use Rattle.palm_leaf.specs.Answers.{answers_in, rows_at, rows_in_node}
use Rattle.palm_leaf.specs.Laws.{TheLeavesAnswer, TheLeavesAnswerRates}
use Rattle.palm_leaf.specs.Loads.{LeafLoad, load_group}
use Rattle.palm_leaf.specs.Routed.{HasKey}
use Rattle.palm_leaf.specs.Spread.{spread}
use Rattle.palm_leaf.specs.declared.answer.PartAnswer.{PartAnswer}
use Rattle.palm_leaf.proofs.Loads.{held_node, leaves_node, loads_of_children, loads_under, root_matches}
use Rattle.palm_leaf.proofs.TableAnswers.{spread_answers, whole_range, load_answers, loads_lows, children_answer, nodes_answer, rates_in_range}

-- ---- the leaves under a node beside their loads

-- The loads begin where the leaves do, and a map holds the rows of each.
record Beside (nodes : NodeId → Option Node) (places : List LeafPlace) (loads : List LeafLoad) : Type 0 where
  lows : lows_of places ≡ loads_lows loads
  held : AllByRecursion (λ load. nodes load.site.place.0 ≡ Some (Leaf load.site.place.1)) loads

beside_join : (nodes : NodeId → Option Node) (places places' : List LeafPlace) (loads loads' : List LeafLoad) → Beside nodes places loads → Beside nodes places' loads' → Beside nodes (places ++ places') (loads ++ loads')
beside_join nodes places places' loads loads' l r = record {
  lows = map-append (λ (place : LeafPlace). place.low) places places' ∙ ap (λ lows. lows ++ lows_of places') l.lows ∙ ap (λ lows. loads_lows loads ++ lows) r.lows ∙ sym (map-append (λ (load : LeafLoad). load.low) loads loads');
  held = every_append (λ load. nodes load.site.place.0 ≡ Some (Leaf load.site.place.1)) loads loads' l.held r.held;
}

abbrev NodesBeside : (NodeId → Option Node) → ℕ → Type 0
NodesBeside nodes n = (site : Site n) (low : ℕ) (parts : List Part) → Holds nodes (cells_of n site.place) → Beside nodes (leaves_under nodes n site.path low site.place.0) (loads_under n site low parts)

children_beside : (nodes : NodeId → Option Node) (n : ℕ) → NodesBeside nodes n → (path : List (NodeId × ℕ)) (id : NodeId) (i low : ℕ) (child : ℕ × Placed n) (children : List (ℕ × Placed n)) (edits : List Call) (parts : List Part)
    → AllByRecursion (λ c. Holds nodes (cells_of n c.1)) (child ∷ children)
    → Beside nodes (leaves_of_children (leaves_under nodes n) path id i (low ∷ separators_of (child ∷ children)) (ids_of_children (child ∷ children))) (loads_of_children n (loads_under n) path id i low (child ∷ children) edits parts)
children_beside nodes n ih path id i low child [] edits parts held =
    let site : Site n = record { path = path ++ (id, i) ∷ []; low = child.0; place = child.1; edits = edits } in
    subst (λ places. Beside nodes places (loads_under n site low parts)) (sym (append-nil (leaves_under nodes n site.path low child.1.0))) (ih site low parts held.0)
children_beside nodes n ih path id i low child (next ∷ children) edits parts held =
    let site : Site n = record { path = path ++ (id, i) ∷ []; low = child.0; place = child.1; edits = filter (goes_left next.0) edits } in
    beside_join nodes (leaves_under nodes n site.path low child.1.0) _ (loads_under n site low (filter (λ p. ltb p.key next.0) parts)) _
    (ih site low (filter (λ p. ltb p.key next.0) parts) held.0)
    (children_beside nodes n ih path id (suc i) next.0 next children (filter (goes_right next.0) edits) (filter (λ p. leb next.0 p.key) parts) held.1)

nodes_beside : (nodes : NodeId → Option Node) (n : ℕ) → NodesBeside nodes n
nodes_beside nodes zero site low parts held = record { lows = refl; held = (held.0, tt) }
nodes_beside nodes (suc n) site low parts held =
    let here = held_node nodes n site.place held in
    subst (λ places. Beside nodes places (loads_under (suc n) site low parts)) (sym (leaves_node nodes n site.path low site.place here.0))
    (some (nodes_beside nodes n) site.place.1 site.edits here.1)
  where
    some : NodesBeside nodes n → (children : List (ℕ × Placed n)) (edits : List Call) → AllByRecursion (λ c. Holds nodes (cells_of n c.1)) children
        → Beside nodes (leaves_of_children (leaves_under nodes n) site.path site.place.0 0 (low ∷ separators_of children) (ids_of_children children)) (loads_of_children n (loads_under n) site.path site.place.0 0 low children edits parts)
    some ih [] edits held = record { lows = refl; held = tt }
    some ih (child ∷ children) edits held = children_beside nodes n ih site.path site.place.0 0 low child children edits parts held

-- ---- the answers of a load's group

abbrev group_answers : (NodeId → Option Node) → Group → List PartAnswer
group_answers nodes group = answers_in (rows_at nodes group.leaf) group.parts

load_group_answers : (nodes : NodeId → Option Node) (load : LeafLoad) → nodes load.site.place.0 ≡ Some (Leaf load.site.place.1) → flat_map (group_answers nodes) (load_group load) ≡ load_answers load
load_group_answers nodes load held = by load.parts
  where
    by : (parts : List Part) → flat_map (group_answers nodes) (load_group (record { site = load.site; low = load.low; parts = parts })) ≡ answers_in load.site.place.1 parts
    by [] = refl
    by (part ∷ parts) = append-nil _ ∙ ap (λ (at : Option Node). answers_in (rows_in_node at) (part ∷ parts)) held

loads_answer : (nodes : NodeId → Option Node) (loads : List LeafLoad) → AllByRecursion (λ load. nodes load.site.place.0 ≡ Some (Leaf load.site.place.1)) loads
    → flat_map (λ load. flat_map (group_answers nodes) (load_group load)) loads ≡ flat_map load_answers loads
loads_answer nodes [] held = refl
loads_answer nodes (load ∷ loads) held =
    ap (λ list. list ++ flat_map (λ load. flat_map (group_answers nodes) (load_group load)) loads) (load_group_answers nodes load held.0)
    ∙ ap (λ list. load_answers load ++ list) (loads_answer nodes loads held.1)

-- ---- the leaves of a tree

root_answers : (n high : ℕ) (placed : Placed n) (parts : List Part) → AllByRecursion HasKey parts → Root n high (value_in n placed.1)
    → let loads = loads_under n (record { path = []; low = 0; place = placed; edits = [] }) 0 parts in
    flat_map load_answers loads ≡ spread_answers (drop 1 (loads_lows loads)) (rows_in n (value_in n placed.1)) parts
root_answers zero high placed parts keys root = append-nil (answers_in placed.1 parts) ∙ sym (whole_range placed.1 parts)
root_answers (suc n) high placed parts keys root = some placed.1 root.0.0 root.2
  where
    some : (children : List (ℕ × Placed n)) → 2 ≤ length (values n children) → InOrder n 0 high (values n children)
        → let loads = loads_of_children n (loads_under n) [] placed.0 0 0 children [] parts in
        flat_map load_answers loads ≡ spread_answers (drop 1 (loads_lows loads)) (rows_in (suc n) (value_in (suc n) children)) parts
    some [] many order = absurd (omega arith)
    some (child ∷ children) many order =
        let all = children_answer n (nodes_answer n) [] placed.0 0 0 high child children [] parts keys order in
        all.answers ∙ ap (λ lows. spread_answers (drop 1 lows) (rows_under n (values n (child ∷ children))) parts) (sym all.lows-are)

pub the_leaves_answer : TheLeavesAnswer
the_leaves_answer nodes shape (n, value) parts read lawful keys =
    let at = placed_at nodes n shape.root value read.1 in
    let placed : Placed n = (shape.root, at.body) in
    let p : Pass = record { tree = (n, placed); edits = []; routed = []; rest = [] } in
    let root : Root n lawful.0 (value_in n at.body) = subst (Root n lawful.0) (sym at.value-is) lawful.1 in
    let loads = loads_under n (record { path = []; low = 0; place = placed; edits = [] }) 0 parts in
    let places = leaves_under nodes n [] 0 shape.root in
    let beside : Beside nodes places loads = nodes_beside nodes n (record { path = []; low = 0; place = placed; edits = [] }) 0 parts at.held in
    let leaves : leaves_at nodes shape ≡ places = ap (λ k. leaves_under nodes k [] 0 shape.root) (omega (arith, read.0)) in
    ap (λ ps. flat_map (group_answers nodes) (groups_of ps parts)) leaves
    ∙ ap (flat_map (group_answers nodes)) (root_matches p nodes lawful.0 parts at.held root)
    ∙ flat_flat load_group (group_answers nodes) loads
    ∙ loads_answer nodes loads beside.held
    ∙ root_answers n lawful.0 placed parts keys root
    ∙ ap (λ lows. spread_answers (drop 1 lows) (rows_in n (value_in n at.body)) parts) (sym beside.lows)
    ∙ ap (λ ps. spread_answers (drop 1 (lows_of ps)) (rows_in n (value_in n at.body)) parts) (sym leaves)
    ∙ ap (λ (v : Subtree n). spread_answers (drop 1 (lows_of (leaves_at nodes shape))) (rows_in n v) parts) at.value-is

pub the_leaves_answer_rates : TheLeavesAnswerRates
the_leaves_answer_rates nodes shape tree parts read lawful keys rates =
    let lows = drop 1 (lows_of (leaves_at nodes shape)) in
    the_leaves_answer nodes shape tree parts read lawful keys ∙ ap (spread (λ a. a.part.key) lows) (rates_in_range lows (rows_of tree) parts rates)
