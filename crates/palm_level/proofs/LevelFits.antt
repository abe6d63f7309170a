-- Where the changes of a level stand for a pass, the next level can be done, and stands for the pass when it is.
use Rattle.std.proofs.Common.{◌≡◌, ◌≤◌, ◌<◌, ◌-◌, ℕ, zero, suc, [], length, map, sym, ap, arith, subst, Option}
use Rattle.std.specs.Prelude.{sum_by}
use Rattle.std.specs.List.{AllByRecursion}
use Rattle.palm_node.specs.declared.id.NodeId.{NodeId}
use Rattle.palm_node.specs.declared.node.Node.{Node}
use Rattle.palm_node.specs.declared.change.Change.{Change}
use Rattle.palm_node.specs.declared.change.Changes.{Changes}
use Rattle.palm_arena.specs.Sites.{Site, raised, sites_at}
use Rattle.palm_arena.specs.Standing.{Stands}
use Rattle.palm_base.specs.Lawful.{IsLawful}
use Rattle.palm_arena.specs.Placed.{PlacedTree, value_of}
use Rattle.palm_arena.specs.Passes.{Pass, IsPass, StandsAt, IsWithin, is_among}
use Rattle.palm_level.specs.Runs.{runs}
use Rattle.palm_level.specs.Groups.{Touched, touched_of}
use Rattle.palm_level.specs.Plans.{Fits}
use Rattle.palm_level.specs.Tasks.{Distinct, HasWorked, spare_of}
use Rattle.palm_level.proofs.Split.{split}
use Rattle.palm_level.proofs.LevelFacts.{setting, runs_fit, paths_lead, ids_once}
use Rattle.palm_level.proofs.LevelEnds.{level_worked}
use Rattle.palm_level.proofs.Bounds.{level_few}

-- What the changes of a level tell where they stand for a pass.
pub record LevelFits (p : Pass) (level : ℕ) (nodes : NodeId → Option Node) (changes : Changes) : Type 0 where
  pub fits : AllByRecursion (Fits nodes) (runs changes.nodes)
  pub paths : AllByRecursion (λ (c : Change). 0 < length c.path) changes.nodes
  pub once : Distinct (map (λ (t : Touched). t.id) (map (touched_of nodes) (runs changes.nodes)))
  pub few : (n : ℕ) → IsWithin n changes → (length (runs changes.nodes) ≤ n) × (sum_by (spare_of nodes) (map (touched_of nodes) (runs changes.nodes)) ≤ n)
  pub stands : (new : NodeId → Option Node) (before after : Changes) → before ≡ record { nodes = []; loose = changes.loose; removed = changes.removed }
      → HasWorked nodes level (map (touched_of nodes) (runs changes.nodes)) new before after → StandsAt p level new after

by_depth : (p : Pass) (level : ℕ) (nodes : NodeId → Option Node) (changes : Changes) (d l : ℕ) (root : Site (raised l d)) → IsPass p → level ≡ suc (suc l) → level ≤ p.tree.0 → ◌≡◌ {A = PlacedTree} (raised l d, root.place) p.tree
    → root.path ≡ [] → root.low ≡ 0 → root.edits ≡ p.edits → Stands d l root (is_among p.routed) p.rest nodes changes → LevelFits p level nodes changes
by_depth p level nodes changes zero l root is level_is most tree path low edits st =
    let n : l ≡ p.tree.0 = ap (λ (t : PlacedTree). t.0) tree in
    absurd (omega (arith, n, level_is, most))
by_depth p level nodes changes (suc zero) l root is level_is most tree path low edits st =
    let n : suc l ≡ p.tree.0 = ap (λ (t : PlacedTree). t.0) tree in
    absurd (omega (arith, n, level_is, most))
by_depth p level nodes changes (suc (suc d)) l root is level_is most tree path low edits st =
    let lawful = subst (λ (t : PlacedTree). IsLawful (value_of t)) (sym tree) is.lawful in
    let parts = split l (sites_at (suc d) (suc l) root) st.results st.sites in
    let here = setting d l lawful.0 root (is_among p.routed) p.rest nodes changes st lawful.1 parts in
    record {
      fits = runs_fit l (is_among p.routed) nodes changes parts.families here;
      paths = paths_lead l (is_among p.routed) nodes changes parts.families here;
      once = ids_once l (is_among p.routed) nodes changes parts.families here;
      few = λ n within. level_few l (is_among p.routed) nodes changes parts.families n here within;
      stands = λ new before after start worked.
          let stands = level_worked d l root (is_among p.routed) p.rest nodes new changes before after st parts.families parts.parents parts.children here start
          (subst (λ k. HasWorked nodes k (map (touched_of nodes) (runs changes.nodes)) new before after) level_is worked) in
          record { is-pass = is; d = suc d; l = suc l; root = root; level-is = level_is; tree-is = tree; path-is = path; low-is = low; edits-are = edits; stands = stands };
    }

pub level_fits : (p : Pass) (level levels : ℕ) (nodes : NodeId → Option Node) (changes : Changes) → 2 ≤ level → level < levels → levels ≡ suc p.tree.0 → StandsAt p (level - 1) nodes changes → LevelFits p level nodes changes
level_fits p level levels nodes changes least most is s =
    let at = s.level-is in
    by_depth p level nodes changes s.d s.l s.root s.is-pass (omega (arith, at, least)) (omega (arith, most, is)) s.tree-is s.path-is s.low-is s.edits-are s.stands
