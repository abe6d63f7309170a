use Rattle.std.proofs.Common.{refl, [], ◌∷◌, List, subst}
use Rattle.palm_base.specs.declared.row.Row.{Row}
use Rattle.palm_node.specs.declared.node.Node.TheVariants.{Leaf}
use Rattle.palm_arena.specs.Cells.{Turns}
use Rattle.palm_arena.specs.Reads.{map_of}
use Rattle.palm_arena.proofs.TakenLevels.{taken_turns, taken_home}
use Rattle.palm_root.proofs.root.take_leaf.Goals as goal

pub returns-clause-taken : goal.returns-clause-taken
returns-clause-taken g c = (
  refl,
  subst (λ (rows : List Row). Turns (map_of c.args.arena.now.places) (map_of c.take.new.self.places) [] ((c.in_ok-root.root, Leaf rows) ∷ [])) c.from_rows.ensures
      (taken_turns c.args.arena.now c.take.new.self c.in_ok-root.root (Leaf c.from_rows.result) c.in_ok-root.ensures.ok c.in_ok-root.ensures.vacant),
)

pub returns-clause-none_lent : goal.returns-clause-none_lent
returns-clause-none_lent g c = taken_home c.args.arena.now c.take.new.self c.in_ok-root.root (Leaf c.from_rows.result) c.in_ok-root.ensures.ok c.requires.none_lent
