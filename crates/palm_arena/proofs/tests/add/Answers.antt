use Rattle.std.proofs.Common.{◌≡◌, ◌++◌, ◌∷◌, [], Result, Ok, Err, sym, subst}
use Rattle.std.specs.Prelude.{IfOk, OnErr}
use Rattle.palm_base.specs.declared.memory.NoMemory.{NoMemory}
use Rattle.palm_node.specs.declared.id.NodeId.{NodeId}
use Rattle.palm_node.specs.declared.node.Node.{Node}
use Rattle.palm_arena.specs.declared.place.Place.TheVariants.{Holds}
use Rattle.palm_arena.specs.ArenaState.{ArenaState, with_place, NoneLent}
use Rattle.palm_arena.proofs.Standing.{none_lent_after_put}
use Rattle.palm_arena.proofs.tests.add.Goals as goal

taken : (result : Result NodeId NoMemory) (old new : ArenaState) (node : Node)
    → IfOk result (λ id. new ≡ record old { places = with_place old.places id (Holds node); moved = old.moved ++ id ∷ [] }) → OnErr result (new ≡ old)
    → NoneLent old.places → NoneLent new.places
taken (Ok id) old new node is same home = subst (λ (w : ArenaState). NoneLent w.places) (sym is) (none_lent_after_put old.places id (Holds node) (λ e. cc) home)
taken (Err refused) old new node is same home = subst (λ (w : ArenaState). NoneLent w.places) (sym same) home

pub returns-clause-none_lent : goal.returns-clause-none_lent
returns-clause-none_lent g c = taken c.take.result c.args.arena.now c.take.new.self c.args.node c.take.ensures.ok c.take.ensures.err c.requires.none_lent
