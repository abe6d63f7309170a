use Rattle.std.proofs.Common.{◌≡◌, Result, Ok, Err, sym, subst}
use Rattle.std.specs.Prelude.{OnOk, OnErr}
use Rattle.palm_base.specs.declared.memory.NoMemory.{NoMemory}
use Rattle.palm_node.specs.declared.id.NodeId.{NodeId}
use Rattle.palm_arena.specs.declared.place.Place.TheVariants.{Empty}
use Rattle.palm_arena.specs.ArenaState.{ArenaState, with_place, NoneLent}
use Rattle.palm_arena.proofs.Standing.{none_lent_after_put}
use Rattle.palm_arena.proofs.tests.remove.Goals as goal

dropped : (result : Result (Unit {0}) NoMemory) (old new : ArenaState) (id : NodeId)
    → OnOk result (new ≡ record old { places = with_place old.places id Empty }) → OnErr result (new ≡ old)
    → NoneLent old.places → NoneLent new.places
dropped (Ok done) old new id is same home = subst (λ (w : ArenaState). NoneLent w.places) (sym is) (none_lent_after_put old.places id Empty (λ e. cc) home)
dropped (Err refused) old new id is same home = subst (λ (w : ArenaState). NoneLent w.places) (sym same) home

pub returns-clause-none_lent : goal.returns-clause-none_lent
returns-clause-none_lent c = dropped c.drop_node.result c.args.arena.now c.drop_node.new.self c.args.id c.drop_node.ensures.ok c.drop_node.ensures.err c.requires.none_lent
