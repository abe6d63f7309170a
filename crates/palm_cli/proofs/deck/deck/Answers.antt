use Rattle.std.proofs.Common.{Err, ap}
use Rattle.palm_tree.specs.TreeValue.{tree_in}
use Rattle.palm_cli.proofs.DeckEnds.{no_deck_ends, deck_ends, deck_stops}
use Rattle.palm_base.proofs.EmptyTree.{empty_is_lawful}
use Rattle.palm_cli.proofs.deck.deck.Goals as goal

pub returns-in-Err-clause-end : goal.returns-in-Err-clause-end
returns-in-Err-clause-end g c =
    no_deck_ends c.args.settings.now _ _ _ _ _ _ _ c.in-Err.status (tree_in c.args.engine.now.tree) c.in-Err.ensures.err

pub returns-in-Err-clause-lawful : goal.returns-in-Err-clause-lawful
returns-in-Err-clause-lawful g c = empty_is_lawful (tree_in c.args.engine.now.tree) c.requires.new

pub returns-in-Ok-run_deck-clause-end : goal.returns-in-Ok-run_deck-clause-end
returns-in-Ok-run_deck-clause-end g c =
    let read = rw (← c.as_slice.ensures) at c.in-Ok.ensures.ok in
    let ran = c.in-Ok-run_deck.ensures in
    deck_ends c.args.settings.now _ c.as_slice.result.now (tree_in c.run_deck.new.engine.tree) read ran.text ran.tree ran.kept ran.ticks

pub returns-clause-end : goal.returns-clause-end
returns-clause-end g c =
    let read = rw (← c.as_slice.ensures) at c.in-Ok.ensures.ok in
    let ran = c.in-Err-run_deck.ensures in
    rw c.from.ensures (
    deck_stops c.args.settings.now c.in-Err-run_deck.stop _ c.as_slice.result.now (tree_in c.run_deck.new.engine.tree) read ran.front (λ is. ran.cause (ap Err is)) (λ is. ran.unfailed (ap Err is))
    )
