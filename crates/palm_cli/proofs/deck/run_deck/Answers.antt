use Rattle.std.proofs.Common.{subst}
use Rattle.std.specs.Io.KnownBytes.{Appends}
use Rattle.std.proofs.lemmas.Result.{on_ok_weaker, on_err_weaker}
use Rattle.palm_tree.specs.TreeValue.{tree_in}
use Rattle.palm_cli.specs.Decks.{deck_left}
use Rattle.palm_cli.specs.Streams.{AppendsFront}
use Rattle.palm_base.proofs.EmptyTree.{empty_is_lawful}
use Rattle.palm_cli.proofs.DeckEnds.{table_text}
use Rattle.palm_cli.proofs.Fronts.{on_err, front_none}
use Rattle.palm_cli.proofs.deck.run_deck.Goals as goal

pub run_edits-requires-clause-lawful : goal.run_edits-requires-clause-lawful
run_edits-requires-clause-lawful g c κs within = empty_is_lawful (tree_in c.args.engine.now.tree) c.requires.new

pub returns-in_err-run_edits-clause-front : goal.returns-in_err-run_edits-clause-front
returns-in_err-run_edits-clause-front g c = on_err c.from_residual.result (front_none (g.O.Sink.taken c.args.out.now) (deck_left c.args.edits.now))

pub returns-clause-text : goal.returns-clause-text
returns-clause-text g c =
    let said = table_text (tree_in c.args.engine.now.tree) _ c.args.edits.now c.in_ok-run_edits.ensures.rows c.requires.new in
    on_ok_weaker c.write_table.result (λ took. subst (Appends (g.O.Sink.taken c.args.out.now) (g.O.Sink.taken c.write_table.new.out)) said took) c.write_table.ensures.text

pub returns-clause-front : goal.returns-clause-front
returns-clause-front g c =
    let said = table_text (tree_in c.args.engine.now.tree) _ c.args.edits.now c.in_ok-run_edits.ensures.rows c.requires.new in
    on_err_weaker c.write_table.result (λ took. subst (AppendsFront (g.O.Sink.taken c.args.out.now) (g.O.Sink.taken c.write_table.new.out)) said took) c.write_table.ensures.front
