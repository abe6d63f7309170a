use Rattle.std.proofs.Common.{map}
use Rattle.std.specs.Prelude.{string_bytes}
use Rattle.palm_tree.specs.TreeValue.{tree_in}
use Rattle.palm_words.specs.Settings.{settings_of}
use Rattle.palm_cli.proofs.Statuses.{told_ends}
use Rattle.palm_cli.proofs.palm.run_and_tell.Goals as goal

pub returns-clause-end : goal.returns-clause-end
returns-clause-end g c =
    let found = settings_of (map string_bytes c.args.words.now.items) in
    let after = tree_in c.run_words-status.new.engine.tree in
    told_ends found c.run_words-status.result c.tell.result _ after c.tell.ensures.same c.run_words-status.ensures.end
