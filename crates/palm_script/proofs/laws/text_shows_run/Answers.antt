use Rattle.palm_script.proofs.StormyRuns.{text_shows_run}
use Rattle.palm_script.proofs.laws.text_shows_run.Goals as goal

pub returns : goal.returns
returns c = text_shows_run
