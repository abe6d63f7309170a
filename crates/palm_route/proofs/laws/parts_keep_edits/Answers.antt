use Rattle.palm_route.proofs.PartEdits.{parts_keep_edits}
use Rattle.palm_route.proofs.laws.parts_keep_edits.Goals as goal

pub returns : goal.returns
returns c = parts_keep_edits
