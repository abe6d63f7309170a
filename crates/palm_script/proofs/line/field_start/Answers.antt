use Rattle.std.proofs.Common.{◌∙◌, ap, length, not}
use Rattle.std.specs.Option.{unwrap_or}
use Rattle.palm_script.specs.Line.{is_blank}
use Rattle.palm_script.proofs.Fields.{place_or_length}
use Rattle.palm_script.proofs.line.field_start.Goals as goal

pub returns-clause-place : goal.returns-clause-place
returns-clause-place c = c.unwrap_or.ensures ∙ ap (λ o. unwrap_or o (length c.args.text.now)) c.first_other.ensures ∙ place_or_length (λ b. not (is_blank b)) c.args.text.now
