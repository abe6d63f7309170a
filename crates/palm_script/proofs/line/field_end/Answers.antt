use Rattle.std.proofs.Common.{◌∙◌, ap, length}
use Rattle.std.specs.Option.{unwrap_or}
use Rattle.palm_script.specs.Line.{is_blank}
use Rattle.palm_script.proofs.Fields.{place_or_length}
use Rattle.palm_script.proofs.line.field_end.Goals as goal

pub returns-clause-place : goal.returns-clause-place
returns-clause-place c = c.unwrap_or.ensures ∙ ap (λ o. unwrap_or o (length c.args.text.now)) c.first_blank.ensures ∙ place_or_length is_blank c.args.text.now
