use Rattle.std.proofs.Common.{sym, ap, ◌∙◌}
use Rattle.palm_cli.specs.Statuses.{status_text}
use Rattle.palm_cli.proofs.Statuses.{done_ended, line_ended, read_ended, write_ended, long_ended, row_ended, stop_ended, usage_ended, refused_ended, written_ended, unfailed_ended, is_of_code, complete_ended}
use Rattle.palm_cli.proofs.palm.palm.Goals as goal

pub returns-clause-good : goal.returns-clause-good
returns-clause-good g c = λ is. (done_ended _ _ _ _ c.run_and_tell-status.ensures.end (sym c.code.ensures ∙ is)).0

pub returns-clause-whole : goal.returns-clause-whole
returns-clause-whole g c = λ is. (done_ended _ _ _ _ c.run_and_tell-status.ensures.end (sym c.code.ensures ∙ is)).1

pub returns-clause-ticks : goal.returns-clause-ticks
returns-clause-ticks g c = λ is. (done_ended _ _ _ _ c.run_and_tell-status.ensures.end (sym c.code.ensures ∙ is)).2

pub returns-clause-usage : goal.returns-clause-usage
returns-clause-usage g c = λ is. usage_ended _ _ _ _ c.run_and_tell-status.ensures.end (sym c.code.ensures ∙ is)

pub returns-clause-refused : goal.returns-clause-refused
returns-clause-refused g c = rw c.code.ensures (refused_ended _ _ _ _ c.run_and_tell-status.ensures.end)

pub returns-clause-bad_line : goal.returns-clause-bad_line
returns-clause-bad_line g c = λ is.
    let end = line_ended _ _ _ _ c.run_and_tell-status.ensures.end (sym c.code.ensures ∙ is) in
    (end.0, end.2, rw (← ap status_text end.1) c.run_and_tell-status.ensures.told)

pub returns-clause-read : goal.returns-clause-read
returns-clause-read g c = λ is. (read_ended _ _ _ _ c.run_and_tell-status.ensures.end (sym c.code.ensures ∙ is)).0

pub returns-clause-cut_short : goal.returns-clause-cut_short
returns-clause-cut_short g c = λ is. (read_ended _ _ _ _ c.run_and_tell-status.ensures.end (sym c.code.ensures ∙ is)).1

pub returns-clause-write : goal.returns-clause-write
returns-clause-write g c = λ is. (write_ended _ _ _ _ c.run_and_tell-status.ensures.end (sym c.code.ensures ∙ is)).0

pub returns-clause-unwritten : goal.returns-clause-unwritten
returns-clause-unwritten g c = λ is. (write_ended _ _ _ _ c.run_and_tell-status.ensures.end (sym c.code.ensures ∙ is)).1

pub returns-clause-stopped : goal.returns-clause-stopped
returns-clause-stopped g c = λ is. stop_ended _ _ _ _ c.run_and_tell-status.ensures.end (sym c.code.ensures ∙ is)

pub returns-clause-past : goal.returns-clause-past
returns-clause-past g c = λ is. (long_ended _ _ _ _ c.run_and_tell-status.ensures.end (sym c.code.ensures ∙ is)).0

pub returns-clause-long : goal.returns-clause-long
returns-clause-long g c = λ is. (long_ended _ _ _ _ c.run_and_tell-status.ensures.end (sym c.code.ensures ∙ is)).1

pub returns-clause-bad_row : goal.returns-clause-bad_row
returns-clause-bad_row g c = λ is.
    let end = row_ended _ _ _ _ c.run_and_tell-status.ensures.end (sym c.code.ensures ∙ is) in
    (end.0, end.1, end.3, rw (← ap status_text end.2) c.run_and_tell-status.ensures.told)

pub returns-clause-untouched : goal.returns-clause-untouched
returns-clause-untouched g c = λ is. c.run_and_tell-status.ensures.untouched (rw (← c.code.ensures) is)

pub returns-clause-quiet : goal.returns-clause-quiet
returns-clause-quiet g c = λ is. c.run_and_tell-status.ensures.quiet (is_of_code 0 _ (sym c.code.ensures ∙ is))

pub returns-clause-kept : goal.returns-clause-kept
returns-clause-kept g c = λ other.
    written_ended _ _ _ _ c.run_and_tell-status.ensures.end (λ none. ap g.O.Sink.faults (c.run_and_tell-status.ensures.nothing none).1) (λ is. other (c.code.ensures ∙ is))

pub returns-clause-unfailed : goal.returns-clause-unfailed
returns-clause-unfailed g c = λ is.
    unfailed_ended _ _ _ _ c.run_and_tell-status.ensures.end (λ none. ap g.S.Source.faults (c.run_and_tell-status.ensures.nothing none).0) (rw (← c.code.ensures) is)

pub returns-clause-complete : goal.returns-clause-complete
returns-clause-complete g c = complete_ended _ _ _ _ _ c.code.ensures c.run_and_tell-status.ensures.end
