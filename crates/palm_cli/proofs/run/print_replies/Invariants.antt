use Rattle.std.proofs.Common.{◌≡◌, ◌+◌, ◌++◌, drop}
use Rattle.palm_script.specs.Transcript.{reply_lines}
use Rattle.palm_cli.proofs.run.print_replies.Given as goal

-- the lines so far, with those of what is left, are all lines
abbrev pub invariant-loop-i : goal.invariant-loop-i
invariant-loop-i l =
    l.text.items ++ reply_lines (l.n + l.i) (drop l.i l.batch) (drop l.i l.replies) ≡ l.fn.text.items ++ reply_lines l.n l.batch l.replies
