use Rattle.std.proofs.Common.{◌≡◌, ◌++◌, take}
use Rattle.palm_base.specs.Text.{digits_text}
use Rattle.palm_base.proofs.text.append_digits.Given as goal

-- the digits so far stand after what was there
abbrev pub invariant-loop-place : goal.invariant-loop-place
invariant-loop-place l = l.out.items ≡ l.fn.out.items ++ digits_text (take l.place l.digits)
