use Rattle.std.proofs.Common.{◌≡◌, take}
use Rattle.palm_root.proofs.removal.children_of.Given as goal

-- the children before this one are listed
abbrev pub invariant-loop-i : goal.invariant-loop-i
invariant-loop-i l = l.children.items ≡ take l.i l.inner.children
