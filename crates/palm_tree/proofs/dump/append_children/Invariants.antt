use Rattle.std.proofs.Common.{◌≡◌, ◌++◌, take}
use Rattle.palm_tree.proofs.dump.append_children.Given as goal

-- the children so far are listed
abbrev pub invariant-loop-i : goal.invariant-loop-i
invariant-loop-i l = l.ids.items ≡ l.fn.ids.items ++ take l.i l.inner.children
