use Rattle.std.proofs.Common.{◌≡◌, ◌++◌, length, take}
use Rattle.std.specs.Prelude.{codes}
use Rattle.std.specs.List.{flat_map}
use Rattle.std.specs.Fmt.{decimal}
use Rattle.palm_base.specs.Shape.{separator_text}
use Rattle.palm_tree.proofs.dump.append_inner.Given as goal

-- the count and the separators so far stand after the word
abbrev pub invariant-loop-i : goal.invariant-loop-i
invariant-loop-i l = l.out.items ≡ (l.fn.out.items ++ codes "inner ") ++ (decimal (length l.inner.children) ++ flat_map separator_text (take l.i l.inner.separators))
