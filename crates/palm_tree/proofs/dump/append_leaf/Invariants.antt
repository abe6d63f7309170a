use Rattle.std.proofs.Common.{◌≡◌, ◌++◌, length, take}
use Rattle.std.specs.Prelude.{codes}
use Rattle.std.specs.List.{flat_map}
use Rattle.std.specs.Fmt.{decimal}
use Rattle.palm_base.specs.Text.{listed_row_text}
use Rattle.palm_tree.proofs.dump.append_leaf.Given as goal

-- the count and the rows so far stand after the word
abbrev pub invariant-loop-i : goal.invariant-loop-i
invariant-loop-i l = l.out.items ≡ (l.fn.out.items ++ codes "leaf ") ++ (decimal (length l.leaf) ++ flat_map listed_row_text (take l.i l.leaf))
