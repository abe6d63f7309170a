-- The empty tree is a lawful one.
use Rattle.std.proofs.Common.{◌≡◌, zero, [], sym, subst, arith}
use Rattle.palm_base.specs.Tree.{Tree}
use Rattle.palm_base.specs.Lawful.{IsLawful}

-- A tree that is the empty leaf is lawful.
pub empty_is_lawful : (tree : Tree) → tree ≡ (zero, []) → IsLawful tree
empty_is_lawful tree is = subst IsLawful (sym is) (0, (omega arith, tt))
