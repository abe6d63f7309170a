-- Lows that can be printed as prefixes.
use Rattle.std.specs.Prelude.{ℕ, List, drop}
use Rattle.std.specs.List.{AllByRecursion}
use Rattle.std.proofs.Common.{zero, suc}
use Rattle.palm_base.specs.Prefix.{IsPrefix}
use Rattle.palm_base.specs.Key.{IsKey}
use Rattle.palm_base.specs.Tree.{Subtree, Tree}
use Rattle.palm_base.specs.declared.row.Row.{Row}
use Rattle.palm_base.specs.declared.call.Call.{Call}
use Rattle.palm_base.specs.declared.call.Call.TheVariants.{Set, Del, Get, Rate, List as Listing}

-- Each row goes by a prefix. So a row of 4, 4 does, and one of 4, 10 doesn't.
abbrev pub PrefixesHold : List Row → Type 0
PrefixesHold = AllByRecursion (λ row. IsPrefix row.prefix)

-- A Set is of a prefix. So Set 44 5 is, and of other calls nothing is asked.
abbrev pub SetsPrefix : Call → Type 0
SetsPrefix (Set prefix rate) = IsPrefix prefix
SetsPrefix (Del prefix) = Unit {0}
SetsPrefix (Get prefix) = Unit {0}
SetsPrefix (Rate number) = Unit {0}
SetsPrefix (Listing from to limit) = Unit {0}

-- Each low is the key of a prefix. So the key of 2 is one, and 0 isn't.
abbrev pub EachLowIsKey : {X : Type 0} → List (ℕ × X) → Type 0
EachLowIsKey = AllByRecursion (λ child. IsKey child.0)

-- In a node and all that is under it each low but a node's first, which is written 0, is the key of a prefix, and each
-- row goes by a prefix. So the lows of the node over (0, the rows of 1, 10) and (the key of 2, the row of 2) are keys.
abbrev pub LowsAreKeysIn : (n : ℕ) → Subtree n → Type 0
LowsAreKeysIn zero rows = PrefixesHold rows
LowsAreKeysIn (suc n) children = EachLowIsKey (drop 1 children) × AllByRecursion (λ child. LowsAreKeysIn n child.1) children

-- The same of a tree. So it holds of the empty tree.
abbrev pub LowsAreKeys : Tree → Type 0
LowsAreKeys tree = LowsAreKeysIn tree.0 tree.1
