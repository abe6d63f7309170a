-- Nodes by the range of keys that they stand for.
use Rattle.std.specs.Prelude.{◌≡◌, ℕ, ◌<◌, Option, Some}
use Rattle.std.proofs.Common.{zero, suc}
use Rattle.palm_base.specs.Tree.{Subtree}
use Rattle.palm_base.specs.declared.bounds.TheConstants.{MOST_CHILDREN}
use Rattle.palm_base.specs.Lawful.{HasFromTo, InOrder}
use Rattle.palm_node.specs.declared.id.NodeId.{NodeId}
use Rattle.palm_node.specs.declared.node.Node.{Node}
use Rattle.palm_arena.specs.Reads.{reads}

-- A node's range is from `low` up to `high`: that of a leaf is any that isn't empty, and the children of an inner node are
-- some, no more than fit, and in order in it. So a node over two leaves has the range from 0 to 40 where its second child's low is 20 and the keys in
-- the first are below 20, and those in the second from 20 on and below 40.
abbrev pub IsRange : (n : ℕ) → ℕ → ℕ → Subtree n → Type 0
IsRange zero low high rows = low < high
IsRange (suc n) low high children = HasFromTo 1 MOST_CHILDREN children × InOrder n low high children

-- At an id a map reads as a node so many levels above the leaves, whose range begins at `low`.
-- So an id that reads as a leaf has one from 0 on, and from 20 on too, and an id that reads as no node has none.
pub record HasRange (map : NodeId → Option Node) (below low : ℕ) (id : NodeId) : Type 0 where
  pub node : Subtree below
  pub reads-as : reads map below id ≡ Some node
  pub high : ℕ
  pub range : IsRange below low high node
