use Rattle.std.proofs.Common.{◌≡◌, ◌++◌, ◌+◌, ◌-◌, ◌∷◌, List, ℕ}
use Rattle.palm_node.specs.declared.id.NodeId.{NodeId}
use Rattle.palm_arena.specs.Leaves.{leaves_under}
use Rattle.palm_arena.specs.Reads.{map_of}
use Rattle.palm_route.proofs.LaterLows.{later_lows, later_from}
use Rattle.palm_route.proofs.expansion.+append_lows.Given as goal

abbrev pub decreases-append_lows : goal.decreases-append_lows
decreases-append_lows l = l.below

-- the lows below the children before this one are listed
abbrev pub invariant-loop-i : goal.invariant-loop-i
invariant-loop-i l =
    (path : List (NodeId × ℕ))
    → l.keys.items ++ later_from (map_of l.arena.places) (l.below - 1) path l.fn.id l.span.from l.span.to l.i (l.low ∷ l.inner.separators) l.inner.children
    ≡ l.fn.keys.items ++ later_lows l.span.from l.span.to (leaves_under (map_of l.arena.places) l.below path l.low l.fn.id)

abbrev pub decreases-loop-i : goal.decreases-loop-i
decreases-loop-i l = l.last + 1 - l.i
