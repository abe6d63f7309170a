use Rattle.std.proofs.Common.{◌≡◌, ◌≤◌, ◌-◌, List, ◌++◌, length, map, vec_len, vec_capacity}
use Rattle.std.specs.List.{AllByRecursion}
use Rattle.palm_share.specs.Jobs.{Holds}
use Rattle.palm_route.specs.declared.descent.DescentWork.{DescentWork}
use Rattle.palm_route.specs.declared.part.Part.{Part}
use Rattle.palm_route.specs.Shares.{HasRoom, AreCut, share_of}
use Rattle.palm_route.proofs.descent.cut.Given as goal

-- as many shares of the rest as are wanted yet complete the shares of all parts, each share so far is there to be routed, and
-- after the last share no part is left
abbrev pub invariant-loop-rest : goal.invariant-loop-rest
invariant-loop-rest l = record {
  more : (later : List (List Part)) → length later ≡ l.shares - vec_len l.works → AreCut l.rest later → AreCut l.fn.parts (map share_of l.works.items ++ later);
  begin : AllByRecursion (Holds (λ (work : DescentWork). (work.arena.now ≡ l.arena) × (work.shape ≡ l.shape) × HasRoom work)) l.works.items;
  count : vec_len l.works ≤ l.shares;
  last : vec_len l.works ≡ l.shares → length l.rest ≡ 0;
  room : l.shares ≤ vec_capacity l.works;
}

abbrev pub decreases-loop-rest : goal.decreases-loop-rest
decreases-loop-rest l = l.shares - vec_len l.works
