use Rattle.std.proofs.Common.{◌≡◌, ℕ, ◌+◌, ◌-◌, ◌/◌, ◌≤◌, ◌++◌, length}
use Rattle.std.specs.List.{AllByRecursion, flat_map}
use Rattle.std.specs.Vec.{vec_capacity}
use Rattle.palm_share.proofs.EvenShares.{AreLeft}
use Rattle.palm_share.proofs.shares.cut.Given as goal

-- the shares so far have as many items as they should, and what is left is enough for the others
abbrev pub invariant-loop-left : goal.invariant-loop-left
invariant-loop-left g l = record {
  some : 1 ≤ l.left;
  few : l.left ≤ l.count;
  count : length l.shares.items + l.left ≡ l.count;
  whole : flat_map (λ share. share.now) l.shares.items ++ l.rest ≡ l.items;
  least : AllByRecursion (λ share. length l.items / l.count ≤ length share.now) l.shares.items;
  most : AllByRecursion (λ share. length share.now ≤ length l.items / l.count + 1) l.shares.items;
  left : AreLeft (length l.items / l.count) l.left (length l.rest);
}

abbrev pub decreases-loop-left : goal.decreases-loop-left
decreases-loop-left g l = l.left
