-- Shares of parts, each of which one worker routes.
use Rattle.std.specs.Prelude.{◌≡◌, ℕ, ◌+◌, ◌/◌, ◌%◌, min, ◌≤◌, List, [], ◌∷◌, ◌++◌, length, take, drop, Option, Some, None}
use Rattle.std.specs.Vec.{vec_capacity}
use Rattle.std.proofs.Common.{suc}
use Rattle.palm_arena.specs.Leaves.{LeafPlace}
use Rattle.palm_route.specs.Groups.{IsRoutedTo}
use Rattle.palm_route.specs.declared.descent.DescentWork.{DescentWork}
use Rattle.palm_route.specs.declared.part.Part.{Part}
use Rattle.palm_route.specs.declared.part.Routed.{Routed}

-- The parts of a share that is there.
-- So of a share of the parts by 10 and 20 they are these two, and without a share there are none.
abbrev pub share_of : Option DescentWork → List Part
share_of None = []
share_of (Some work) = work.parts.now

-- The routed parts of a share that is there.
-- So where the part by 10 is routed and that by 20 is not yet, it is the one by 10, and without a share there are none.
abbrev pub routed_of : Option DescentWork → List Routed
routed_of None = []
routed_of (Some work) = work.routed.items

-- One more part stands behind routed ones, at its leaf.
-- So with the lows 0 and 20 the part by 25 stands behind those before, at the second leaf.
abbrev pub RoutesOne : List LeafPlace → Part → List Routed → List Routed → Type 0
RoutesOne places part before after = (one : Routed) × (after ≡ before ++ one ∷ []) × (one.part ≡ part) × IsRoutedTo places one

-- No part is routed yet, and there is room for all.
-- So a share of 3 parts with a capacity of 3 has room, and with one of 2 it hasn't.
abbrev pub HasRoom : DescentWork → Type 0
HasRoom work = (work.routed.items ≡ []) × (length work.parts.now ≤ vec_capacity work.routed)

-- How many parts the first of so many shares has: as few as leave the others no more than it has itself.
-- So of seven parts in five shares it has 2, and so has the first of four shares of the five parts that are left.
abbrev pub share_size : ℕ → ℕ → ℕ
share_size count shares = count / shares + min 1 (count % shares)

-- The shares have these parts, in order, and no share has two parts more than another.
-- So seven parts in five shares are two, two, one, one and one, and no parts are no shares.
abbrev pub AreCut : List Part → List (List Part) → Type 0
AreCut parts [] = parts ≡ []
AreCut parts (share ∷ shares) =
    let size = share_size (length parts) (suc (length shares)) in
    (share ≡ take size parts) × AreCut (drop size parts) shares
