-- Parts at the leaves that they are routed to, and put together by leaf.
use Rattle.std.specs.Prelude.{◌≡◌, ◌<◌, nat_lt, nat_le, List, [], ◌∷◌, ◌++◌, filter, Some}
use Rattle.std.specs.List.{AllByRecursion}
use Rattle.palm_arena.specs.Leaves.{LeafPlace, leaf_for}
use Rattle.palm_route.specs.declared.part.Part.{Part}
use Rattle.palm_route.specs.declared.part.Routed.{Routed}
use Rattle.palm_route.specs.declared.part.Group.{Group}

-- The place of the leaf that a part is routed to.
-- So at the leaf 2, reached as the child 1 of 0, with the low 20, it is (2, the child 1 of 0, 20).
abbrev pub place_of : Routed → LeafPlace
place_of routed = record { leaf = routed.leaf; path = routed.path; low = routed.low }

-- The part is routed to the leaf whose range has its key. So with the lows 0 and 20 the part by 20 is at the second leaf.
abbrev pub IsRoutedTo : List LeafPlace → Routed → Type 0
IsRoutedTo places routed = leaf_for routed.part.key places ≡ Some (place_of routed)

-- Each leaf's range begins before those of all later leaves. So the lows 0, 20 and 30 rise.
abbrev pub LowsRise : List LeafPlace → Type 0
LowsRise [] = Unit {0}
LowsRise (place ∷ places) = AllByRecursion (λ later. place.low < later.low) places × LowsRise places

-- The group of a leaf with these parts, and none where there is no part.
-- So the parts by 10 and 15 at the leaf with the low 0 make one group with the low 0, of both.
abbrev pub group_at : LeafPlace → List Part → List Group
group_at place [] = []
group_at place (part ∷ parts) = record { leaf = place.leaf; path = place.path; low = place.low; parts = part ∷ parts } ∷ []

-- The groups of parts on these leaves, in the order of the leaves: each part goes to the last leaf whose low is at most its
-- key, where the low of the first isn't asked.
-- So the parts by 25, 10 and 20 make on the leaves with the lows 0, 20 and 30 a group of 10 and a group of 25, 20.
abbrev pub groups_of : List LeafPlace → List Part → List Group
groups_of [] parts = []
groups_of (place ∷ []) parts = group_at place parts
groups_of (place ∷ next ∷ places) parts =
    group_at place (filter (λ part. nat_lt part.key next.low) parts) ++ groups_of (next ∷ places) (filter (λ part. nat_le next.low part.key) parts)
