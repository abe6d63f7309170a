-- The leaves of a pass with the parts that go to each.
use Rattle.std.specs.Prelude.{◌≡◌, ℕ, List, map}
use Rattle.std.specs.List.{flat_map, AllByRecursion}
use Rattle.std.proofs.Common.{zero}
use Rattle.palm_arena.specs.Sites.{Site}
use Rattle.palm_arena.specs.Passes.{Pass, root_site, leaf_sites}
use Rattle.palm_route.specs.Edits.{edits_of}
use Rattle.palm_route.specs.Groups.{group_at}
use Rattle.palm_route.specs.declared.part.Part.{Part}
use Rattle.palm_route.specs.declared.part.Group.{Group}
use Rattle.palm_leaf.specs.Routed.{HasKey, written_low}

-- A leaf of a pass: its site, the key at which its range begins, and the parts that go to it, in order.
-- So the second leaf, from 20 on, has the part Set 30 5, whose edit is at its site.
pub record LeafLoad : Type 0 where
  pub site : Site zero
  pub low : ℕ
  pub parts : List Part

-- The site's edits are those of the parts, which go by the keys of prefixes, and its low is the one that its parent has
-- written.
-- So one of Set 44 90 at the child 1 of 0, from 20 on, has a site with this edit and the low 20. At the child 0 its low is 0.
pub record IsLoad (load : LeafLoad) : Type 0 where
  pub edits-are : load.site.edits ≡ edits_of load.parts
  pub low-is : load.site.low ≡ written_low load.site.path load.low
  pub keys : AllByRecursion HasKey load.parts

-- The group of a leaf's parts, where there are some.
-- So of the leaf at 2, from 20 on, with one part it is the group of 2 and 20 with this part, and with no part there is none.
abbrev pub load_group : LeafLoad → List Group
load_group load = group_at (record { leaf = load.site.place.0; path = load.site.path; low = load.low }) load.parts

-- The leaves of a pass, from left to right, with the parts of these groups.
-- So where of the leaves 1 and 2 the second alone has parts, there are two loads, and the groups are that of 2.
pub record Loads (p : Pass) (groups : List Group) : Type 0 where
  pub loads : List LeafLoad
  pub sites-are : map (λ load. load.site) loads ≡ leaf_sites p.tree.0 (root_site p)
  pub groups-are : groups ≡ flat_map load_group loads
  pub each : AllByRecursion IsLoad loads
