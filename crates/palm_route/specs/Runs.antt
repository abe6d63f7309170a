-- Groups that grow part by part, where the parts come in the order of their leaves.
use Rattle.std.specs.Prelude.{◌==◌, if◌then◌else◌, List, [], ◌∷◌, ◌++◌}
use Rattle.std.specs.List.{fold}
use Rattle.palm_route.specs.declared.part.Routed.{Routed}
use Rattle.palm_route.specs.declared.part.Group.{Group}

-- The group of one part. So the part by 25 at the leaf with the low 20 makes a group with the low 20, of this part alone.
abbrev pub group_with : Routed → Group
group_with routed = record { leaf = routed.leaf; path = routed.path; low = routed.low; parts = routed.part ∷ [] }

-- A group with one more part. So one of the parts by 10 and 15 has with the part by 12 those by 10, 15 and 12.
abbrev pub grown : Group → Routed → Group
grown group routed = record group { parts = group.parts ++ routed.part ∷ [] }

-- The groups with one more part: in the last group where that begins at the part's low, and else in a group of its own.
-- So after a group at 0 a part at 0 makes that greater, and a part at 20 is a second group.
abbrev pub with_routed : List Group → Routed → List Group
with_routed [] routed = group_with routed ∷ []
with_routed (group ∷ []) routed = if group.low == routed.low then grown group routed ∷ [] else group ∷ group_with routed ∷ []
with_routed (group ∷ next ∷ groups) routed = group ∷ with_routed (next ∷ groups) routed

-- The groups that parts make one after another. So parts at 0, 0 and 20 make a group of two and one of one.
abbrev pub runs_of : List Routed → List Group
runs_of parts = fold with_routed [] parts
