-- Marks by which parts are sorted.
use Rattle.std.specs.Prelude.{ℕ, List, [], ◌∷◌, slice_index_or}
use Rattle.std.proofs.Common.{suc}
use Rattle.palm_route.specs.declared.grouping.Mark.{Mark}
use Rattle.palm_route.specs.declared.part.Ask.TheVariants as ask
use Rattle.palm_route.specs.declared.part.Routed.{Routed}

-- The marks of parts, the first of which has this place. So those of two parts at 20 and 0 are (20, 0) and (0, 1).
abbrev pub marks_from : ℕ → List Routed → List Mark
marks_from place [] = []
marks_from place (one ∷ routed) = record { low = one.low; place = place } ∷ marks_from (suc place) routed

-- Some part at a low, where none is marked. So at 20 it looks for the key 0 for the entry 0, at the leaf 0 with the low 20.
abbrev pub at_low : ℕ → Routed
at_low low = record { part = record { entry = 0; number = 0; key = 0; ask = ask.Look }; leaf = record { place = 0 }; path = []; low = low }

-- The part that is marked. So of the two parts above (0, 1) marks the second.
abbrev pub marked : List Routed → Mark → Routed
marked routed mark = slice_index_or routed mark.place (at_low mark.low)
