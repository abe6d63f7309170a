-- The marks of parts, when they are moved.
use Rattle.std.proofs.Common.{◌<◌, List, length}
use Rattle.std.specs.List.{AllByRecursion}
use Rattle.std.specs.List.Sorted.{IsPermutation}
use Rattle.palm_base.proofs.Every.{every_weaker}
use Rattle.palm_route.specs.declared.grouping.Mark.{Mark}
use Rattle.palm_route.specs.declared.part.Routed.{Routed}
use Rattle.palm_route.specs.Marks.{marks_from}
use Rattle.palm_route.proofs.SortedParts.{IsMark, marks_stay}

-- The marks of all parts stay within them when they are moved.
pub marks_within : (all : List Routed) (marks : List Mark) → IsPermutation (marks_from 0 all) marks → AllByRecursion (λ (mark : Mark). mark.place < length all) marks
marks_within all marks moved = every_weaker (IsMark all) (λ (mark : Mark). mark.place < length all) (λ mark is. is.0) marks (marks_stay all marks moved)
