-- The calls of a batch whose replies aren't known yet.
use Rattle.std.specs.Prelude.{List, [], ◌∷◌, Option, None, Some}
use Rattle.palm_base.specs.declared.call.Entry.{Entry}
use Rattle.palm_base.specs.declared.call.Reply.{Reply}

-- The entries of a batch of whose replies nothing is known, by what is known of each, in order.
-- So of Get 44, Set 45 9, where Value 5 is known of the Get, it is the Set.
abbrev pub open_entries : List (Option Reply) → List Entry → List Entry
open_entries [] batch = []
open_entries (known ∷ all) [] = []
open_entries (None ∷ all) (entry ∷ batch) = entry ∷ open_entries all batch
open_entries (Some known ∷ all) (entry ∷ batch) = open_entries all batch

-- Replies where they are known, and where nothing is known the others in their order.
-- So Value 5 where it is known, and nothing behind it, are filled by New to Value 5, New.
abbrev pub filled : List (Option Reply) → List Reply → List Reply
filled [] replies = []
filled (Some known ∷ all) replies = known ∷ filled all replies
filled (None ∷ all) [] = filled all []
filled (None ∷ all) (reply ∷ replies) = reply ∷ filled all replies
