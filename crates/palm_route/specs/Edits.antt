-- The edits among parts.
use Rattle.std.specs.Prelude.{ℕ, List, [], ◌∷◌}
use Rattle.palm_base.specs.Prefix.{IsPrefix}
use Rattle.palm_base.specs.Key.{digits_of}
use Rattle.palm_base.specs.declared.call.Call.{Call}
use Rattle.palm_base.specs.declared.call.Call.TheVariants as call
use Rattle.palm_route.specs.declared.part.Ask.{Ask}
use Rattle.palm_route.specs.declared.part.Ask.TheVariants as ask
use Rattle.palm_route.specs.declared.part.Part.{Part}

-- What a part that asks this by this key puts before other edits: a Set or a Del of the key's prefix, and else nothing.
-- So by the key of 44 a Set to 5 puts Set 44 5 there, and a look puts nothing.
abbrev pub edit_before : ℕ → Ask → List Call → List Call
edit_before key (ask.Set rate) edits = call.Set (digits_of key) rate ∷ edits
edit_before key ask.Del edits = call.Del (digits_of key) ∷ edits
edit_before key ask.Look edits = edits
edit_before key (ask.List from to limit) edits = edits

-- The Sets and Dels that parts ask, in their order. So of the parts of Set 44 5, Get 44 and Del 4 they are Set 44 5 and Del 4.
abbrev pub edits_of : List Part → List Call
edits_of [] = []
edits_of (part ∷ parts) = edit_before part.key part.ask (edits_of parts)

-- A Set or a Del is of a prefix. So Set 44 5 is, and of other calls nothing is asked.
abbrev pub EditsPrefix : Call → Type 0
EditsPrefix (call.Set prefix rate) = IsPrefix prefix
EditsPrefix (call.Del prefix) = IsPrefix prefix
EditsPrefix (call.Get prefix) = Unit {0}
EditsPrefix (call.Rate number) = Unit {0}
EditsPrefix (call.List from to limit) = Unit {0}
