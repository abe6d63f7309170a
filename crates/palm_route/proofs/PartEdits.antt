-- The edits among the parts of entries are those among their calls.
use Rattle.std.proofs.Common.{◌≡◌, ℕ, suc, List, [], ◌∷◌, ◌++◌, filter, refl, ◌∙◌}
use Rattle.palm_base.specs.Key.{key}
use Rattle.palm_base.specs.Pass.{is_edit}
use Rattle.palm_base.specs.History.{calls_of}
use Rattle.palm_base.proofs.Keys.{digits_of-key}
use Rattle.palm_base.specs.declared.call.Call.{Call}
use Rattle.palm_base.specs.declared.call.Call.TheVariants.{Set, Del, Get, Rate, List as Listing}
use Rattle.palm_arena.specs.Leaves.{LeafPlace}
use Rattle.palm_route.specs.declared.part.Ask.TheVariants as ask
use Rattle.palm_route.specs.declared.part.Part.{Part}
use Rattle.palm_route.specs.Edits.{edits_of, EditsPrefix}
use Rattle.palm_route.specs.Laws.{PartsKeepEdits}
use Rattle.palm_route.specs.Parts.{parts_by_keys, parts_of_call, parts_of, front_keys, list_keys, lows_of}

looks_edit_nothing : (entry m : ℕ) (keys : List ℕ) (parts : List Part) → edits_of (parts_by_keys entry m ask.Look keys ++ parts) ≡ edits_of parts
looks_edit_nothing entry m [] parts = refl
looks_edit_nothing entry m (k ∷ keys) parts = looks_edit_nothing entry (suc m) keys parts

lists_edit_nothing : (entry m limit : ℕ) (from to : List ℕ) (keys : List ℕ) (parts : List Part) → edits_of (parts_by_keys entry m (ask.List from to limit) keys ++ parts) ≡ edits_of parts
lists_edit_nothing entry m limit from to [] parts = refl
lists_edit_nothing entry m limit from to (k ∷ keys) parts = lists_edit_nothing entry (suc m) limit from to keys parts

call_edits : (places : List LeafPlace) (entry : ℕ) (call : Call) (parts : List Part) (calls : List Call) → EditsPrefix call → edits_of parts ≡ filter is_edit calls
    → edits_of (parts_of_call places entry call ++ parts) ≡ filter is_edit (call ∷ calls)
call_edits places entry (Set prefix rate) parts calls is rest = rw (digits_of-key prefix is, rest) refl
call_edits places entry (Del prefix) parts calls is rest = rw (digits_of-key prefix is, rest) refl
call_edits places entry (Get prefix) parts calls is rest = rest
call_edits places entry (Rate number) parts calls is rest = looks_edit_nothing entry 0 (front_keys number) parts ∙ rest
call_edits places entry (Listing from to limit) parts calls is rest = lists_edit_nothing entry 0 limit from to (list_keys (key from) (key to) (lows_of places)) parts ∙ rest

pub parts_keep_edits : PartsKeepEdits
parts_keep_edits places first [] all = refl
parts_keep_edits places first (entry ∷ entries) all =
    call_edits places first entry.call (parts_of places (suc first) entries) (calls_of entries) all.0 (parts_keep_edits places (suc first) entries all.1)
