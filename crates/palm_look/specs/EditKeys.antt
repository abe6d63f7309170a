-- The keys at which a batch edits the table.
use Rattle.std.specs.Prelude.{ℕ, List, [], ◌∷◌}
use Rattle.std.specs.List.{flat_map}
use Rattle.palm_base.specs.Key.{key}
use Rattle.palm_base.specs.declared.call.Call.{Call}
use Rattle.palm_base.specs.declared.call.Call.TheVariants.{Set, Del, Get, Rate, List as Listing}
use Rattle.palm_base.specs.declared.call.Entry.{Entry}

-- The key of an edit's prefix, and of a look-up none. So of Set 44 5 it is that of 44.
abbrev pub key_edited : Call → List ℕ
key_edited (Set prefix rate) = key prefix ∷ []
key_edited (Del prefix) = key prefix ∷ []
key_edited (Get prefix) = []
key_edited (Rate number) = []
key_edited (Listing from to limit) = []

-- The keys of a batch's edits, in its order. So those of Set 44 5, Get 4, Del 44 are that of 44 twice.
abbrev pub keys_edited : List Entry → List ℕ
keys_edited batch = flat_map (λ entry. key_edited entry.call) batch
