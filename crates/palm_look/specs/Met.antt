-- Which keys matter to the reply to a call: an edit at one of them could change it.
use Rattle.std.specs.Prelude.{◌≡◌, ℕ, List, slice_get, Option, None, Some, All}
use Rattle.palm_base.specs.Key.{key}
use Rattle.palm_base.specs.LookUps.{digits_hit, row_at_limit, last_key, IsFrontKey, IsBetween}
use Rattle.palm_base.specs.declared.row.Row.{Row}
use Rattle.palm_base.specs.declared.call.Call.{Call}
use Rattle.palm_base.specs.declared.call.Call.TheVariants.{Set, Del, Get, Rate, List as Listing}
use Rattle.palm_base.specs.declared.call.Reply.{Reply}
use Rattle.palm_base.specs.declared.call.Reply.TheVariants.{New, Was, Gone, Absent, Value, Hit, Rows}

-- None of the keys has the property. So among 3, 5 none is above 5.
abbrev pub HasNone : (ℕ → Type 0) → List ℕ → Type 0
HasNone P keys = All (λ k. P k → ⊥) keys

-- One of the keys has it. So among 3, 5 one is above 4.
abbrev pub HasOne : (ℕ → Type 0) → List ℕ → Type 0
HasOne P keys = HasNone P keys → ⊥

-- The last key that matters to a List of at most so many rows to this key, which shows these rows.
-- So of at most 2 rows to 45 it is the key of 44 where the rows of 4 and 44 are shown, and that of 45 where only one is.
abbrev pub last_listed : ℕ → ℕ → List Row → ℕ
last_listed to limit shown = last_key to (row_at_limit limit shown)

-- The last key that matters to it by its reply.
abbrev pub last_replied : ℕ → ℕ → Reply → ℕ
last_replied to limit (Rows shown) = last_listed to limit shown
last_replied to limit New = to
last_replied to limit (Was rate) = to
last_replied to limit (Gone rate) = to
last_replied to limit Absent = to
last_replied to limit (Value rate) = to
last_replied to limit (Hit row) = to

-- The key matters to the reply to a call: it is that of the prefix of a Set, a Del or a Get, that of a front of a Rate's number with
-- as many digits as the row that it hit or more, or it lies in a List's range, up to the row at which the List reached its limit.
-- So to Hit 44 5 as the reply to Rate 442 the keys of 44 and 442 matter, and that of 4 doesn't.
abbrev pub MattersTo : Call → Reply → ℕ → Type 0
MattersTo (Set prefix rate) reply k = k ≡ key prefix
MattersTo (Del prefix) reply k = k ≡ key prefix
MattersTo (Get prefix) reply k = k ≡ key prefix
MattersTo (Rate number) reply k = IsFrontKey (digits_hit reply) number k
MattersTo (Listing from to limit) reply k = IsBetween (key from) (last_replied (key to) limit reply) k
