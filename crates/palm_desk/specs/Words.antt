-- The three words that a call is sent in, as the drawing of `words.rt` has them.
use Rattle.std.specs.Prelude.{ℕ, ◌+◌, ◌*◌, ◌^◌, ◌≤◌, List, [], ◌∷◌}
use Rattle.palm_base.specs.Key.{key}
use Rattle.palm_base.specs.Prefix.{IsPrefix}
use Rattle.palm_base.specs.declared.amount.TheConstants.{MOST_RATE, MOST_LIMIT}
use Rattle.palm_base.specs.declared.call.Call.{Call}
use Rattle.palm_base.specs.declared.call.Call.TheVariants.{Set, Del, Get, Rate, List as Listing}

-- The key that the call names first. So that of a Set of 44 is 0x4400000000000002.
abbrev pub first_word : Call → ℕ
first_word (Set prefix rate) = key prefix
first_word (Del prefix) = key prefix
first_word (Get prefix) = key prefix
first_word (Rate number) = key number
first_word (Listing from to limit) = key from

-- The rate of a Set, and the key at which a List ends. So that of a Set to 1000 is 1000, and that of a Get is 0.
abbrev pub second_word : Call → ℕ
second_word (Set prefix rate) = rate
second_word (Del prefix) = 0
second_word (Get prefix) = 0
second_word (Rate number) = 0
second_word (Listing from to limit) = key to

-- Which kind of call it is, from the bit 60 up. So for a Set it is 1.
abbrev pub kind_of : Call → ℕ
kind_of (Set prefix rate) = 1
kind_of (Del prefix) = 2
kind_of (Get prefix) = 3
kind_of (Rate number) = 4
kind_of (Listing from to limit) = 5

-- What stands below the kind: the limit of a List.
abbrev pub limit_in : Call → ℕ
limit_in (Set prefix rate) = 0
limit_in (Del prefix) = 0
limit_in (Get prefix) = 0
limit_in (Rate number) = 0
limit_in (Listing from to limit) = limit

-- The kind, and below it the limit. So that of a List of at most 7 rows is 0x5000000000000007.
abbrev pub third_word : Call → ℕ
third_word call = kind_of call * 2 ^ 60 + limit_in call

-- The words of a call. So those of a Set of 44 to 1000 are 0x4400000000000002, 0x3E8, 0x1000000000000000.
abbrev pub spell : Call → List ℕ
spell call = first_word call ∷ second_word call ∷ third_word call ∷ []

-- A call that a program can make: its prefixes are prefixes, and its rate and its limit are within their bounds.
abbrev pub IsCall : Call → Type 0
IsCall (Set prefix rate) = IsPrefix prefix × (rate ≤ MOST_RATE)
IsCall (Del prefix) = IsPrefix prefix
IsCall (Get prefix) = IsPrefix prefix
IsCall (Rate number) = IsPrefix number
IsCall (Listing from to limit) = IsPrefix from × IsPrefix to × (1 ≤ limit) × (limit ≤ MOST_LIMIT)
