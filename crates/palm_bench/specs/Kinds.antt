-- The kinds of calls that a run makes, and the words for them.
use Rattle.std.specs.Prelude.{ℕ, ◌⊎◌, if◌then◌else◌, List, codes, Option, Some, None}
use Rattle.std.specs.Str.{bytes_eq}
use Rattle.palm_base.specs.declared.call.Call.{Call}
use Rattle.palm_base.specs.declared.call.Call.TheVariants.{Set, Del, Get, Rate, List as Listing}
use Rattle.palm_bench.specs.declared.feed.Kind.{Kind}
use Rattle.palm_bench.specs.declared.feed.Kind.TheVariants.{Load, Sets, Edits, Gets, Rates, Nested, Narrow, Wide, Looks, Half}

-- The kind that a word names. So "sets" names Sets, and "set" names none.
abbrev pub kind_named : List ℕ → Option Kind
kind_named word =
    if bytes_eq word (codes "load") then Some Load
    else if bytes_eq word (codes "sets") then Some Sets
    else if bytes_eq word (codes "edits") then Some Edits
    else if bytes_eq word (codes "gets") then Some Gets
    else if bytes_eq word (codes "rates") then Some Rates
    else if bytes_eq word (codes "nested") then Some Nested
    else if bytes_eq word (codes "narrow") then Some Narrow
    else if bytes_eq word (codes "wide") then Some Wide
    else if bytes_eq word (codes "looks") then Some Looks
    else if bytes_eq word (codes "half") then Some Half
    else None

-- The call is a Set. So Set 44 5 is, and Del 44 isn't.
abbrev pub IsSet : Call → Type 0
IsSet (Set prefix rate) = Unit {0}
IsSet (Del prefix) = ⊥
IsSet (Get prefix) = ⊥
IsSet (Rate number) = ⊥
IsSet (Listing from to limit) = ⊥

-- The call is a Del. So Del 44 is, and Get 44 isn't.
abbrev pub IsDel : Call → Type 0
IsDel (Set prefix rate) = ⊥
IsDel (Del prefix) = Unit {0}
IsDel (Get prefix) = ⊥
IsDel (Rate number) = ⊥
IsDel (Listing from to limit) = ⊥

-- The call is a Get. So Get 44 is, and Rate 44 isn't.
abbrev pub IsGet : Call → Type 0
IsGet (Set prefix rate) = ⊥
IsGet (Del prefix) = ⊥
IsGet (Get prefix) = Unit {0}
IsGet (Rate number) = ⊥
IsGet (Listing from to limit) = ⊥

-- The call is a Rate. So Rate 442 is, and Get 442 isn't.
abbrev pub IsRate : Call → Type 0
IsRate (Set prefix rate) = ⊥
IsRate (Del prefix) = ⊥
IsRate (Get prefix) = ⊥
IsRate (Rate number) = Unit {0}
IsRate (Listing from to limit) = ⊥

-- The call is a List. So List 4 5 9 is, and Get 44 isn't.
abbrev pub IsList : Call → Type 0
IsList (Set prefix rate) = ⊥
IsList (Del prefix) = ⊥
IsList (Get prefix) = ⊥
IsList (Rate number) = ⊥
IsList (Listing from to limit) = Unit {0}

-- A Get, a Rate or a List. So Get 44 is one of them, and Set 44 5 isn't.
abbrev pub IsLookUp : Call → Type 0
IsLookUp call = IsGet call ⊎ (IsRate call ⊎ IsList call)

-- A Set or a look-up. So Set 44 5 and Get 44 are one each, and Del 44 isn't.
abbrev pub IsMixed : Call → Type 0
IsMixed call = IsSet call ⊎ IsLookUp call

-- A Set or a Del. So Set 44 5 and Del 44 are one each, and Get 44 isn't.
abbrev pub IsEdit : Call → Type 0
IsEdit call = IsSet call ⊎ IsDel call

-- A call as runs of this kind make it. So a Del is one of Edits and of no other kind.
abbrev pub IsOfKind : Kind → Call → Type 0
IsOfKind Load call = IsSet call
IsOfKind Sets call = IsSet call
IsOfKind Edits call = IsEdit call
IsOfKind Gets call = IsGet call
IsOfKind Rates call = IsRate call
IsOfKind Nested call = IsRate call
IsOfKind Narrow call = IsList call
IsOfKind Wide call = IsList call
IsOfKind Looks call = IsMixed call
IsOfKind Half call = IsMixed call
