-- The parts of calls on a tree with these leaves, in the order in which the calls arrived.
use Rattle.std.specs.Prelude.{ℕ, Bool, ◌&&◌, nat_le, nat_lt, if◌then◌else◌, List, [], ◌∷◌, ◌++◌, length, map, take, filter}
use Rattle.std.specs.List.{range_with_len}
use Rattle.std.proofs.Common.{suc}
use Rattle.palm_arena.specs.Leaves.{LeafPlace}
use Rattle.palm_base.specs.Key.{key}
use Rattle.palm_base.specs.declared.call.Call.{Call}
use Rattle.palm_base.specs.declared.call.Call.TheVariants.{Set, Del, Get, Rate, List as Listing}
use Rattle.palm_base.specs.declared.call.Entry.{Entry}
use Rattle.palm_route.specs.declared.part.Ask.{Ask}
use Rattle.palm_route.specs.declared.part.Ask.TheVariants as ask
use Rattle.palm_route.specs.declared.part.Part.{Part}

-- The keys at which the ranges of leaves begin. So those of a tree of two leaves with the separator 20 are 0 and 20.
abbrev pub lows_of : List LeafPlace → List ℕ
lows_of places = map (λ place. place.low) places

-- The key lies above the first and not above the last. So 20 is one between 19 and 20, and 19 isn't.
abbrev pub is_later : ℕ → ℕ → ℕ → Bool
is_later from to k = nat_lt from k && nat_le k to

-- The keys by which a List is routed, one for each leaf whose range has one of the keys from `from` to `to`: `from` itself,
-- which the range of the first of these leaves has, and the lows of those after it.
-- So over the lows 0, 20 and 30 a List from 10 to 25 goes by 10 and 20, one from 20 to 29 by 20, and one from 9 to 8 by none.
abbrev pub list_keys : ℕ → ℕ → List ℕ → List ℕ
list_keys from to lows = if nat_le from to then from ∷ filter (is_later from to) lows else []

-- The keys of a number's fronts, the shortest first. So those of 442 are the keys of 4, 44 and 442.
abbrev pub front_keys : List ℕ → List ℕ
front_keys number = map (λ n. key (take n number)) (range_with_len 1 (length number))

-- A part for each key, with numbers that count up. So by 10 and 20 from the number 0 on they are the parts 0 and 1.
abbrev pub parts_by_keys : ℕ → ℕ → Ask → List ℕ → List Part
parts_by_keys entry number what [] = []
parts_by_keys entry number what (k ∷ keys) =
    record { entry = entry; number = number; key = k; ask = what } ∷ parts_by_keys entry (suc number) what keys

-- The parts of the call of an entry: one of a Set, a Del or a Get, one for each front of a Rate's number, and one for each
-- leaf that a List meets. So Rate 442 has the parts 0, 1 and 2, which look for the rows of 4, 44 and 442.
abbrev pub parts_of_call : List LeafPlace → ℕ → Call → List Part
parts_of_call places entry (Set prefix rate) = parts_by_keys entry 0 (ask.Set rate) (key prefix ∷ [])
parts_of_call places entry (Del prefix) = parts_by_keys entry 0 ask.Del (key prefix ∷ [])
parts_of_call places entry (Get prefix) = parts_by_keys entry 0 ask.Look (key prefix ∷ [])
parts_of_call places entry (Rate number) = parts_by_keys entry 0 ask.Look (front_keys number)
parts_of_call places entry (Listing from to limit) = parts_by_keys entry 0 (ask.List from to limit) (list_keys (key from) (key to) (lows_of places))

-- The parts of entries, the first of which has this place in the batch.
-- So Get 44, Rate 44 have one part of the entry 0 and then two of the entry 1.
abbrev pub parts_of : List LeafPlace → ℕ → List Entry → List Part
parts_of places first [] = []
parts_of places first (entry ∷ entries) = parts_of_call places first entry.call ++ parts_of places (suc first) entries
