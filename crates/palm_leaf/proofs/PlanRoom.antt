-- Parts that have room and go by keys wait for their answers.
use Rattle.std.proofs.Common.{◌≡◌, ℕ, List, [], ◌∷◌, map, subst, sym}
use Rattle.std.specs.List.{AllByRecursion}
use Rattle.palm_route.specs.declared.part.Part.{Part}
use Rattle.palm_leaf.specs.Routed.{HasKey}
use Rattle.palm_leaf.specs.Asked.{part_of, HasRoom, IsOpen}
use Rattle.palm_leaf.specs.declared.rows.Asked.{Asked}

all_wait : (n : ℕ) (asked : List Asked) → AllByRecursion HasKey (map part_of asked) → AllByRecursion (HasRoom n) asked → AllByRecursion (IsOpen n) asked
all_wait n [] keys room = tt
all_wait n (one ∷ asked) keys room = (record { room = room.0; key = keys.0 }, all_wait n asked keys.1 room.1)

pub all_open : (n : ℕ) (asked : List Asked) (parts : List Part) → map part_of asked ≡ parts → AllByRecursion HasKey parts → AllByRecursion (HasRoom n) asked → AllByRecursion (IsOpen n) asked
all_open n asked parts same keys = all_wait n asked (subst (AllByRecursion HasKey) (sym same) keys)
