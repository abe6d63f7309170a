-- Parts of a leaf with room for their answers.
use Rattle.std.specs.Prelude.{◌≡◌, ℕ, ◌≤◌, Bool, true, false, List, [], Option, count_by, vec_capacity}
use Rattle.std.specs.List.{list_all, list_any}
use Rattle.palm_base.specs.declared.row.Row.{Row}
use Rattle.palm_route.specs.declared.part.Ask.{Ask}
use Rattle.palm_route.specs.declared.part.Ask.TheVariants as ask
use Rattle.palm_route.specs.declared.part.Part.{Part}
use Rattle.palm_leaf.specs.Routed.{HasKey}
use Rattle.palm_leaf.specs.declared.answer.LeafAnswer.{LeafAnswer}
use Rattle.palm_leaf.specs.declared.answer.LeafAnswer.TheVariants.{Old, Found}
use Rattle.palm_leaf.specs.declared.answer.PartAnswer.{PartAnswer}
use Rattle.palm_leaf.specs.declared.rows.Asked.{Asked}

-- The ask is an edit: a Set or a Del. So a Set is one, and a look-up isn't.
abbrev pub is_edit : Ask → Bool
is_edit (ask.Set rate) = true
is_edit ask.Del = true
is_edit ask.Look = false
is_edit (ask.List from to limit) = false

-- The ask is a Set, the only one that can add a row. So a Set is one, and a Del isn't.
abbrev pub is_set : Ask → Bool
is_set (ask.Set rate) = true
is_set ask.Del = false
is_set ask.Look = false
is_set (ask.List from to limit) = false

-- The ask is a Set or a look-up: it takes no row out, and lists none. So a Set and a look-up are, and a Del isn't.
abbrev pub keeps : Ask → Bool
keeps (ask.Set rate) = true
keeps ask.Del = false
keeps ask.Look = true
keeps (ask.List from to limit) = false

-- Each of the parts is a Set or a look-up. So a Set and a look-up are, and a look-up and a Del aren't.
abbrev pub all_keep : List Part → Bool
all_keep parts = list_all (λ part. keeps part.ask) parts

-- One of the parts is an edit. So it is of a look-up and a Del, and not of two look-ups.
abbrev pub has_edit : List Part → Bool
has_edit parts = list_any (λ part. is_edit part.ask) parts

-- How many of the parts are Sets, and so how many rows they add at most. So of a Set, a Del and a Set there are two.
abbrev pub set_count : List Part → ℕ
set_count parts = count_by (λ part. is_set part.ask) parts

-- The answer to an ask that an old rate and found rows make: the rows where it is a List's, and else the rate.
-- So of the old rate 120 and the found row 44 90, a look-up's is 120, and a List's is the row 44 90.
abbrev pub answer_with : Ask → Option ℕ → List Row → LeafAnswer
answer_with (ask.Set rate) old found = Old old
answer_with ask.Del old found = Old old
answer_with ask.Look old found = Old old
answer_with (ask.List from to limit) old found = Found found

-- The answer that a part has been given. So a look-up of 44 that found the rate 120 has been given the old rate 120.
abbrev pub answered : Asked → PartAnswer
answered asked = record { part = asked.part; answer = answer_with asked.part.ask asked.rate asked.found.items }

-- The part that was asked. So of a look-up of 44, with the rate 120 found or with none yet, it is this look-up.
abbrev pub part_of : Asked → Part
part_of asked = asked.part

-- There is room for so many of n rows as a limit allows. So there is for 3 rows at the limit 5 where there is room for 3.
abbrev pub FindsRoom : ℕ → ℕ → ℕ → Type 0
FindsRoom limit n room = (most : ℕ) → most ≤ limit → most ≤ n → most ≤ room

-- An ask finds room for what it may find among n rows.
-- So a List with the limit 5 does among 3 rows in room for 3, and a Set does in none.
abbrev pub AskFindsRoom : ℕ → Ask → ℕ → Type 0
AskFindsRoom n (ask.Set rate) room = Unit {0}
AskFindsRoom n ask.Del room = Unit {0}
AskFindsRoom n ask.Look room = Unit {0}
AskFindsRoom n (ask.List from to limit) room = FindsRoom limit n room

-- The part has found no rows yet, and has room for those that it may find among n rows.
-- So a List with the limit 5 that has found none has it among 9 rows in room for 5, and not in room for 4.
pub record HasRoom (n : ℕ) (asked : Asked) : Type 0 where
  pub none : asked.found.items ≡ []
  pub room : AskFindsRoom n asked.part.ask (vec_capacity asked.found)

-- The part waits for its answer: it has room among n rows, and goes by a key where it is an edit.
-- So a Set by the key of 44 that has found no rows is open among 16, and a Set by 0, which is no prefix's key, isn't.
pub record IsOpen (n : ℕ) (asked : Asked) : Type 0 where
  pub room : HasRoom n asked
  pub key : HasKey asked.part
