-- From what the leaves answer to the replies of a batch.
use Rattle.std.specs.Prelude.{◌≡◌, ℕ, ◌==◌, ◌<◌, ◌≤◌, Bool, true, false, List, [], ◌∷◌, ◌++◌, length, take, filter, slice_index_or, Option, None, Some}
use Rattle.std.specs.List.{fold}
use Rattle.std.proofs.Common.{suc}
use Rattle.palm_base.specs.Key.{digits_of, IsKey}
use Rattle.palm_base.specs.Lows.{PrefixesHold}
use Rattle.palm_base.specs.Prefix.{IsPrefix}
use Rattle.palm_base.specs.Table.{new_or_was, or_absent, IsTable}
use Rattle.palm_base.specs.declared.row.Row.{Row}
use Rattle.palm_base.specs.declared.call.Call.{Call}
use Rattle.palm_base.specs.declared.call.Call.TheVariants.{Set, Del, Get, Rate, List as Listing}
use Rattle.palm_base.specs.declared.call.Reply.{Reply}
use Rattle.palm_base.specs.declared.call.Reply.TheVariants.{New, Was, Gone, Absent, Value, Hit, Rows}
use Rattle.palm_base.specs.declared.call.Entry.{Entry}
use Rattle.palm_arena.specs.Leaves.{LeafPlace}
use Rattle.palm_route.specs.Groups.{LowsRise}
use Rattle.palm_route.specs.Parts.{lows_of, parts_of}
use Rattle.palm_leaf.specs.Ranged.{ranged_answers}
use Rattle.palm_leaf.specs.Spread.{spread}
use Rattle.palm_leaf.specs.declared.answer.LeafAnswer.{LeafAnswer}
use Rattle.palm_leaf.specs.declared.answer.LeafAnswer.TheVariants.{Old, Found}
use Rattle.palm_leaf.specs.declared.answer.PartAnswer.{PartAnswer}

-- ---- the reply that the answers to a call's parts make

-- The reply to a call before anything is joined to it: no rows to a List, and Absent to any other. So it is Absent to Get 44.
abbrev pub unanswered : Call → Reply
unanswered (Set prefix rate) = Absent
unanswered (Del prefix) = Absent
unanswered (Get prefix) = Absent
unanswered (Rate number) = Absent
unanswered (Listing from to limit) = Rows []

-- The row of a key where there is a rate for it, and else the reply of before.
-- So by the key of 44 and the rate 5 it is Hit 44 5, and by no rate what the shorter fronts came to.
abbrev pub hit_or : ℕ → Reply → Option ℕ → Reply
hit_or k reply None = reply
hit_or k reply (Some rate) = Hit (record { prefix = digits_of k; rate = rate })

-- The reply to a call of which one more part, by this key, found a rate or that there is none. A Set, a Del and a Get have one
-- part, which makes the reply, and the fronts of a Rate come in rising order, so that the last that has a rate is the longest.
-- So to a Set that found nothing the reply is New, and to one that found 5 Was 5.
abbrev pub with_rate : Call → ℕ → Option ℕ → Reply → Reply
with_rate (Set prefix rate) k old reply = new_or_was old
with_rate (Del prefix) k old reply = or_absent Gone old
with_rate (Get prefix) k old reply = or_absent Value old
with_rate (Rate number) k old reply = hit_or k reply old
with_rate (Listing from to limit) k old reply = reply

-- Rows with more behind them, as many as a limit allows. So with the limit 3 the rows of 1, 10 and those of 2, 20 make 1, 10, 2.
abbrev pub with_more : ℕ → List Row → Reply → Reply
with_more limit found (Rows rows) = Rows (take limit (rows ++ found))
with_more limit found reply = reply

-- The reply to a call of which one more part found these rows: those of a List's leaf stand behind those of the leaves before it.
-- So where those before found 1, 10 and this one 2, 20, a List of at most 3 has 1, 10, 2.
abbrev pub with_found : Call → List Row → Reply → Reply
with_found (Set prefix rate) found reply = reply
with_found (Del prefix) found reply = reply
with_found (Get prefix) found reply = reply
with_found (Rate number) found reply = reply
with_found (Listing from to limit) found reply = with_more limit found reply

-- The reply to a call of which one more part, by this key, is answered so. So to a Get it is Value 5 by the rate 5, whatever it
-- was before.
abbrev pub with_answer : Call → ℕ → LeafAnswer → Reply → Reply
with_answer call k (Old old) reply = with_rate call k old reply
with_answer call k (Found found) reply = with_found call found reply

-- The reply to a call with the answer to one more of its parts. So to Rate 442, which has Hit 4 3 so far, the rate 5 of its
-- part 44 makes Hit 44 5.
abbrev pub joined : Call → Reply → PartAnswer → Reply
joined call reply a = with_answer call a.part.key a.answer reply

-- The reply that the answers to a call's parts make.
-- So where 4 has no rate, 44 the rate 5 and 442 none, the answers to Rate 442 make Hit 44 5; and where one leaf has the rows of
-- 1, 10 and the next those of 2, 20, the answers to a List of at most 3 make the rows of 1, 10, 2.
abbrev pub reply_joined : Call → List PartAnswer → Reply
reply_joined call answers = fold (joined call) (unanswered call) answers

-- ---- the replies that the answers to a batch's parts make

-- Of answers, those to the parts of one entry. So to Get 44, Get 4 the entry 1 has the answer to Get 4 alone.
abbrev pub answers_to : ℕ → List PartAnswer → List PartAnswer
answers_to entry answers = filter (λ a. a.part.entry == entry) answers

-- The replies that answers make to entries, the first of which has this place in the batch: to each by its own.
-- So where Get 44 and Get 4 are answered 4 first, by nothing, and then 44, by 5, the replies are Value 5 and Absent.
abbrev pub replies_joined : ℕ → List Entry → List PartAnswer → List Reply
replies_joined first [] answers = []
replies_joined first (entry ∷ entries) answers = reply_joined entry.call (answers_to first answers) ∷ replies_joined (suc first) entries answers

-- ---- which answers go with which calls

-- A part of the call may have found a rate or that there is none: one of any call but a List, and of a Rate by the key of a prefix.
-- So a Get may have found 5, and a List may not.
abbrev pub FindsRate : Call → ℕ → Type 0
FindsRate (Set prefix rate) k = Unit {0}
FindsRate (Del prefix) k = Unit {0}
FindsRate (Get prefix) k = Unit {0}
FindsRate (Rate number) k = IsKey k
FindsRate (Listing from to limit) k = ⊥

-- It may have found so many rows: a List's, no more than its limit. So a List of at most 3 may have found 3, and a Get none.
abbrev pub FindsRows : Call → ℕ → Type 0
FindsRows (Set prefix rate) n = ⊥
FindsRows (Del prefix) n = ⊥
FindsRows (Get prefix) n = ⊥
FindsRows (Rate number) n = ⊥
FindsRows (Listing from to limit) n = n ≤ limit

-- What a leaf answers may be of a part of the call by this key: a rate of any other than a List, and rows of a List. So the
-- rate 5 may be one of a Get, and two rows one of a List of at most 3.
abbrev pub MayAnswer : Call → ℕ → LeafAnswer → Type 0
MayAnswer call k (Old old) = FindsRate call k
MayAnswer call k (Found rows) = FindsRows call (length rows)

-- The answer may be one to a part of the call. So 5 may be one to a Get of 44, and rows may not.
abbrev pub Fits : Call → PartAnswer → Type 0
Fits call a = MayAnswer call a.part.key a.answer

-- The answer is one to a part of one of these entries, by the entry's place. So to Get 44 alone the rate 5 is one at the entry
-- 0, and none at the entry 1.
abbrev pub FitsEntry : List Entry → PartAnswer → Type 0
FitsEntry batch a = (a.part.entry < length batch) × ((other : Entry) → Fits (slice_index_or batch a.part.entry other).call a)

-- The reply is rows, and no more than so many. So the rows of 1, 10 are no more than 3, and Absent isn't rows.
abbrev pub IsRows : ℕ → Reply → Type 0
IsRows limit New = ⊥
IsRows limit (Was old) = ⊥
IsRows limit (Gone rate) = ⊥
IsRows limit Absent = ⊥
IsRows limit (Value rate) = ⊥
IsRows limit (Hit row) = ⊥
IsRows limit (Rows rows) = length rows ≤ limit

-- The reply may be one so far to the call: that to a List is rows, no more than its limit. So four rows are none to a List of
-- at most 3, and to a Get any reply may be one.
abbrev pub IsSoFar : Call → Reply → Type 0
IsSoFar (Set prefix rate) reply = Unit {0}
IsSoFar (Del prefix) reply = Unit {0}
IsSoFar (Get prefix) reply = Unit {0}
IsSoFar (Rate number) reply = Unit {0}
IsSoFar (Listing from to limit) reply = IsRows limit reply

-- A Rate's number is a prefix. So that of Rate 442 is, and of other calls nothing is asked.
abbrev pub RatesPrefix : Call → Type 0
RatesPrefix (Set prefix rate) = Unit {0}
RatesPrefix (Del prefix) = Unit {0}
RatesPrefix (Get prefix) = Unit {0}
RatesPrefix (Rate number) = IsPrefix number
RatesPrefix (Listing from to limit) = Unit {0}

-- ---- what the leaves of a tree answer a batch

-- The answers are those of a tree's leaves to the parts of a batch: each by the rows in its own leaf's range, as the parts before
-- it leave them, and all of them from leaf to leaf. The ranges of the leaves at these places begin at 0 and, past the first, at
-- these lows, one after another, and the tree's rows are a table of prefixes.
-- So on no rows and over the low 20, Set 25 5 and Get 10 are answered the Get's nothing and then the Set's.
pub record AreAnswers (places : List LeafPlace) (lows : List ℕ) (rows : List Row) (batch : List Entry) (answers : List PartAnswer) : Type 0 where
  pub begin : lows_of places ≡ 0 ∷ lows
  pub rise : LowsRise places
  pub table : IsTable rows
  pub prefixes : PrefixesHold rows
  pub are : answers ≡ spread (λ answer. answer.part.key) lows (ranged_answers lows rows (parts_of places 0 batch))

-- ---- replies that tell of a row more or less

-- The reply tells of a row that was put in, or of one that was taken out. So New and Gone 5 do, and Was 5 does neither.
abbrev pub is_new : Reply → Bool
is_new New = true
is_new (Was old) = false
is_new (Gone rate) = false
is_new Absent = false
is_new (Value rate) = false
is_new (Hit row) = false
is_new (Rows rows) = false

-- The reply tells of a row that was taken out. So Gone 5 does, and Absent doesn't.
abbrev pub is_gone : Reply → Bool
is_gone New = false
is_gone (Was old) = false
is_gone (Gone rate) = true
is_gone Absent = false
is_gone (Value rate) = false
is_gone (Hit row) = false
is_gone (Rows rows) = false
