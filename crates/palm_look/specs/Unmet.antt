-- Replies that are known before a batch is run.
use Rattle.std.specs.Prelude.{◌≡◌, ℕ, ◌⊎◌, true, false, Bool, List, Option, None, Some}
use Rattle.palm_base.specs.LookUps.{Matters, NoEditAt, RatesDigits}
use Rattle.palm_base.specs.Table.{answer}
use Rattle.palm_look.specs.Met.{HasOne, HasNone, MattersTo}
use Rattle.palm_base.specs.History.{calls_of}
use Rattle.palm_base.specs.Pass.{is_edit}
use Rattle.palm_base.specs.declared.row.Row.{Row}
use Rattle.palm_base.specs.declared.call.Call.{Call}
use Rattle.palm_base.specs.declared.call.Entry.{Entry}
use Rattle.palm_base.specs.declared.call.Reply.{Reply}

-- What is known of a reply is the reply. So Value 5 may be known of Value 5, or nothing, and Absent may not.
abbrev pub IsKnown : Option Reply → Reply → Type 0
IsKnown None reply = Unit {0}
IsKnown (Some known) reply = known ≡ reply

-- A look-up's answer on a table is kept where none of the keys matters to it, and where one does nothing is.
-- So of Get 44 on the table of 44 at 5, Value 5 is kept where 44 isn't among the keys.
pub record IsKept (rows : List Row) (keys : List ℕ) (entry : Entry) (known : Reply) : Type 0 where
  pub look-up : is_edit entry.call ≡ false
  pub digits : RatesDigits entry.call
  pub answer : known ≡ answer rows entry.call
  pub none : HasNone (MattersTo entry.call known) keys

abbrev pub IsJudged : List Row → List ℕ → Entry → Option Reply → Type 0
IsJudged rows keys entry None = is_edit entry.call ≡ false → HasOne (MattersTo entry.call (answer rows entry.call)) keys
IsJudged rows keys entry (Some known) = IsKept rows keys entry known

-- A call is met: an edit of the batch is at a key that matters to its answer on the table before the batch.
-- So on the table of 44, Rate 442 is met by Del 44, and isn't by Del 4.
abbrev pub IsMet : List Row → List Entry → Call → Type 0
IsMet rows batch call = ¬ NoEditAt (Matters rows call) (calls_of batch)

-- Nothing is known of the reply to an edit, and of that to a look-up nothing is known only where an edit meets it.
-- So in a batch of Get 44 and Set 45 9 the reply to the Get is known.
abbrev pub IsKnownUnlessMet : List Row → List Entry → Option Reply → Entry → Type 0
IsKnownUnlessMet rows batch None entry = is_edit entry.call ≡ false → IsMet rows batch entry.call
IsKnownUnlessMet rows batch (Some known) entry = is_edit entry.call ≡ false
