-- How a run of the program ends, by its mode and its status: what was read, what was written, and the tree that is left.
use Rattle.std.specs.Prelude.{◌≡◌, ℕ, ◌+◌, ◌<◌, ◌≤◌, ◌⊎◌, Bool, true, false, List, length, IfSome, IfOk, Some, None, Option}
use Rattle.std.specs.Io.KnownBytes.{Consumes, IsAtEnd}
use Rattle.palm_base.specs.Tree.{Tree}
use Rattle.palm_deck.specs.Deck.{deck_of}
use Rattle.palm_script.specs.Causes.{Rose}
use Rattle.palm_script.specs.Script.{script_of}
use Rattle.palm_script.specs.declared.input.TheConstants.{MOST_BYTES}
use Rattle.palm_script.specs.declared.line.LineFault.{LineFault}
use Rattle.palm_words.specs.declared.settings.Mode.{Mode}
use Rattle.palm_words.specs.declared.settings.Mode.TheVariants.{Replay, Deck, Gen}
use Rattle.palm_words.specs.declared.settings.Settings.{Settings}
use Rattle.palm_cli.specs.Costs.{run_cost}
use Rattle.palm_cli.specs.Decks.{IsGoodDeck, IsBadDeck, IsBegunDeck, IsStoppedDeck}
use Rattle.palm_cli.specs.Generated.{IsSummed, history_said, summary_said}
use Rattle.palm_cli.specs.Scripts.{run_of, IsGoodScript, IsBadScript, IsLongScript, IsCutScript, IsStoppedScript}
use Rattle.palm_cli.specs.Streams.{AppendsFront, HasReadPast}
use Rattle.palm_cli.specs.Tables.{cost_left}
use Rattle.palm_cli.specs.declared.status.Status.{Status}
use Rattle.palm_cli.specs.declared.status.Status.TheVariants.{Done, Usage, BadLine, ReadFault, WriteFault, NoMemory, TooLong, BadRow}

-- ---- by the mode

-- `gen` alone reads nothing.
abbrev pub reads : Mode → Bool
reads Replay = true
reads Deck = true
reads Gen = false

-- All went well. A source that was read had the bytes `left`, of which it may not tell. So in `gen` the summary was taken.
abbrev pub IsDone : Mode → Settings → (left old new : Option (List ℕ)) → Tree → Type 0
IsDone Replay settings left old new after = IfSome left (λ b. IsGoodScript settings b old new after)
IsDone Deck settings left old new after = IfSome left (λ b. IsGoodDeck settings.batch b old new after)
IsDone Gen settings left old new after = IsSummed settings old new after

-- No more steps were counted than all batches together may take. So for a script of Get 44, Rate 442 in one batch they are at
-- most 24.
abbrev pub TookFew : Mode → Settings → (left : Option (List ℕ)) → (before now : ℕ) → Type 0
TookFew Replay settings left before now = IfSome left (λ b. now ≤ before + run_cost (run_of settings (script_of b true)))
TookFew Deck settings left before now = IfSome left (λ b. IfOk (deck_of b) (λ edits. now ≤ before + cost_left settings.batch edits))
TookFew Gen settings left before now = now ≤ before + cost_left settings.batch (history_said settings)

-- The source failed after these bytes were read, which aren't too many. In `deck` nothing is written then. So it isn't so of
-- 67,108,865 bytes, nor in `gen`, which reads nothing.
abbrev pub IsCutShort : Mode → Settings → (read : List ℕ) (old new : Option (List ℕ)) → Tree → Type 0
IsCutShort Replay settings read old new after = IsCutScript settings read old new after
IsCutShort Deck settings read old new after = (length read ≤ MOST_BYTES) × (new ≡ old)
IsCutShort Gen settings read old new after = ⊥

-- The source has more bytes than are taken. In `deck` nothing is written then. So it is so of a deck of 67,108,865 bytes, and
-- not of one of 67,108,864.
abbrev pub IsLong : Mode → Settings → (left old new : Option (List ℕ)) → Tree → Type 0
IsLong Replay settings left old new after = IfSome left (λ b. IsLongScript settings b old new after)
IsLong Deck settings left old new after = IfSome left (λ b. MOST_BYTES < length b) × (new ≡ old)
IsLong Gen settings left old new after = ⊥

-- The run stopped before its end, after these bytes were read: what was taken begins what all would give. So in `gen` it may be
-- "call", which begins "calls 0".
abbrev pub IsStopped : Mode → Settings → (read : List ℕ) (rest old new : Option (List ℕ)) → Type 0
IsStopped Replay settings read rest old new = IsStoppedScript settings read rest old new
IsStopped Deck settings read rest old new = IsStoppedDeck read rest old new
IsStopped Gen settings read rest old new = AppendsFront old new (summary_said settings)

-- The sink failed, after these bytes were read: what was taken begins what all would give. A deck is good then. So in `deck` it
-- isn't so of "op,prefix,rate" and "set,4x,7".
abbrev pub IsUnwritten : Mode → Settings → (read : List ℕ) (rest old new : Option (List ℕ)) → Type 0
IsUnwritten Replay settings read rest old new = IsStoppedScript settings read rest old new
IsUnwritten Deck settings read rest old new = IsBegunDeck read rest old new
IsUnwritten Gen settings read rest old new = AppendsFront old new (summary_said settings)

-- A mode's statuses where nothing failed. `gen` has no bad input. So 8 is one in `deck` alone.
abbrev pub EndsUnfailed : Mode → ℕ → Type 0
EndsUnfailed Replay code = (code ≡ 0) ⊎ (code ≡ 3) ⊎ (code ≡ 6) ⊎ (code ≡ 7)
EndsUnfailed Deck code = (code ≡ 0) ⊎ (code ≡ 6) ⊎ (code ≡ 7) ⊎ (code ≡ 8)
EndsUnfailed Gen code = (code ≡ 0) ⊎ (code ≡ 6)

-- ---- by the status

-- What surrounds a run: the bytes that its source had left before and has now, those that its sink had taken before and has
-- now, where they are told, the counts of faults of both, before and now, and how many steps were counted. So where 3 of 5
-- bytes were read, `left` has 5 and `rest` the last 2.
pub record Outside : Type 0 where
  pub left : Option (List ℕ)
  pub rest : Option (List ℕ)
  pub taken : Option (List ℕ)
  pub now : Option (List ℕ)
  pub reads_before : ℕ
  pub reads_now : ℕ
  pub writes_before : ℕ
  pub writes_now : ℕ
  pub steps_before : ℕ
  pub steps_now : ℕ

-- The run stopped after some bytes were read. So where a source had 5 bytes and has the last 2, it stopped after the first 3.
abbrev pub HasStopped : Mode → Settings → Outside → Type 0
HasStopped mode settings o = (read : List ℕ) × Consumes o.left o.rest read × IsStopped mode settings read o.rest o.taken o.now

-- The sink failed after some bytes were read. So in `deck` these are a good deck, and its source has none left.
abbrev pub HasFailed : Mode → Settings → Outside → Type 0
HasFailed mode settings o = (read : List ℕ) × Consumes o.left o.rest read × IsUnwritten mode settings read o.rest o.taken o.now

-- A line of the script that was read has this fault. So where a source had 5 bytes and has the last 2, it had ended in the
-- first 3.
abbrev pub HasBadLine : Settings → LineFault → Outside → Tree → Type 0
HasBadLine settings fault o after = (read : List ℕ) × Consumes o.left o.rest read × IfSome o.left (λ b. IsBadScript settings b read fault o.taken o.now after)

-- The source counted no fault. So with the counts 3 and 3 it is so, and with 3 and 4 it isn't.
abbrev pub KeepsReads : Outside → Type 0
KeepsReads o = o.reads_now ≡ o.reads_before

-- The sink counted no fault. So where it took all that it was offered it is so.
abbrev pub KeepsWrites : Outside → Type 0
KeepsWrites o = o.writes_now ≡ o.writes_before

-- The source was read to its end, where the mode reads it at all. So in `deck` it has no byte left, and in `gen` nothing is
-- asked of it.
abbrev pub IsReadWhole : Mode → (rest : Option (List ℕ)) → Type 0
IsReadWhole mode rest = reads mode ≡ true → IsAtEnd rest

-- What a run in a mode says of its end, where it leaves this tree. So at WriteFault the sink counts a fault more, and what was
-- taken begins what all would give.
abbrev pub EndsIn : Mode → Settings → Status → Outside → Tree → Type 0
EndsIn mode settings Done o after =
    IsDone mode settings o.left o.taken o.now after × IsReadWhole mode o.rest × KeepsReads o × KeepsWrites o
    × TookFew mode settings o.left o.steps_before o.steps_now
EndsIn mode settings Usage o after = ⊥
EndsIn mode settings (BadLine fault) o after =
    (mode ≡ Replay) × HasBadLine settings fault o after × HasStopped mode settings o × KeepsWrites o
EndsIn mode settings ReadFault o after =
    Rose o.reads_before o.reads_now × ((read : List ℕ) × Consumes o.left o.rest read × IsCutShort mode settings read o.taken o.now after) × KeepsWrites o
EndsIn mode settings WriteFault o after = Rose o.writes_before o.writes_now × HasFailed mode settings o
EndsIn mode settings NoMemory o after = KeepsWrites o × HasStopped mode settings o
EndsIn mode settings TooLong o after =
    HasReadPast o.left o.rest × IsLong mode settings o.left o.taken o.now after × KeepsReads o × KeepsWrites o
EndsIn mode settings (BadRow row why) o after =
    (mode ≡ Deck) × IfSome o.left (λ b. IsBadDeck b row why) × IsAtEnd o.rest × HasStopped mode settings o × KeepsReads o × KeepsWrites o

-- The same in the mode of the settings. So in `gen` Done says that the summary was taken.
abbrev pub EndsAs : Settings → Status → Outside → Tree → Type 0
EndsAs settings status o after = EndsIn settings.mode settings status o after

-- The words were refused, or memory was while they were read. So Usage says it, and ReadFault doesn't.
abbrev pub IsRefused : Status → Type 0
IsRefused status = (status ≡ Usage) ⊎ (status ≡ NoMemory)

-- How the program ends by what its words set, where they are of the form. Where they aren't, they were refused. So after the
-- word `rest` alone, which is no mode, there is Usage or NoMemory.
abbrev pub HasEnded : Option Settings → Status → Outside → Tree → Type 0
HasEnded None status o after = IsRefused status
HasEnded (Some settings) status o after = EndsAs settings status o after
