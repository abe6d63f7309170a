-- What an exit status says, by how the program ended.
use Rattle.std.proofs.Common.{◌≡◌, ℕ, zero, suc, ◌<◌, ◌^◌, ◌-◌, ◌⊎◌, inl, inr, true, List, [], Option, Some, None, refl, sym, ap, subst, arith}
use Rattle.std.specs.Prelude.{IfSome}
use Rattle.std.specs.Io.KnownBytes.{Consumes, IsAtEnd}
use Rattle.std.proofs.KnownBytes.{Consumes-nil}
use Rattle.palm_base.specs.Tree.{Tree}
use Rattle.palm_deck.specs.declared.deck.DeckWhy.{DeckWhy}
use Rattle.palm_script.specs.Causes.{Rose}
use Rattle.palm_script.specs.declared.line.LineFault.{LineFault}
use Rattle.palm_words.specs.declared.settings.Mode.{Mode}
use Rattle.palm_words.specs.declared.settings.Mode.TheVariants.{Replay, Deck, Gen}
use Rattle.palm_words.specs.declared.settings.Settings.{Settings}
use Rattle.palm_cli.specs.Decks.{IsBadDeck}
use Rattle.palm_cli.specs.Ends.{Outside, HasStopped, HasFailed, HasBadLine, KeepsReads, KeepsWrites, IsReadWhole, IsDone, TookFew, IsCutShort, IsLong, EndsIn, EndsAs, EndsUnfailed, HasEnded}
use Rattle.palm_cli.specs.Statuses.{code_of, names_fault}
use Rattle.palm_cli.specs.Stops.{status_of}
use Rattle.palm_cli.specs.Streams.{HasReadPast}
use Rattle.palm_cli.specs.declared.stop.Stop.{Stop}
use Rattle.palm_cli.specs.declared.stop.Stop.TheVariants as stops
use Rattle.palm_cli.specs.declared.status.Status.{Status}
use Rattle.palm_cli.specs.declared.status.Status.TheVariants.{Done, Usage, BadLine, ReadFault, WriteFault, NoMemory, TooLong, BadRow}
use Rattle.palm_cli.proofs.Stopped.{stopped_at_once}

-- The run stopped for this.
pub stop_ends : (mode : Mode) (settings : Settings) (stop : Stop) (o : Outside) (after : Tree)
    → (stop ≡ stops.Write → Rose o.writes_before o.writes_now) → (stop ≡ stops.Memory → KeepsWrites o) → HasStopped mode settings o → HasFailed mode settings o
    → EndsIn mode settings (status_of stop) o after
stop_ends mode settings stops.Memory o after rose kept stopped failed = (kept refl, stopped)
stop_ends mode settings stops.Write o after rose kept stopped failed = (rose refl, failed)

-- Memory was refused while the words were read, before anything else was done.
pub memory_ends : (found : Option Settings) (left taken : Option (List ℕ)) (reads writes steps : ℕ) (after : Tree)
    → HasEnded found NoMemory (record {
      left = left;
      rest = left;
      taken = taken;
      now = taken;
      reads_before = reads;
      reads_now = reads;
      writes_before = writes;
      writes_now = writes;
      steps_before = steps;
      steps_now = steps;
    }) after
memory_ends None left taken reads writes steps after = inr refl
memory_ends (Some settings) left taken reads writes steps after = (refl, ([], Consumes-nil left, stopped_at_once settings.mode settings [] left taken))

-- For the line of a fault memory may be refused in the end.
refused_line : (settings : Settings) (status : Status) (o : Outside) (after : Tree)
    → names_fault status ≡ true → EndsAs settings status o after → EndsAs settings NoMemory o after
refused_line settings (BadLine fault) o after names ended = (ended.3, ended.2)
refused_line settings (BadRow row why) o after names ended = (ended.5, ended.3)
refused_line settings Done o after names ended = cc
refused_line settings Usage o after names ended = cc
refused_line settings ReadFault o after names ended = cc
refused_line settings WriteFault o after names ended = cc
refused_line settings NoMemory o after names ended = cc
refused_line settings TooLong o after names ended = cc

-- The status that was told in the end is that of the run, or memory was refused for the line of its fault.
pub told_ends : (found : Option Settings) (status told : Status) (o : Outside) (after : Tree)
    → (told ≡ status) ⊎ ((told ≡ NoMemory) × (names_fault status ≡ true)) → HasEnded found status o after → HasEnded found told o after
told_ends found status told o after (inl same) ended = subst (λ (s : Status). HasEnded found s o after) (sym same) ended
told_ends None status told o after (inr refused) ended = inr refused.0
told_ends (Some settings) status told o after (inr refused) ended =
    subst (λ (s : Status). EndsAs settings s o after) (sym refused.0) (refused_line settings status o after refused.1 ended)

-- ---- the status by its code

-- The status is the one of this code.
abbrev IsOfCode : ℕ → Status → Type 0
IsOfCode zero status = status ≡ Done
IsOfCode (suc zero) status = ⊥
IsOfCode (suc (suc zero)) status = status ≡ Usage
IsOfCode (suc (suc (suc zero))) status = (fault : LineFault) × (status ≡ BadLine fault)
IsOfCode (suc (suc (suc (suc zero)))) status = status ≡ ReadFault
IsOfCode (suc (suc (suc (suc (suc zero))))) status = status ≡ WriteFault
IsOfCode (suc (suc (suc (suc (suc (suc zero)))))) status = status ≡ NoMemory
IsOfCode (suc (suc (suc (suc (suc (suc (suc zero))))))) status = status ≡ TooLong
IsOfCode (suc (suc (suc (suc (suc (suc (suc (suc n)))))))) status = (row : ℕ) × (why : DeckWhy) × (status ≡ BadRow row why)

-- Each status is the one of its own code.
is_of_its_code : (status : Status) → IsOfCode (code_of status) status
is_of_its_code Done = refl
is_of_its_code Usage = refl
is_of_its_code (BadLine fault) = (fault, refl)
is_of_its_code ReadFault = refl
is_of_its_code WriteFault = refl
is_of_its_code NoMemory = refl
is_of_its_code TooLong = refl
is_of_its_code (BadRow row why) = (row, why, refl)

-- So it is of a code that is its own.
pub is_of_code : (n : ℕ) (status : Status) → code_of status ≡ n → IsOfCode n status
is_of_code n status code = subst (λ (m : ℕ). IsOfCode m status) code (is_of_its_code status)

-- ---- what words of the form say of an end

-- The program ended so, by words of the form.
record EndedAs (found : Option Settings) (status : Status) (o : Outside) (after : Tree) : Type 0 where
  pub settings : Settings
  pub form : found ≡ Some settings
  pub end : EndsAs settings status o after

-- They are of the form where the status isn't one of a refusal.
formed : (found : Option Settings) (status : Status) (o : Outside) (after : Tree)
    → (code_of status ≡ 2 → ⊥) → (code_of status ≡ 6 → ⊥) → HasEnded found status o after → EndedAs found status o after
formed None status o after usage memory (inl is) = absurd (usage (ap code_of is))
formed None status o after usage memory (inr is) = absurd (memory (ap code_of is))
formed (Some settings) status o after usage memory ended = record { settings = settings; form = refl; end = ended }

-- A status that is no refusal was given by words of the form, and says how the program ended.
ended_as : (other : Status) (found : Option Settings) (status : Status) (o : Outside) (after : Tree)
    → (code_of other ≡ 2 → ⊥) → (code_of other ≡ 6 → ⊥) → status ≡ other → HasEnded found status o after → EndedAs found other o after
ended_as other found status o after usage memory is ended = formed found other o after usage memory (subst (λ (s : Status). HasEnded found s o after) is ended)

-- What holds for the settings that were found holds where some were.
where_some : (P : Settings → Type 0) (found : Option Settings) (settings : Settings) → found ≡ Some settings → P settings → IfSome found P
where_some P found settings is p = subst (λ (x : Option Settings). IfSome x P) (sym is) p

-- 0: what the mode writes was taken, the source was read to its end, and no more steps were counted than all batches may take.
pub done_ended : (found : Option Settings) (status : Status) (o : Outside) (after : Tree) → HasEnded found status o after → code_of status ≡ 0
    → IfSome found (λ settings. IsDone settings.mode settings o.left o.taken o.now after) × IfSome found (λ settings. IsReadWhole settings.mode o.rest)
    × IfSome found (λ settings. TookFew settings.mode settings o.left o.steps_before o.steps_now)
done_ended found status o after ended code =
    let end = ended_as Done found status o after (λ e. omega (arith, e)) (λ e. omega (arith, e)) (is_of_code 0 status code) ended in (
      where_some _ found end.settings end.form end.end.0,
      where_some _ found end.settings end.form end.end.1,
      where_some _ found end.settings end.form end.end.4,
    )

-- 3: the script's first faulty line.
pub line_ended : (found : Option Settings) (status : Status) (o : Outside) (after : Tree) → HasEnded found status o after → code_of status ≡ 3
    → (fault : LineFault) × (status ≡ BadLine fault) × IfSome found (λ settings. (settings.mode ≡ Replay) × HasBadLine settings fault o after)
line_ended found status o after ended code =
    let bad : (fault : LineFault) × (status ≡ BadLine fault) = is_of_code 3 status code in
    let end = ended_as (BadLine bad.0) found status o after (λ e. omega (arith, e)) (λ e. omega (arith, e)) bad.1 ended in
    let Bad : Settings → Type 0 = λ settings. (settings.mode ≡ Replay) × HasBadLine settings bad.0 o after in
    let said : Bad end.settings = (end.end.0, end.end.1) in
    (bad.0, bad.1, where_some Bad found end.settings end.form said)

-- 4: the source failed.
pub read_ended : (found : Option Settings) (status : Status) (o : Outside) (after : Tree) → HasEnded found status o after → code_of status ≡ 4
    → Rose o.reads_before o.reads_now
    × IfSome found (λ settings. (read : List ℕ) × Consumes o.left o.rest read × IsCutShort settings.mode settings read o.taken o.now after)
read_ended found status o after ended code =
    let end = ended_as ReadFault found status o after (λ e. omega (arith, e)) (λ e. omega (arith, e)) (is_of_code 4 status code) ended in
    (end.end.0, where_some _ found end.settings end.form end.end.1)

-- 5: the sink failed, and what was taken begins what all that was read would give.
pub write_ended : (found : Option Settings) (status : Status) (o : Outside) (after : Tree) → HasEnded found status o after → code_of status ≡ 5
    → Rose o.writes_before o.writes_now × IfSome found (λ settings. HasFailed settings.mode settings o)
write_ended found status o after ended code =
    let end = ended_as WriteFault found status o after (λ e. omega (arith, e)) (λ e. omega (arith, e)) (is_of_code 5 status code) ended in
    (end.end.0, where_some _ found end.settings end.form end.end.1)

-- 7: the source has too many bytes, of which more were read than are taken.
pub long_ended : (found : Option Settings) (status : Status) (o : Outside) (after : Tree) → HasEnded found status o after → code_of status ≡ 7
    → HasReadPast o.left o.rest × IfSome found (λ settings. IsLong settings.mode settings o.left o.taken o.now after)
long_ended found status o after ended code =
    let end = ended_as TooLong found status o after (λ e. omega (arith, e)) (λ e. omega (arith, e)) (is_of_code 7 status code) ended in
    (end.end.0, where_some _ found end.settings end.form end.end.1)

-- 8: the deck's first faulty record, of a deck that was read to its end.
pub row_ended : (found : Option Settings) (status : Status) (o : Outside) (after : Tree) → HasEnded found status o after → code_of status ≡ 8
    → (row : ℕ) × (why : DeckWhy) × (status ≡ BadRow row why)
    × IfSome found (λ settings. (settings.mode ≡ Deck) × IfSome o.left (λ b. IsBadDeck b row why) × IsAtEnd o.rest)
row_ended found status o after ended code =
    let bad : (row : ℕ) × (why : DeckWhy) × (status ≡ BadRow row why) = is_of_code 8 status code in
    let end = ended_as (BadRow bad.0 bad.1) found status o after (λ e. omega (arith, e)) (λ e. omega (arith, e)) bad.2 ended in
    let Bad : Settings → Type 0 = λ settings. (settings.mode ≡ Deck) × IfSome o.left (λ b. IsBadDeck b bad.0 bad.1) × IsAtEnd o.rest in
    let said : Bad end.settings = (end.end.0, end.end.1, end.end.2) in
    (bad.0, bad.1, bad.2, where_some Bad found end.settings end.form said)

-- 6: the run was stopped for want of memory.
pub stop_ended : (found : Option Settings) (status : Status) (o : Outside) (after : Tree)
    → HasEnded found status o after → code_of status ≡ 6 → IfSome found (λ settings. HasStopped settings.mode settings o)
stop_ended None status o after ended code = tt
stop_ended (Some settings) status o after ended code = (subst (λ (s : Status). EndsAs settings s o after) (is_of_code 6 status code) ended).1

-- The sink counted a fault at WriteFault alone.
written_as : (settings : Settings) (status : Status) (o : Outside) (after : Tree) → EndsAs settings status o after → (code_of status ≡ 5 → ⊥) → KeepsWrites o
written_as settings Done o after ended other = ended.3
written_as settings Usage o after ended other = absurd ended
written_as settings (BadLine fault) o after ended other = ended.3
written_as settings ReadFault o after ended other = ended.2
written_as settings WriteFault o after ended other = absurd (other refl)
written_as settings NoMemory o after ended other = ended.0
written_as settings TooLong o after ended other = ended.3
written_as settings (BadRow row why) o after ended other = ended.5

-- So it was at 5 alone, where words that aren't of the form leave it as it was.
pub written_ended : (found : Option Settings) (status : Status) (o : Outside) (after : Tree)
    → HasEnded found status o after → (found ≡ None → KeepsWrites o) → (code_of status ≡ 5 → ⊥) → KeepsWrites o
written_ended None status o after ended unformed other = unformed refl
written_ended (Some settings) status o after ended unformed other = written_as settings status o after ended other

-- 0, 7 and 8: the source counted none.
pub unfailed_ended : (found : Option Settings) (status : Status) (o : Outside) (after : Tree)
    → HasEnded found status o after → (found ≡ None → KeepsReads o) → (code_of status ≡ 0) ⊎ (code_of status ≡ 7) ⊎ (code_of status ≡ 8) → KeepsReads o
unfailed_ended None status o after ended unformed code = unformed refl
unfailed_ended (Some settings) status o after ended unformed (inl done) =
    (subst (λ (s : Status). EndsAs settings s o after) (is_of_code 0 status done) ended).2
unfailed_ended (Some settings) status o after ended unformed (inr (inl long)) =
    (subst (λ (s : Status). EndsAs settings s o after) (is_of_code 7 status long) ended).2
unfailed_ended (Some settings) status o after ended unformed (inr (inr bad)) =
    let row : (row : ℕ) × (why : DeckWhy) × (status ≡ BadRow row why) = is_of_code 8 status bad in
    (subst (λ (s : Status). EndsAs settings s o after) row.2 ended).4

-- 2 comes where the words aren't of the form.
pub usage_ended : (found : Option Settings) (status : Status) (o : Outside) (after : Tree) → HasEnded found status o after → code_of status ≡ 2 → found ≡ None
usage_ended None status o after ended code = refl
usage_ended (Some settings) status o after ended code = absurd (subst (λ (s : Status). EndsAs settings s o after) (is_of_code 2 status code) ended)

-- Where the words aren't of the form there is 2 or 6.
pub refused_ended : (found : Option Settings) (status : Status) (o : Outside) (after : Tree)
    → HasEnded found status o after → found ≡ None → (code_of status ≡ 2) ⊎ (code_of status ≡ 6)
refused_ended None status o after (inl is) none = inl (ap code_of is)
refused_ended None status o after (inr is) none = inr (ap code_of is)
refused_ended (Some settings) status o after ended none = cc

-- ---- without a fault

-- In every mode there are 0 and 6: this is 0.
done_in : (mode : Mode) → EndsUnfailed mode 0
done_in Replay = inl refl
done_in Deck = inl refl
done_in Gen = inl refl

-- and this is 6
memory_in : (mode : Mode) → EndsUnfailed mode 6
memory_in Replay = inr (inr (inl refl))
memory_in Deck = inr (inl refl)
memory_in Gen = inr refl

-- 7 comes in the modes that read.
long_in : (mode : Mode) (settings : Settings) (left old new : Option (List ℕ)) (after : Tree) → IsLong mode settings left old new after → EndsUnfailed mode 7
long_in Replay settings left old new after long = inr (inr (inr refl))
long_in Deck settings left old new after long = inr (inr (inl refl))
long_in Gen settings left old new after long = absurd long

-- Where neither the source nor the sink failed, the status is among those of the mode.
ended_unfailed : (settings : Settings) (status : Status) (o : Outside) (after : Tree) → EndsAs settings status o after
    → o.reads_now ≡ o.reads_before → o.reads_before < 2 ^ 64 - 1 → o.writes_now ≡ o.writes_before → o.writes_before < 2 ^ 64 - 1 → EndsUnfailed settings.mode (code_of status)
ended_unfailed settings Done o after ended r0 r1 w0 w1 = done_in settings.mode
ended_unfailed settings Usage o after ended r0 r1 w0 w1 = absurd ended
ended_unfailed settings (BadLine fault) o after ended r0 r1 w0 w1 = subst (λ (m : Mode). EndsUnfailed m 3) (sym ended.0) (inr (inl refl))
ended_unfailed settings ReadFault o after ended r0 r1 w0 w1 = absurd (omega (arith, ended.0, r0, r1))
ended_unfailed settings WriteFault o after ended r0 r1 w0 w1 = absurd (omega (arith, ended.0, w0, w1))
ended_unfailed settings NoMemory o after ended r0 r1 w0 w1 = memory_in settings.mode
ended_unfailed settings TooLong o after ended r0 r1 w0 w1 = long_in settings.mode settings o.left o.taken o.now after ended.1
ended_unfailed settings (BadRow row why) o after ended r0 r1 w0 w1 = subst (λ (m : Mode). EndsUnfailed m 8) (sym ended.0) (inr (inr (inr refl)))

-- Where nothing failed, each mode has its ends.
pub complete_ended : (found : Option Settings) (status : Status) (o : Outside) (after : Tree) (code : ℕ) → code ≡ code_of status → HasEnded found status o after
    → IfSome found (λ settings.
    o.reads_now ≡ o.reads_before → o.reads_before < 2 ^ 64 - 1 → o.writes_now ≡ o.writes_before → o.writes_before < 2 ^ 64 - 1 → EndsUnfailed settings.mode code)
complete_ended None status o after code is ended = tt
complete_ended (Some settings) status o after code is ended = λ r0 r1 w0 w1. subst (EndsUnfailed settings.mode) (sym is) (ended_unfailed settings status o after ended r0 r1 w0 w1)
