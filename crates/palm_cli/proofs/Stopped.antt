-- A run that stopped, by how far its script was read.
use Rattle.std.proofs.Common.{◌≡◌, ℕ, ◌≤◌, true, false, cond, inl, inr, List, ◌++◌, length, take, Option, Some, None, sym, subst, ◌∙◌, arith}
use Rattle.std.specs.Prelude.{◌&&◌, is_none, is_some}
use Rattle.std.specs.Io.KnownBytes.{Consumes}
use Rattle.std.proofs.KnownBytes.{Appends-nil}
use Rattle.std.proofs.lemmas.List.{take-append-le, take_all}
use Rattle.palm_script.specs.Input.{IsRead, is_whole}
use Rattle.palm_script.specs.Script.{Outcome, script_of}
use Rattle.palm_script.specs.declared.input.TheConstants.{MOST_BYTES}
use Rattle.palm_script.specs.declared.input.InputEnd.{InputEnd}
use Rattle.palm_script.specs.declared.input.InputEnd.TheVariants.{Whole, Failed, Long}
use Rattle.palm_words.specs.declared.settings.Mode.{Mode}
use Rattle.palm_words.specs.declared.settings.Mode.TheVariants.{Replay, Deck, Gen}
use Rattle.palm_words.specs.declared.settings.Settings.{Settings}
use Rattle.palm_cli.specs.Ends.{IsStopped}
use Rattle.palm_cli.specs.Generated.{summary_said}
use Rattle.palm_cli.specs.Scripts.{run_of, text_said, final_said, all_said, IsStoppedScript}
use Rattle.palm_cli.specs.Streams.{AppendsFront, text_to}
use Rattle.palm_cli.proofs.Fronts.{front_none}

-- a front of a text that has as many bytes
pub taken_back : (most : ℕ) (bytes more : List ℕ) → length bytes ≤ most → length bytes ≡ most → take most (bytes ++ more) ≡ bytes
taken_back most bytes more few size = take-append-le most bytes more (omega (arith, size)) ∙ take_all most bytes few

-- The transcript of what was read of a script, as far as it is written: with what stands at the end where the source ended
-- there, and no line has a fault.
abbrev pub text_read : Settings → (bytes : List ℕ) → InputEnd → List ℕ
text_read settings bytes end =
    text_to settings.dump (is_whole end && is_none (script_of bytes (is_whole end)).fault) (run_of settings (script_of bytes (is_whole end)))

-- What was read to the end of the source has all of its script's transcript.
all_front : (settings : Settings) (outcome : Outcome) (old new : Option (List ℕ))
    → AppendsFront old new (text_to settings.dump (true && is_none outcome.fault) (run_of settings outcome)) → AppendsFront old new (all_said settings outcome)
all_front settings outcome old new took =
    elim outcome.fault as (λ f. AppendsFront old new (text_to settings.dump (true && is_none f) (run_of settings outcome))
    → AppendsFront old new (cond (is_some f) (text_said settings outcome) (final_said settings outcome))) [
      | None ↦ λ t. t
      | Some fault ↦ λ t. t
    ] took

-- What was taken of the transcript of what was read.
pub stopped : (settings : Settings) (left rest old new : Option (List ℕ)) (before now : ℕ) (bytes : List ℕ) (end : InputEnd)
    → IsRead left rest before now bytes end → length bytes ≤ MOST_BYTES → AppendsFront old new (text_read settings bytes end)
    → (read : List ℕ) × Consumes left rest read × IsStoppedScript settings read rest old new
stopped settings left rest old new before now bytes Whole read most took = (bytes, read.0, inr (read.1, most, all_front settings (script_of bytes true) old new took))
stopped settings left rest old new before now bytes Failed read most took = (
  bytes,
  read.0,
  inl (subst (λ (l : List ℕ). AppendsFront old new (text_said settings (script_of l false))) (sym (take_all MOST_BYTES bytes most)) took),
)
stopped settings left rest old new before now bytes Long read most took = (
  bytes ++ read.0,
  read.1,
  inl (subst (λ (l : List ℕ). AppendsFront old new (text_said settings (script_of l false))) (sym (taken_back MOST_BYTES bytes read.0 most read.2)) took),
)

-- Nothing was taken.
pub stopped_at_once : (mode : Mode) (settings : Settings) (read : List ℕ) (rest old : Option (List ℕ)) → IsStopped mode settings read rest old old
stopped_at_once Replay settings read rest old = inl (front_none old (text_said settings (script_of (take MOST_BYTES read) false)))
stopped_at_once Deck settings read rest old = inl (Appends-nil old)
stopped_at_once Gen settings read rest old = front_none old (summary_said settings)
