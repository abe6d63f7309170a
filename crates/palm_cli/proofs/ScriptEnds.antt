-- How the mode `replay` ends, by what was read of its script and whether all of that was run.
use Rattle.std.proofs.Common.{◌≡◌, ℕ, ◌+◌, ◌≤◌, Bool, List, [], length, Option, Some, None, refl, sym, ap, subst, ◌∙◌, arith}
use Rattle.std.specs.Prelude.{◌&&◌, is_none}
use Rattle.std.specs.Io.KnownBytes.{Appends}
use Rattle.palm_base.specs.Tree.{Tree}
use Rattle.palm_base.specs.declared.call.Entry.{Entry}
use Rattle.palm_script.specs.Causes.{Rose}
use Rattle.palm_script.specs.Input.{IsRead, is_whole}
use Rattle.palm_script.specs.Laws.{FaultsStand}
use Rattle.palm_script.specs.Script.{Outcome, Says, script_of, entries_from}
use Rattle.palm_script.specs.Transcript.{Section, sections_by, after_run}
use Rattle.palm_script.specs.declared.input.InputEnd.{InputEnd}
use Rattle.palm_script.specs.declared.input.InputEnd.TheVariants.{Whole, Failed, Long}
use Rattle.palm_script.specs.declared.input.TheConstants.{MOST_BYTES}
use Rattle.palm_script.specs.declared.line.LineFault.{LineFault}
use Rattle.palm_script.specs.declared.script.Script.{Script}
use Rattle.palm_words.specs.declared.settings.Mode.TheVariants.{Replay}
use Rattle.palm_words.specs.declared.settings.Settings.{Settings}
use Rattle.palm_cli.specs.Costs.{run_cost}
use Rattle.palm_cli.specs.Ends.{Outside, EndsIn, KeepsWrites}
use Rattle.palm_cli.specs.Scripts.{run_of}
use Rattle.palm_cli.specs.Statuses.{is_done}
use Rattle.palm_cli.specs.Stops.{ended_by, status_of}
use Rattle.palm_cli.specs.Streams.{AppendsFront, text_to}
use Rattle.palm_cli.specs.declared.stop.Stop.{Stop}
use Rattle.palm_cli.specs.declared.stop.Stop.TheVariants.{Memory, Write}
use Rattle.palm_cli.proofs.Outcomes.{Ran, run_ends}
use Rattle.palm_cli.proofs.Statuses.{stop_ends}
use Rattle.palm_cli.proofs.Stopped.{stopped, text_read}

-- All went well where the script has no faulty line and its source was read to its end.
pub finished_by : (fault : Option LineFault) (end : InputEnd) → is_done (ended_by fault end) ≡ (is_whole end && is_none fault)
finished_by (Some fault) Whole = refl
finished_by (Some fault) Failed = refl
finished_by (Some fault) Long = refl
finished_by None Whole = refl
finished_by None Failed = refl
finished_by None Long = refl

-- The run of a script that was read, by the entries and the ends that it has.
abbrev pub run_read : Settings → Script → List Section
run_read settings script = sections_by settings.batch script.entries.items script.ends.items

-- It is the run of what the script says.
said_run : (settings : Settings) (outcome : Outcome) (script : Script) → Says outcome script → run_read settings script ≡ run_of settings outcome
said_run settings outcome script says =
    ap (λ (entries : List Entry). sections_by settings.batch entries script.ends.items) says.entries ∙ ap (sections_by settings.batch (entries_from [] outcome.items)) says.ends

-- Its transcript is that of the bytes that were read: something stands at the end where they were read whole, and no line has a fault.
said_text : (settings : Settings) (bytes : List ℕ) (end : InputEnd) (script : Script) (ends : Bool) → Says (script_of bytes (is_whole end)) script
    → ends ≡ is_whole end && is_none script.fault → text_to settings.dump ends (run_read settings script) ≡ text_read settings bytes end
said_text settings bytes end script ends says finished =
    let outcome : Outcome = script_of bytes (is_whole end) in
    let finish : ends ≡ is_whole end && is_none outcome.fault = finished ∙ ap (λ (fault : Option LineFault). is_whole end && is_none fault) says.fault in
    ap (λ (e : Bool). text_to settings.dump e (run_read settings script)) finish
    ∙ ap (text_to settings.dump (is_whole end && is_none outcome.fault)) (said_run settings outcome script says)

-- All was run.
pub script_ends : FaultsStand → (settings : Settings) (o : Outside) (bytes : List ℕ) (end : InputEnd) (script : Script) (ends : Bool) (after : Tree)
    → IsRead o.left o.rest o.reads_before o.reads_now bytes end → length bytes ≤ MOST_BYTES → Says (script_of bytes (is_whole end)) script
    → ends ≡ is_whole end && is_none script.fault → Appends o.taken o.now (text_to settings.dump ends (run_read settings script))
    → after ≡ (after_run (run_read settings script)).tree → o.writes_now ≡ o.writes_before → o.steps_now ≤ o.steps_before + run_cost (run_read settings script)
    → EndsIn Replay settings (ended_by script.fault end) o after
script_ends stands settings o bytes end script ends after read most says finished text tree kept few =
    let same = said_run settings (script_of bytes (is_whole end)) script says in
    let ran : Ran settings o bytes end after = record {
      read = read;
      most = most;
      text = subst (Appends o.taken o.now) (said_text settings bytes end script ends says finished) text;
      tree = tree ∙ ap (λ (run : List Section). (after_run run).tree) same;
    } in
    run_ends stands settings o bytes end after ran kept (omega (arith, few, ap run_cost same)) script.fault (sym says.fault)

-- It stopped before its end.
pub script_stops : (settings : Settings) (stop : Stop) (o : Outside) (bytes : List ℕ) (end : InputEnd) (script : Script) (ends : Bool) (after : Tree)
    → IsRead o.left o.rest o.reads_before o.reads_now bytes end → length bytes ≤ MOST_BYTES → Says (script_of bytes (is_whole end)) script
    → ends ≡ is_whole end && is_none script.fault → AppendsFront o.taken o.now (text_to settings.dump ends (run_read settings script))
    → (stop ≡ Write → Rose o.writes_before o.writes_now) → (stop ≡ Memory → KeepsWrites o) → EndsIn Replay settings (status_of stop) o after
script_stops settings stop o bytes end script ends after read most says finished front rose kept =
    let begun = subst (AppendsFront o.taken o.now) (said_text settings bytes end script ends says finished) front in
    let read_so = stopped settings o.left o.rest o.taken o.now o.reads_before o.reads_now bytes end read most begun in
    stop_ends Replay settings stop o after rose kept read_so read_so
