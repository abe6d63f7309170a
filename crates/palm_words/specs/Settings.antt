-- Which words after the program's name are of the form, and what they set.
use Rattle.std.specs.Prelude.{ℕ, ◌≤◌, Bool, true, false, if◌then◌else◌, List, [], ◌∷◌, map, codes, Option, Some, None, is_some, option_and_then, unwrap_or}
use Rattle.std.specs.List.{list_all}
use Rattle.std.specs.Map.{lookup}
use Rattle.std.specs.Str.{bytes_eq}
use Rattle.palm_base.specs.Numbers.{value_of, is_from_to}
use Rattle.palm_share.specs.declared.share.TheConstants.{MOST_WORKERS}
use Rattle.palm_gen.specs.declared.summary.TheConstants.{MOST_GENERATED_CALLS}
use Rattle.palm_words.specs.Items.{Text, items_from, values_of, mode_words}
use Rattle.palm_words.specs.declared.settings.TheConstants.{MOST_BATCH, MOST_WINDOW, MOST_SEED, DEFAULT_WORKERS, DEFAULT_BATCH, DEFAULT_WINDOW, DEFAULT_SEED, DEFAULT_GENERATED_CALLS}
use Rattle.palm_words.specs.declared.settings.Settings.{Settings}
use Rattle.palm_words.specs.declared.settings.Mode.{Mode}
use Rattle.palm_words.specs.declared.settings.Mode.TheVariants.{Replay, Deck, Gen}
use Rattle.palm_script.specs.declared.dump.DumpWhen.{DumpWhen}
use Rattle.palm_script.specs.declared.dump.DumpWhen.TheVariants.{Never, AtEnd, Always}
use Rattle.palm_words.specs.declared.words.WordsFault.{WordsFault}
use Rattle.palm_words.specs.declared.words.WordsFault.TheVariants.{Usage, NoMemory}

-- ---- what there is

-- The modes, by their words. So "replay" stands for Replay, "deck" for Deck and "gen" for Gen.
abbrev pub modes : List (Text × Mode)
modes = (codes "replay", Replay) ∷ (codes "deck", Deck) ∷ (codes "gen", Gen) ∷ []

-- What the VALUEs of `dump` say. So "end" stands for AtEnd, and "all" for Always.
abbrev pub dumps : List (Text × DumpWhen)
dumps = (codes "none", Never) ∷ (codes "end", AtEnd) ∷ (codes "all", Always) ∷ []

-- The mode that a word names. So "replay" names Replay, and "Replay" names none.
abbrev pub mode_named : Text → Option Mode
mode_named word = lookup (bytes_eq word) modes

-- What a VALUE of `dump` says. So "end" says AtEnd.
abbrev pub dump_named : Text → Option DumpWhen
dump_named value = lookup (bytes_eq value) dumps

-- A VALUE that `dump` may have. So "end" is one, and "End" isn't.
abbrev pub is_dump : Text → Bool
is_dump value = is_some (dump_named value)

-- The options, by their names, and which VALUEs they may have. So batch may have "65536", and not "0".
abbrev pub options : List (Text × (Text → Bool))
options =
    (codes "workers", is_from_to 1 MOST_WORKERS)
    ∷ (codes "batch", is_from_to 1 MOST_BATCH)
    ∷ (codes "window", is_from_to 1 MOST_WINDOW)
    ∷ (codes "dump", is_dump)
    ∷ (codes "seed", is_from_to 0 MOST_SEED)
    ∷ (codes "calls", is_from_to 0 MOST_GENERATED_CALLS)
    ∷ []

-- The names of the options. So they are "workers", "batch", "window", "dump", "seed" and "calls".
abbrev pub option_names : List Text
option_names = map (λ o. o.0) options

-- ---- what they set

-- There is no VALUE, or one that the option may have. So two are too many, also where they are the same.
abbrev pub at_most_one : (Text → Bool) → List Text → Bool
at_most_one is_good [] = true
at_most_one is_good (value ∷ []) = is_good value
at_most_one is_good (value ∷ more ∷ rest) = false

-- Each option stands at most once, with a VALUE that it may have. The VALUEs are given by the names.
-- So they are with "4" for batch alone, and aren't with "4" twice, or with "0".
abbrev pub are_good : (Text → List Text) → Bool
are_good values = list_all (λ o. at_most_one o.1 (values o.0)) options

-- The mode, where there is one mode word and it names one. So "replay", "replay" set none.
abbrev pub one_mode : List Text → Option Mode
one_mode [] = None
one_mode (word ∷ []) = mode_named word
one_mode (word ∷ more ∷ rest) = None

-- The number of the first VALUE, or the default where there is none. So that of "007" is 7.
abbrev pub number_or : ℕ → List Text → ℕ
number_or default [] = default
number_or default (value ∷ rest) = value_of value

-- What the first VALUE of `dump` says, or the default, Never. So that of "all" is Always.
abbrev pub dump_or_never : List Text → DumpWhen
dump_or_never [] = Never
dump_or_never (value ∷ rest) = unwrap_or (dump_named value) Never

-- The settings by a mode and by VALUEs that are good, with the defaults of the options that don't stand.
-- So those of Replay with "007" for window alone have the window 7, the batch 4,096 and 1 worker.
abbrev pub settings : (Text → List Text) → Mode → Settings
settings values mode = record {
  mode = mode;
  workers = number_or DEFAULT_WORKERS (values (codes "workers"));
  batch = number_or DEFAULT_BATCH (values (codes "batch"));
  window = number_or DEFAULT_WINDOW (values (codes "window"));
  dump = dump_or_never (values (codes "dump"));
  seed = number_or DEFAULT_SEED (values (codes "seed"));
  calls = number_or DEFAULT_GENERATED_CALLS (values (codes "calls"));
}

-- What mode words and the VALUEs of options set, or none where one of them isn't as it may be.
-- So "deck" and "4" for batch set the mode Deck and the batch 4, and "deck", "gen" set nothing.
abbrev pub set_by : List Text → (Text → List Text) → Option Settings
set_by words values = option_and_then (λ mode. if are_good values then Some (settings values mode) else None) (one_mode words)

-- What words set, or none where they aren't of the form. So "--batch=4", "replay" set the mode Replay and the batch 4, and
-- all else to its default.
abbrev pub settings_of : List Text → Option Settings
settings_of words = option_and_then (λ items. set_by (mode_words items) (values_of items)) (items_from option_names None words)

-- Each number is between its bounds. A seed may be any that there is. So the batch 65,536 is, and 0 and 65,537 aren't.
pub record AreWithin (s : Settings) : Type 0 where
  pub some_workers : 1 ≤ s.workers
  pub few_workers : s.workers ≤ MOST_WORKERS
  pub some_batch : 1 ≤ s.batch
  pub few_batch : s.batch ≤ MOST_BATCH
  pub some_window : 1 ≤ s.window
  pub few_window : s.window ≤ MOST_WINDOW
  pub few_calls : s.calls ≤ MOST_GENERATED_CALLS

-- What a fault is called. So Usage is "usage", and NoMemory is "no memory".
abbrev pub fault_text : WordsFault → List ℕ
fault_text Usage = codes "usage"
fault_text NoMemory = codes "no memory"
