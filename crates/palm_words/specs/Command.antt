-- The command that `clap` reads the words by, and what is read of what it found.
use Rattle.std.specs.Prelude.{List, Option, Some, true, codes, ◌∷◌, [], ◌++◌, map, option_to_list}
use Rattle.clap.specs.Walk.{Rule}
use Rattle.clap.specs.Simple.{App, new_app, new_rule, on_top}
use Rattle.clap.specs.Words.{first_value}
use Rattle.clap.specs.declared.builder.action.ArgAction.TheVariants.{Set}
use Rattle.clap.specs.declared.parser.matches.Found.{Found}
use Rattle.palm_words.specs.Items.{Text}
use Rattle.palm_words.specs.Settings.{option_names, set_by}
use Rattle.palm_words.specs.declared.settings.Settings.{Settings}

-- ---- the command

-- An option of this name, with a VALUE. So that of "batch" is `--batch VALUE`.
abbrev pub option_rule : Text → Rule
option_rule name = record (new_rule name) { long = Some name; action = Some Set }

-- The mode word, which must stand. So its id is "mode", and it has no `--NAME`.
abbrev pub mode_rule : Rule
mode_rule = record (new_rule (codes "mode")) { required = true; action = Some Set }

-- A command with these arguments, and with nothing that `clap` adds by itself.
-- So with the mode word alone it has one argument, and no `--help`.
abbrev pub command_with : List Rule → App
command_with rules = on_top (λ s. record s { rules = rules; no_binary_name = true; disable_help_flag = true; disable_version_flag = true }) (new_app (codes "palm"))

-- A command with options of these names, and one mode word. So of "batch" it has `--batch VALUE` and the mode word.
abbrev pub command_for : List Text → App
command_for names = command_with (map option_rule names ++ mode_rule ∷ [])

-- The command for the options that there are. So it has seven arguments: six from `--workers VALUE` to `--calls VALUE`, and the
-- mode word.
abbrev pub palm_command : App
palm_command = command_for option_names

-- ---- what was found

-- The VALUE that was found under this name, or none.
-- So where "4" was found under "batch" alone, "batch" has "4", and "seed" has none.
abbrev pub found_values : Found → Text → List Text
found_values found name = option_to_list (first_value found name)

-- What was found sets, as VALUEs and mode words do.
-- So where "deck" was found as the mode and "4" under "batch", it sets the mode Deck and the batch 4.
abbrev pub set_by_matches : Found → Option Settings
set_by_matches found = set_by (found_values found (codes "mode")) (found_values found)
