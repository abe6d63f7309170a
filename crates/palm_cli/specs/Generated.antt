-- The mode `gen`: the summary of a run of generated calls.
use Rattle.std.specs.Prelude.{◌≡◌, ℕ, List, [], length, Option}
use Rattle.std.specs.Io.KnownBytes.{Appends}
use Rattle.palm_base.specs.History.{replies_to}
use Rattle.palm_base.specs.Tree.{Tree, levels_of}
use Rattle.palm_base.specs.declared.call.Entry.{Entry}
use Rattle.palm_base.specs.declared.row.Row.{Row}
use Rattle.palm_gen.specs.Generator.{generated_history}
use Rattle.palm_gen.specs.Summary.{Counts, hits_in, sum_in, summary_text}
use Rattle.palm_words.specs.declared.settings.Settings.{Settings}
use Rattle.palm_cli.specs.Tables.{table_left, tree_left}

-- The calls that the settings ask for. So for `--calls 3` they are three, from the seed on.
abbrev pub history_said : Settings → List Entry
history_said settings = generated_history settings.seed settings.calls

-- What the replies to a history on the empty table are: how many, how many of them a Hit, and the sum of their rates. So of Set
-- 44 5, Rate 442, Rate 45 they are 3, 1 and 5.
abbrev pub counts_of : List Entry → Counts
counts_of history = record { calls = length history; hits = hits_in (replies_to [] history); sum = sum_in (replies_to [] history) }

-- The summary of such counts, where this table and this tree are left. So for 3, 1 and 5, one row and a leaf alone it is "calls
-- 3", "rows 1", "levels 1", "hits 1" and "sum 5".
abbrev pub summary_by : Counts → List Row → Tree → List ℕ
summary_by counts rows tree = summary_text counts.calls (length rows) (levels_of tree) counts.hits counts.sum

-- The summary of a history that is run in batches of `most` calls. So that of no calls is "calls 0", "rows 0", "levels 1",
-- "hits 0" and "sum 0".
abbrev pub summary_of : ℕ → List Entry → List ℕ
summary_of most history = summary_by (counts_of history) (table_left history) (tree_left most history)

-- The summary of the calls that the settings ask for. So for `--calls 3` it begins with "calls 3".
abbrev pub summary_said : Settings → List ℕ
summary_said settings = summary_of settings.batch (history_said settings)

-- That summary was taken. The tree is the one that the calls leave. So for 3 calls a sink that had "x" has "x" and five lines
-- behind it, the first of which is "calls 3".
pub record IsSummed (settings : Settings) (old new : Option (List ℕ)) (after : Tree) : Type 0 where
  pub text : Appends old new (summary_said settings)
  pub tree : after ≡ tree_left settings.batch (history_said settings)
