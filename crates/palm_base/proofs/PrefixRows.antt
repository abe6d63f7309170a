-- Calls whose Sets are of prefixes leave rows that go by prefixes.
use Rattle.std.proofs.Common.{Bool, not, ◌==◌, List, [], ◌∷◌, map, filter}
use Rattle.std.specs.List.{AllByRecursion}
use Rattle.palm_base.specs.Prefix.{IsPrefix}
use Rattle.palm_base.specs.Key.{key}
use Rattle.palm_base.specs.Table.{row_key, after, after_all}
use Rattle.palm_base.specs.Pass.{set_of}
use Rattle.palm_base.specs.Lows.{PrefixesHold, SetsPrefix}
use Rattle.palm_base.proofs.Tables.{every_put}
use Rattle.palm_base.proofs.Every.{every_filter}
use Rattle.palm_base.specs.declared.row.Row.{Row}
use Rattle.palm_base.specs.declared.call.Call.{Call}
use Rattle.palm_base.specs.declared.call.Call.TheVariants.{Set, Del, Get, Rate, List as Listing}

prefixes_after : (rows : List Row) (call : Call) → PrefixesHold rows → SetsPrefix call → PrefixesHold (after rows call)
prefixes_after rows (Set prefix rate) all sets =
    every_put (λ row. IsPrefix row.prefix) (record { prefix = prefix; rate = rate }) rows sets all
prefixes_after rows (Del prefix) all sets =
    every_filter (λ row. IsPrefix row.prefix) (λ row. IsPrefix row.prefix) (λ row. not (row_key row == key prefix)) (λ row own passes. own) rows all
prefixes_after rows (Get prefix) all sets = all
prefixes_after rows (Rate number) all sets = all
prefixes_after rows (Listing from to limit) all sets = all

pub prefixes_all : (rows : List Row) (calls : List Call) → PrefixesHold rows → AllByRecursion SetsPrefix calls → PrefixesHold (after_all rows calls)
prefixes_all rows [] all sets = all
prefixes_all rows (call ∷ calls) all sets = prefixes_all (after rows call) calls (prefixes_after rows call all sets.0) sets.1

pub sets_prefixes : (rows : List Row) → PrefixesHold rows → AllByRecursion SetsPrefix (map set_of rows)
sets_prefixes [] all = tt
sets_prefixes (row ∷ rows) all = (all.0, sets_prefixes rows all.1)

pub some_calls : (test : Call → Bool) (calls : List Call) → AllByRecursion SetsPrefix calls → AllByRecursion SetsPrefix (filter test calls)
some_calls test = every_filter SetsPrefix SetsPrefix test (λ call sets passes. sets)
