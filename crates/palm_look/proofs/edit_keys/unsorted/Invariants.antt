use Rattle.std.proofs.Common.{◌≡◌, take}
use Rattle.std.specs.List.{AllByRecursion}
use Rattle.palm_base.specs.Lows.{SetsPrefix}
use Rattle.palm_base.specs.declared.call.Entry.{Entry}
use Rattle.palm_look.specs.EditKeys.{keys_edited}
use Rattle.palm_look.proofs.edit_keys.unsorted.Given as goal

-- the keys of the edits so far, which are of prefixes
abbrev pub invariant-loop-entry : goal.invariant-loop-entry
invariant-loop-entry l = record {
  keys : l.keys.items ≡ keys_edited (take l.entry-index l.batch);
  prefixes : AllByRecursion (λ (entry : Entry). SetsPrefix entry.call) (take l.entry-index l.batch);
}
