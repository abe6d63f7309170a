use Rattle.std.proofs.Common.{rules}
use Rattle.std.proofs.lemmas.List.Sorted.{IsNonDecreasingBy-from_sort_by_key}
use Rattle.palm_base.specs.Table.{row_key}
use Rattle.palm_root.proofs.removal.sort_rows.Goals as goal

pub returns-clause-sorted : goal.returns-clause-sorted
returns-clause-sorted c = IsNonDecreasingBy-from_sort_by_key row_key c.sort_unstable_by_key.new.self c.sort_unstable_by_key.ensures.sorted (λ a r f h. search rules)
