use Rattle.palm_base.proofs.OrphanSorts.{sorted_rows_are_the_table, any_sort_makes_the_orphans}
use Rattle.palm_base.proofs.tree_laws.any_sort_makes_the_orphans.Goals as goal

pub returns-clause-table : goal.returns-clause-table
returns-clause-table c = sorted_rows_are_the_table

pub returns-clause-orphans : goal.returns-clause-orphans
returns-clause-orphans c = any_sort_makes_the_orphans
