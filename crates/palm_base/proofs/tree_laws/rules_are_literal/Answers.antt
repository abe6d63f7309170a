use Rattle.palm_base.proofs.LiteralPlaces.{edits_go_by_place}
use Rattle.palm_base.proofs.LiteralPasses.{passes_go_by_place}
use Rattle.palm_base.proofs.LiteralTrees.{law_is_literal}
use Rattle.palm_base.proofs.tree_laws.rules_are_literal.Goals as goal

pub returns-clause-places : goal.returns-clause-places
returns-clause-places c = edits_go_by_place

pub returns-clause-passes : goal.returns-clause-passes
returns-clause-passes c = passes_go_by_place

pub returns-clause-lawful : goal.returns-clause-lawful
returns-clause-lawful c = law_is_literal
