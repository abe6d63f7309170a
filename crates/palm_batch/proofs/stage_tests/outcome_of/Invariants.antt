use Rattle.palm_batch.proofs.stage_tests.outcome_of.Given as goal

-- the counter is that of the blank
abbrev pub ghosts-staged : goal.ghosts-staged
ghosts-staged g a = record { name = a.blank.name; parts = a.blank.parts }
