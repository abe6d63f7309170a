use Rattle.palm_batch.proofs.stage_tests.assert_left.Given as goal

-- the counter is that of the blank
abbrev pub ghosts-passed : goal.ghosts-passed
ghosts-passed g a = record { name = a.blank.name; parts = a.blank.parts }
