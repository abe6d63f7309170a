use Rattle.palm_batch.proofs.stage_tests.two_workers_come_through_a_whole_batch_beside_each_other.Given as goal

-- the counter is that of the blank
abbrev pub ghosts-replied : goal.ghosts-replied
ghosts-replied g a = record { name = a.blank.name; parts = a.blank.parts }
