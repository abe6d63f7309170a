use Rattle.palm_engine.proofs.tests.a_refused_batch_leaves_the_shape_of_before.Given as goal

-- the counter is that of the blank
abbrev pub ghosts-grown_and_felled : goal.ghosts-grown_and_felled
ghosts-grown_and_felled g a = record { name = a.blank.name; parts = a.blank.parts }
