use Rattle.palm_engine.proofs.tests.a_batch_is_the_front_of_the_roll.Given as goal

-- the counter is that of the blank
abbrev pub ghosts-front_with : goal.ghosts-front_with
ghosts-front_with g a = record { name = a.blank.name; parts = a.blank.parts }
