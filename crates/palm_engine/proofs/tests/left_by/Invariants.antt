use Rattle.palm_engine.proofs.tests.left_by.Given as goal

-- the counter is that of the blank
abbrev pub ghosts-left_with : goal.ghosts-left_with
ghosts-left_with g a = record { name = a.blank.name; parts = a.blank.parts }
