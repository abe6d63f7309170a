use Rattle.palm_arena.proofs.tests.takes_a_batch_back.Given as goal

-- the counter is that of the blank
abbrev pub ghosts-roll_back : goal.ghosts-roll_back
ghosts-roll_back g a = record { name = a.blank.name; parts = a.blank.parts }
