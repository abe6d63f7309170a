use Rattle.palm_arena.proofs.tests.keeps_a_batch.Given as goal

-- the counter is that of the blank
abbrev pub ghosts-keep : goal.ghosts-keep
ghosts-keep g a = record { name = a.blank.name; parts = a.blank.parts }
