use Rattle.palm_arena.proofs.tests.uses_ids_again.Given as goal

-- the counter is that of the blank
abbrev pub ghosts-use_again : goal.ghosts-use_again
ghosts-use_again g a = record { name = a.blank.name; parts = a.blank.parts }
