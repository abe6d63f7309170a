use Rattle.palm_base.proofs.tests.counts_steps_in_no_bytes.Given as goal

-- the counter is that of the blank
abbrev pub ghosts-ticks_twice : goal.ghosts-ticks_twice
ghosts-ticks_twice g a = record { name = a.blank.name; parts = a.blank.parts }
