use Rattle.palm_arena.proofs.tests.saves_a_node_once.Given as goal

-- the counter is that of the blank
abbrev pub ghosts-lend_twice : goal.ghosts-lend_twice
ghosts-lend_twice g a = record { name = a.blank.name; parts = a.blank.parts }
