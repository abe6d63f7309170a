use Rattle.palm_engine.proofs.tests.two_workers_run_a_batch_beside_each_other.Given as goal

-- the counter is that of the blank
abbrev pub ghosts-run_gated : goal.ghosts-run_gated
ghosts-run_gated g a = record { name = a.blank.name; parts = a.blank.parts }
