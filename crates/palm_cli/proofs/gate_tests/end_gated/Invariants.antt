use Rattle.palm_cli.proofs.gate_tests.end_gated.Given as goal

-- the counter is that of the blank
abbrev pub ghosts-run_gated : goal.ghosts-run_gated
ghosts-run_gated g a = record { name = a.blank.name; parts = a.blank.parts }
