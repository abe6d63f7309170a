use Rattle.palm_cli.proofs.main.Given as goal

-- the counter is that of the blank
abbrev pub ghosts-start : goal.ghosts-start
ghosts-start g a = record { name = a.blank.name; parts = a.blank.parts }
