use Rattle.palm_tree.proofs.tree.Tree.build.Given as goal

-- the counter is that of the blank
abbrev pub ghosts-grow : goal.ghosts-grow
ghosts-grow a = record { name = a.blank.name; parts = a.blank.parts }
