use Rattle.palm_tree.proofs.tree.Tree.new.Given as goal

-- the counter is that of the blank
abbrev pub ghosts-one_leaf : goal.ghosts-one_leaf
ghosts-one_leaf a = record { name = a.blank.name; parts = a.blank.parts }
