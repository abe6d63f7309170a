use Rattle.palm_route.proofs.tests.routes_each_call_to_the_leaf_of_an_empty_tree.Given as goal

-- the counter is that of the blank
abbrev pub ghosts-empty_tree : goal.ghosts-empty_tree
ghosts-empty_tree g a = record { name = a.blank.name; parts = a.blank.parts }
