use Rattle.palm_route.proofs.tests.parts_are_routed_in_a_share_for_each_worker_that_has_one.Given as goal

-- the counter is that of the blank
abbrev pub ghosts-empty_tree : goal.ghosts-empty_tree
ghosts-empty_tree g a = record { name = a.blank.name; parts = a.blank.parts }
