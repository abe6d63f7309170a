use Rattle.palm_arena.proofs.tests.offers_a_free_id_again_after_a_rollback.Given as goal

-- the counter is that of the blank
abbrev pub ghosts-offer_again : goal.ghosts-offer_again
ghosts-offer_again g a = record { name = a.blank.name; parts = a.blank.parts }
