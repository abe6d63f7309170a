-- Replies stand in the places of their entries.
use Rattle.std.proofs.Common.{zero, suc, [], ◌∷◌, refl, ap}
use Rattle.palm_base.specs.Table.{after}
use Rattle.palm_base.specs.Laws.{RepliesStandInPlace, RepliesAreAsMany}

pub replies_stand_in_place : RepliesStandInPlace
replies_stand_in_place rows [] n entry h = cc
replies_stand_in_place rows (first ∷ entries) zero entry h = cc
replies_stand_in_place rows (first ∷ entries) (suc n) entry h = replies_stand_in_place (after rows first.call) entries n entry h

pub replies_are_as_many : RepliesAreAsMany
replies_are_as_many rows [] = refl
replies_are_as_many rows (entry ∷ entries) = ap suc (replies_are_as_many (after rows entry.call) entries)
