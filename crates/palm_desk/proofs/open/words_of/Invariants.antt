use Rattle.std.proofs.Common.{◌≡◌, replicate, ◌∷◌}
use Rattle.palm_desk.proofs.open.words_of.Given as goal

abbrev pub invariant-loop : goal.invariant-loop
invariant-loop l = l.words.items ≡ l.base ∷ l.base ∷ replicate l.counter 0
