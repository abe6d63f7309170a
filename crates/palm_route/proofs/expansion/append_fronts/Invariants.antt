use Rattle.std.proofs.Common.{◌≡◌, ◌++◌, take}
use Rattle.palm_route.specs.Parts.{parts_by_keys, front_keys}
use Rattle.palm_route.specs.declared.part.Ask.TheVariants as ask
use Rattle.palm_route.proofs.expansion.append_fronts.Given as goal

-- the fronts so far have their parts
abbrev pub invariant-loop-i : goal.invariant-loop-i
invariant-loop-i l = l.parts ≡ l.fn.parts ++ parts_by_keys l.fn.entry 0 ask.Look (take l.i (front_keys l.fn.number))
