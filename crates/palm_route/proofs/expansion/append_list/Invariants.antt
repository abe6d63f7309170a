use Rattle.std.proofs.Common.{◌≡◌, ◌++◌, take}
use Rattle.palm_route.specs.Parts.{parts_by_keys}
use Rattle.palm_route.specs.declared.part.Ask.TheVariants as ask
use Rattle.palm_route.proofs.expansion.append_list.Given as goal

-- the keys so far have their parts
abbrev pub invariant-loop-i : goal.invariant-loop-i
invariant-loop-i l = l.parts ≡ l.fn.parts ++ parts_by_keys l.fn.entry 0 (ask.List l.fn.from l.fn.to l.fn.limit) (take l.i l.keys)
