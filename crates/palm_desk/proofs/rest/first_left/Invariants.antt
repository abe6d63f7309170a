use Rattle.std.specs.Slots.{slots_items}
use Rattle.palm_desk.specs.Leftovers.{FindsFirst}
use Rattle.palm_desk.proofs.rest.first_left.Given as goal

abbrev pub invariant-loop-caller : goal.invariant-loop-caller
invariant-loop-caller l = FindsFirst (slots_items l.closed.words) l.window l.got l.made l.caller l.found
