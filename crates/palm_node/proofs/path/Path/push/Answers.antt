use Rattle.palm_node.proofs.HeldSteps.{room_held, holds_more, push_held}
use Rattle.palm_node.proofs.path.Path.push.Goals as goal

pub bounds-self-inside-len : goal.bounds-self-inside-len
bounds-self-inside-len c = room_held _ _ _ c.self.invariant c.self.view_is c.requires.room

pub bounds-self-inside-len-2 : goal.bounds-self-inside-len-2
bounds-self-inside-len-2 c = room_held _ _ _ c.self.invariant c.self.view_is c.requires.room

pub invariant_of-self : goal.invariant_of-self
invariant_of-self c = holds_more _ _ _ _ _ c.self.invariant (room_held _ _ _ c.self.invariant c.self.view_is c.requires.room)

pub returns : goal.returns
returns c = push_held _ _ _ _ _ c.self.invariant c.self.view_is (room_held _ _ _ c.self.invariant c.self.view_is c.requires.room)
