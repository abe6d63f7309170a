-- Shares of a batch, whose look-ups workers answer.
use Rattle.std.specs.Prelude.{List, [], Option, None, Some, Result, Ok, Err, IsOk}
use Rattle.std.proofs.Common.{Vec, Global}
use Rattle.palm_base.specs.declared.call.Entry.{Entry}
use Rattle.palm_base.specs.declared.call.Reply.{Reply}
use Rattle.palm_base.specs.declared.memory.NoMemory.{NoMemory}
use Rattle.palm_look.specs.declared.look_ups.LookWork.{LookWork}

-- The entries of a share that is there. So of one of Get 4, Get 5 they are these two.
abbrev pub entries_of : Option LookWork → List Entry
entries_of None = []
entries_of (Some work) = work.entries.now

-- The share is there, and memory was not refused to its worker. So one with no answers yet, which has an error in their place, isn't.
abbrev pub IsDone : Option LookWork → Type 0
IsDone None = ⊥
IsDone (Some work) = IsOk work.answers

-- What a worker's answers are, and none where memory was refused to it.
abbrev pub answers_in : Result (Vec (Option Reply) Global) NoMemory → List (Option Reply)
answers_in (Ok answers) = answers.items
answers_in (Err refused) = []

-- The answers of a share that is done, and none of another. So of one of Get 4 on the table of 4 at 5 they are Value 5 alone.
abbrev pub answers_of : Option LookWork → List (Option Reply)
answers_of None = []
answers_of (Some work) = answers_in work.answers
