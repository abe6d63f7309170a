-- Items of work: each is there before and after it is run.
use Rattle.std.specs.Prelude.{Option, Some, None}

-- The item is there, and the fact holds of it. So of Some 3 holds that it is below 4, and of None nothing does.
abbrev pub Holds : {X : Type 0} → (X → Type 0) → Option X → Type 0
Holds P None = ⊥
Holds P (Some x) = P x

-- The item is there before and after, and the two stand in the relation. So Some 3 and Some 4 stand in 'is one below'.
abbrev pub Relates : {X : Type 0} → (X → X → Type 0) → Option X → Option X → Type 0
Relates R None after = ⊥
Relates R (Some x) None = ⊥
Relates R (Some x) (Some y) = R x y
