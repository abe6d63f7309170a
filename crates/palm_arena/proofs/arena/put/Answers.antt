use Rattle.std.specs.Prelude.{IfOk}
use Rattle.std.proofs.Common.{Result, Ok, Err}
use Rattle.palm_arena.proofs.Putting.{puts_same}
use Rattle.palm_arena.proofs.arena.put.Goals as goal

if_ok : {T E : Type 0} (result : Result T E) {P Q : T → Type 0} → ((x : T) → P x → Q x) → IfOk result P → IfOk result Q
if_ok (Ok x) step holds = step x holds
if_ok (Err e) step holds = holds

pub returns-in-Some-clause-ok : goal.returns-in-Some-clause-ok
returns-in-Some-clause-ok c =
    if_ok c.reuse.result (λ id puts. puts_same id c.args.node _ _ _ _ _ c.vacant.ensures.same.saved c.vacant.ensures.same.touched puts) c.reuse.ensures.ok

pub returns-in-None-clause-ok : goal.returns-in-None-clause-ok
returns-in-None-clause-ok c =
    if_ok c.append.result (λ id puts. puts_same id c.args.node _ _ _ _ _ c.vacant.ensures.same.saved c.vacant.ensures.same.touched puts) c.append.ensures.ok
