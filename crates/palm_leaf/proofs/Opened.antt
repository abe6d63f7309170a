-- Parts that wait for their answers.
use Rattle.std.proofs.Common.{◌≡◌, ℕ, ◌<◌, ◌≤◌, List, length, get_or, drop, subst, sym, ◌∙◌, arith}
use Rattle.std.proofs.Math.Seq.{drop-cons}
use Rattle.std.specs.List.{AllByRecursion}
use Rattle.palm_base.proofs.Every.{every_drop, every_weaker}
use Rattle.palm_route.specs.declared.part.Ask.{Ask}
use Rattle.palm_route.specs.declared.part.Ask.TheVariants as ask
use Rattle.palm_leaf.specs.Asked.{AskFindsRoom, IsOpen}
use Rattle.palm_leaf.specs.declared.rows.Asked.{Asked}

finds_fewer : (m n room : ℕ) (what : Ask) → m ≤ n → AskFindsRoom n what room → AskFindsRoom m what room
finds_fewer m n room (ask.Set rate) few finds = tt
finds_fewer m n room ask.Del few finds = tt
finds_fewer m n room ask.Look few finds = tt
finds_fewer m n room (ask.List from to limit) few finds = λ most within among. finds most within (omega (arith, few, among))

-- What has room among n rows has room among fewer.
pub open_fewer : (m n : ℕ) (asked : Asked) → m ≤ n → IsOpen n asked → IsOpen m asked
open_fewer m n asked few waits =
    record { room = record { none = waits.room.none; room = finds_fewer m n _ asked.part.ask few waits.room.room }; key = waits.key }

pub all_open_fewer : (m n : ℕ) (asked : List Asked) → m ≤ n → AllByRecursion (IsOpen n) asked → AllByRecursion (IsOpen m) asked
all_open_fewer m n asked few = every_weaker (IsOpen n) (IsOpen m) (λ one. open_fewer m n one few) asked

-- The item at a place of a list whose rest is that of another has what all items of the other have.
pub at_rest : {X : Type 0} (P : X → Type 0) (now before : List X) (i : ℕ) (item : X) → AllByRecursion P before → drop i now ≡ drop i before → i < length now → P (get_or now i item)
at_rest P now before i item all same less =
    (subst (AllByRecursion P) (sym same ∙ drop-cons now i item less) (every_drop P i before all)).0
