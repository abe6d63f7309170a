use Rattle.std.proofs.Common.{◌≡◌, ℕ, List, take, sym, ap, arith, ◌∙◌}
use Rattle.palm_base.specs.Key.{key}
use Rattle.palm_base.specs.Fronts.{first_front}
use Rattle.palm_base.specs.declared.row.Row.{Row}
use Rattle.palm_tree.specs.Floors.{IsFloor, shared_below}
use Rattle.palm_tree.specs.Jumps.{IsFrontOf}
use Rattle.palm_tree.proofs.FrontJumps.{Jumps, jump_to_none, jump_from_low, jump_from_row, jump_to_row}
use Rattle.palm_tree.proofs.floor.jump_from.Goals as goal
use Rattle.palm_tree.proofs.floor.jump_from.Goals.{in-Last+else-begins, in-Low, After-shared_below}

-- the search goes on from what the number shares with the bound
jump : (c : After-shared_below) (rows : List Row) (n : ℕ) → IsFrontOf n c.args.number.now → IsFloor rows (key (take n c.args.number.now)) c.args.floor
    → Jumps n (shared_below c.match-floor.bound c.args.number.now) c.args.number.now rows
jump c rows n front floor =
    elim c.match-floor.branch [
      | in-Last+else-begins w ↦
          rw w.bound-is (jump_from_row n w.in-Last.row c.args.number.now rows front.prefix front.some front.few (rw w.in-Last.is at floor) (sym w.begins.ensures ∙ w.if-begins.false))
      | in-Low w ↦ rw w.bound-is (jump_from_low n w.in-Low.low c.args.number.now rows front.prefix front.some front.few (rw w.in-Low.is at floor))
    ]

pub returns-then-begins : goal.returns-then-begins
returns-then-begins c = λ rows n front floor.
    jump_to_row n c.in-Last.row c.args.number.now rows front.prefix front.some front.few (rw c.in-Last.is at floor) (sym c.begins.ensures ∙ c.if-begins.true)

pub returns-in-Start : goal.returns-in-Start
returns-in-Start c = λ rows n front floor. sym (jump_to_none n c.args.number.now rows front.prefix front.few (rw c.in-Start.is at floor))

pub returns-in-0 : goal.returns-in-0
returns-in-0 c = λ rows n front floor.
    let made = jump (goal.at.returns-in-0 c).After-shared_below rows n front floor in
    let none : shared_below c.match-floor.bound c.args.number.now ≡ 0 = sym c.shared_below.ensures ∙ c.in-0.is in
    sym (made.same ∙ ap (λ (m : ℕ). first_front m c.args.number.now rows) none)

pub returns-in_default : goal.returns-in_default
returns-in_default c = λ rows n front floor.
    let made = jump (goal.at.returns-in_default c).After-shared_below rows n front floor in
    record {
      some = omega arith;
      less = omega (arith, c.shared_below.ensures, made.shorter);
      same = rw c.shared_below.ensures made.same;
    }
