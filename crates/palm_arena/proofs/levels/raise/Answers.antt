use Rattle.std.proofs.Common.{[], ◌≡◌, ◌+◌, ◌-◌, ◌≤◌, ap, is_some, sym, subst, arith, refl, ◌∙◌, length}
use Rattle.palm_arena.specs.Reads.{map_of}
use Rattle.palm_arena.specs.declared.shape.Shape.{Shape}
use Rattle.palm_arena.specs.Levels.{nodes_of, cells_at, IsTaken, IsLevel}
use Rattle.palm_arena.proofs.Untouched.{has_turned}
use Rattle.palm_arena.proofs.Raised.{level_next, level_rises, level_last, made_count, ticks_first, ticks_next, ticks_last, ticks_refused, few_first, few_next, levels_fit, made_some, made_fewer}
use Rattle.palm_arena.proofs.levels.raise.Goals as goal

pub loop-alloc-init : goal.loop-alloc-init
loop-alloc-init g c = record {
  level = λ tree others is. subst (λ n. IsLevel tree others (map_of c.args.arena.now.places) n c.args.lowest) (omega arith) is;
  others = λ cells has. has;
  some = c.requires.some;
  counted = omega arith;
  few = λ fit. few_first (length c.args.lowest) c.args.below fit c.requires.most;
  begun = refl;
  none_lent = c.requires.none_lent;
  ticks = ticks_first (length c.args.lowest) c.args.steps.now;
  moved = omega arith;
}

pub take_level-requires-clause-rising : goal.take_level-requires-clause-rising
take_level-requires-clause-rising g c =
    rw c.as_slice.ensures
    (level_rises c.requires.level.0 c.requires.level.1 (map_of c.loop-alloc.arena.places) (c.loop-alloc.levels - 1) c.loop-alloc.level (omega (arith, c.len.ensures, c.loop-alloc-test.true))
    (c.loop-alloc.invariant.level c.requires.level.0 c.requires.level.1 c.requires.level.2))

pub take_level-requires-clause-under_way : goal.take_level-requires-clause-under_way
take_level-requires-clause-under_way g c = ap is_some c.loop-alloc.invariant.begun ∙ c.requires.under_way

pub returns-in_err-level-clause-ticks : goal.returns-in_err-level-clause-ticks
returns-in_err-level-clause-ticks g c =
    ticks_refused (length c.args.lowest) (length c.loop-alloc.level) c.args.steps.now c.loop-alloc.steps c.take_level.new.steps (omega (arith, c.len.ensures, c.loop-alloc-test.true)) (rw (sym c.as_slice.ensures) c.take_level.ensures.ticks) c.loop-alloc.invariant.ticks

pub overflow_add-levels : goal.overflow_add-levels
overflow_add-levels g c = omega (arith, c.requires.most)

pub overflow_add-levels-in-loop-alloc : goal.overflow_add-levels-in-loop-alloc
overflow_add-levels-in-loop-alloc g c =
    let fit = levels_fit (length c.loop-alloc.level) c.loop-alloc.levels (omega (arith, c.len.ensures, c.loop-alloc-test.true)) (c.loop-alloc.invariant.few (omega (arith, c.len.ensures, c.len.type_inv))) in
    omega (arith, fit)

pub loop-alloc-smaller : goal.loop-alloc-smaller
loop-alloc-smaller g c =
    let taken : IsTaken c.loop-alloc.level c.in_ok-level.level (map_of c.loop-alloc.arena.places) (map_of c.take_level.new.arena.places) = rw (sym c.as_slice.ensures) c.in_ok-level.ensures.taken in
    made_fewer (length c.loop-alloc.level) (length c.in_ok-level.level) (omega (arith, c.len.ensures, c.loop-alloc-test.true)) (made_count c.loop-alloc.level c.in_ok-level.level (map_of c.loop-alloc.arena.places) (map_of c.take_level.new.arena.places) taken)

pub loop-alloc-preserved : goal.loop-alloc-preserved
loop-alloc-preserved g c =
    let old = map_of c.loop-alloc.arena.places in
    let new = map_of c.take_level.new.arena.places in
    let level = c.loop-alloc.level in
    let made = c.in_ok-level.level in
    let two : 2 ≤ length level = omega (arith, c.len.ensures, c.loop-alloc-test.true) in
    let taken : IsTaken level made old new = rw (sym c.as_slice.ensures) c.in_ok-level.ensures.taken in
    let count = made_count level made old new taken in
    record {
      level = λ tree others is.
          subst (λ n. IsLevel tree others new n made) (omega (arith, c.loop-alloc.invariant.counted)) (level_next tree others old new (c.loop-alloc.levels - 1) level made two taken (c.loop-alloc.invariant.level tree others is));
      others = λ cells has. has_turned old new [] (cells_at taken.ids (nodes_of level)) cells taken.turns (c.loop-alloc.invariant.others cells has);
      some = made_some (length level) (length made) two count;
      counted = omega arith;
      few = λ less. few_next (length level) (length made) c.loop-alloc.levels two count (c.loop-alloc.invariant.few (omega (arith, c.len.ensures, c.len.type_inv)));
      begun = c.take_level.ensures.begun ∙ c.loop-alloc.invariant.begun;
      none_lent = c.take_level.ensures.none_lent;
      ticks = ticks_next (length c.args.lowest) (length level) (length made) c.args.steps.now c.loop-alloc.steps c.take_level.new.steps two count (rw (sym c.as_slice.ensures) c.take_level.ensures.ticks) c.loop-alloc.invariant.ticks;
      moved = omega (arith, c.loop-alloc.invariant.moved, c.take_level.ensures.moved);
    }

pub returns-clause-raised : goal.returns-clause-raised
returns-clause-raised g c tree others is =
    level_last tree others (map_of c.loop-alloc.arena.places) (c.loop-alloc.levels - 1) c.loop-alloc.level c.get.result _ (omega (arith, c.len.ensures, c.loop-alloc-test.false)) c.get.ensures
    (let e : c.loop-alloc.levels ≡ c.loop-alloc.levels - 1 + 1 = omega (arith, c.loop-alloc.invariant.counted) in ap (λ n. let s : Shape = record { root = c.get.result.id; levels = n } in s) e)
    (c.loop-alloc.invariant.level tree others is)

pub returns-clause-ticks : goal.returns-clause-ticks
returns-clause-ticks g c = ticks_last (length c.args.lowest) (length c.loop-alloc.level) c.args.steps.now c.loop-alloc.steps c.loop-alloc.invariant.some (omega (arith, c.len.ensures, c.loop-alloc-test.false)) c.loop-alloc.invariant.ticks
