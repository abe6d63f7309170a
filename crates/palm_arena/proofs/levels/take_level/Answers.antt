use Rattle.std.proofs.Common.{[], ◌∷◌, length, subst, arith, ap, ◌∙◌, refl}
use Rattle.std.specs.Prelude.{◌≤◌}
use Rattle.palm_base.specs.Cut.{piece_count}
use Rattle.palm_base.specs.declared.bounds.TheConstants.{MOST_CHILDREN}
use Rattle.palm_arena.specs.Reads.{map_of}
use Rattle.palm_base.specs.Pass.{first_low}
use Rattle.palm_base.proofs.CutSteps.{some_left, own_low}
use Rattle.palm_node.specs.declared.node.Node.TheVariants.{Inner}
use Rattle.palm_arena.specs.ArenaState.{ArenaState}
use Rattle.palm_arena.specs.Cells.{Turns}
use Rattle.palm_arena.proofs.TakenLevels.{taken_first, level_parts, first_low_is, taken_next, taken_all, taken_turns, taken_home, length-more}
use Rattle.palm_arena.proofs.levels.take_level.Goals as goal

pub loop-i-init : goal.loop-i-init
loop-i-init g c = record {
  far = taken_first c.args.level.now (map_of c.args.arena.now.places) c.new-made.result c.requires.rising c.new-made.ensures;
  begun = refl;
  none_lent = c.requires.none_lent;
  ticks = omega arith;
  moved = omega arith;
}

pub over-requires-clause-some : goal.over-requires-clause-some
over-requires-clause-some g c =
    (level_parts _ _ _ _ _ _ _ _ c.loop-i.invariant.far (some_left c.loop-i.i c.pieces-i-end.result (piece_count MOST_CHILDREN (length c.args.level.now)) c.loop-i-test.true c.pieces-i-end.ensures) c.piece_size.ensures c.split_at.ensures.front).0.0

pub over-requires-clause-few : goal.over-requires-clause-few
over-requires-clause-few g c =
    (level_parts _ _ _ _ _ _ _ _ c.loop-i.invariant.far (some_left c.loop-i.i c.pieces-i-end.result (piece_count MOST_CHILDREN (length c.args.level.now)) c.loop-i-test.true c.pieces-i-end.ensures) c.piece_size.ensures c.split_at.ensures.front).0.1

pub over-requires-clause-rising : goal.over-requires-clause-rising
over-requires-clause-rising g c =
    (level_parts _ _ _ _ _ _ _ _ c.loop-i.invariant.far (some_left c.loop-i.i c.pieces-i-end.result (piece_count MOST_CHILDREN (length c.args.level.now)) c.loop-i-test.true c.pieces-i-end.ensures) c.piece_size.ensures c.split_at.ensures.front).1

pub returns-in_err-push-clause-none_lent : goal.returns-in_err-push-clause-none_lent
returns-in_err-push-clause-none_lent g c = taken_home c.loop-i.arena c.take.new.self c.in_ok-id.id (Inner c.over.result) c.in_ok-id.ensures.ok c.loop-i.invariant.none_lent

pub loop-i-preserved : goal.loop-i-preserved
loop-i-preserved g c =
    let less = some_left c.loop-i.i c.pieces-i-end.result (piece_count MOST_CHILDREN (length c.args.level.now)) c.loop-i-test.true c.pieces-i-end.ensures in
    let parts = level_parts _ _ _ _ _ _ _ _ c.loop-i.invariant.far less c.piece_size.ensures c.split_at.ensures.front in
    let first = first_low_is c.split_at.result.0.now _ parts.0.0 in
    let low = own_low c.next_low-low.result _ (first_low (λ piece. piece.low) c.split_at.result.0.now) (length c.loop-i.made) c.next_low-low.ensures first in
    let taken = c.in_ok-id.ensures.ok in
    let turns = subst (λ n. Turns (map_of c.loop-i.arena.places) (map_of c.take.new.self.places) [] ((c.in_ok-id.id, Inner n) ∷ [])) c.over.ensures (taken_turns c.loop-i.arena c.take.new.self c.in_ok-id.id (Inner c.over.result) taken c.in_ok-id.ensures.vacant) in
    let next = taken_next c.args.level.now (map_of c.args.arena.now.places) c.loop-i.i (map_of c.loop-i.arena.places) (map_of c.take.new.self.places) c.loop-i.rest.now c.loop-i.made c.split_at.result.0.now c.piece_size.result
    c.next_low-low.result c.in_ok-id.id c.loop-i.invariant.far less c.piece_size.ensures c.split_at.ensures.front low turns in
    let begun = ap (λ (a : ArenaState). a.begun) taken in
    let moved = ap (λ (a : ArenaState). length a.moved) taken ∙ length-more c.loop-i.arena.moved c.in_ok-id.id in
    record {
      far = rw (c.split_at.ensures.back, c.in_ok-push.ensures.ok) next;
      begun = begun ∙ c.loop-i.invariant.begun;
      none_lent = taken_home c.loop-i.arena c.take.new.self c.in_ok-id.id (Inner c.over.result) taken c.loop-i.invariant.none_lent;
      ticks = omega (arith, c.loop-i.invariant.ticks, c.in_ok-id.ensures.ticks);
      moved = omega (arith, c.loop-i.invariant.moved, c.in_ok-id.ensures.ticks, moved);
    }

pub returns-clause-taken : goal.returns-clause-taken
returns-clause-taken g c = taken_all c.args.level.now (map_of c.args.arena.now.places) c.loop-i.i (map_of c.loop-i.arena.places) c.loop-i.rest.now c.loop-i.made c.loop-i.invariant.far (subst (λ n. n ≤ c.loop-i.i) c.pieces-i-end.ensures c.loop-i-test.false)
