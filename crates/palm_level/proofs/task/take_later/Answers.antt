use Rattle.std.proofs.Common.{arith, ap, length, rules, length-append, [], ◌∷◌}
use Rattle.palm_node.specs.declared.node.Node.TheVariants.{Inner}
use Rattle.palm_arena.specs.ArenaState.{ArenaState}
use Rattle.palm_level.proofs.Taking.{took_more, take_same}
use Rattle.palm_level.proofs.task.take_later.Goals as goal

pub loop-one-preserved : goal.loop-one-preserved
loop-one-preserved g c =
    let long = length-append c.loop-one.yielded (c.in-Some.one ∷ []) in
    let ticks = c.loop-one.invariant.ticks in
    let moved = c.loop-one.invariant.moved in
    record {
      took = took_more c.args.arena.now c.loop-one.arena c.take.new.self c.args.pieces.now c.loop-one.pieces c.push.new.self c.loop-one.yielded c.in-Some.one c.in_ok-id.id c.loop-one.invariant.took c.in_ok-id.ensures.vacant c.in_ok-id.ensures.ok c.in_ok-push.ensures.ok;
      same_lent = take_same c.args.arena.now.places c.loop-one.arena c.take.new.self c.in_ok-id.id (Inner c.in-Some.one.node) _ c.loop-one.invariant.same_lent c.in_ok-id.ensures.vacant c.in_ok-id.ensures.ok;
      begun = search rules;
      ticks = omega (arith, long, ticks, c.in_ok-id.ensures.ticks);
      moved = let grown = ap (λ (s : ArenaState). length s.moved) c.in_ok-id.ensures.ok in let one = length-append c.loop-one.arena.moved (c.in_ok-id.id ∷ []) in omega (arith, grown, one, moved, c.in_ok-id.ensures.ticks);
    }

pub returns-in_err-push-clause-same_lent : goal.returns-in_err-push-clause-same_lent
returns-in_err-push-clause-same_lent g c =
    take_same c.args.arena.now.places c.loop-one.arena c.take.new.self c.in_ok-id.id (Inner c.in-Some.one.node) _ c.loop-one.invariant.same_lent c.in_ok-id.ensures.vacant c.in_ok-id.ensures.ok
