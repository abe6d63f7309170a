use Rattle.std.proofs.Common.{◌≡◌, ◌+◌, ◌∙◌, ap, arith, length, subst, sym, [], ◌∷◌, length-append}
use Rattle.std.specs.Vec.Iter.{into_iter_items}
use Rattle.palm_node.specs.declared.node.Node.TheVariants.{Leaf}
use Rattle.palm_arena.specs.ArenaState.{NoneLent}
use Rattle.palm_leaf.proofs.Settlings.{none_lent_put, one_taken}
use Rattle.palm_leaf.proofs.settling.take_later.Goals as goal

pub loop-leaf-preserved : goal.loop-leaf-preserved
loop-leaf-preserved g c =
    let far = c.loop-leaf.invariant in
    let ok = c.in_ok-id.ensures.ok in
    let fewer : length (into_iter_items c.loop-leaf.leaf-iterator) ≡ length (into_iter_items c.next.new.self) + 1 = omega (arith, ap length c.in-Some.ensures.steps.0) in
    record {
      able = tt;
      finite = tt;
      taken =
          one_taken c.args.arena.now.places c.loop-leaf.arena.places c.take.new.self.places c.args.pieces.now c.loop-leaf.pieces c.push.new.self c.loop-leaf.yielded c.in-Some.leaf c.in_ok-id.id far.taken c.in_ok-id.ensures.vacant
          (ap (λ state. state.places) ok) c.in_ok-push.ensures.ok;
      begun = ap (λ state. state.begun) ok ∙ far.begun;
      none_lent = subst (λ state. NoneLent state.places) (sym ok) (none_lent_put c.loop-leaf.arena.places c.in_ok-id.id (Leaf c.in-Some.leaf.leaf) far.none_lent);
      ticks = omega (arith, far.ticks, fewer, c.take.ensures.ticks);
      moved = omega (arith, far.moved, c.take.ensures.ticks, ap (λ state. length state.moved) ok, length-append c.loop-leaf.arena.moved (c.in_ok-id.id ∷ []));
    }

pub returns-in_err-push-clause-none_lent : goal.returns-in_err-push-clause-none_lent
returns-in_err-push-clause-none_lent g c =
    subst (λ state. NoneLent state.places) (sym c.in_ok-id.ensures.ok) (none_lent_put c.loop-leaf.arena.places c.in_ok-id.id (Leaf c.in-Some.leaf.leaf) c.loop-leaf.invariant.none_lent)
