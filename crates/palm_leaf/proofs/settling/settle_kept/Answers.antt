use Rattle.std.proofs.Common.{◌∙◌, ap, refl, subst, [], ◌∷◌, ◌++◌}
use Rattle.palm_arena.specs.Reads.{map_of}
use Rattle.palm_leaf.specs.Settling.{AreTaken}
use Rattle.palm_leaf.proofs.Settlings.{kept_ends}
use Rattle.palm_leaf.proofs.settling.settle_kept.Goals as goal

pub returns-clause-end : goal.returns-clause-end
returns-clause-end g c =
    let old = map_of c.args.arena.now.places in
    let new = map_of c.take_later.new.arena.places in
    let taken = subst (λ pieces. AreTaken old new pieces c.take_later.new.pieces c.args.later.items) c.in_ok-push.ensures.ok c.in_ok-take_later.ensures.taken in
    kept_ends old new c.args.first c.args.path.now c.args.later.items c.take_later.new.pieces c.args.gathered.now _ (subst (λ pieces. AreTaken old new pieces c.take_later.new.pieces c.args.later.items) (ap (λ pieces. pieces ++ c.args.first ∷ []) c.new-pieces.ensures) taken)
    (c.in_ok-push-2.ensures.ok ∙ rw c.copy.ensures refl) refl refl
