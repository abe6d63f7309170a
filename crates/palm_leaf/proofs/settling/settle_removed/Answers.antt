use Rattle.std.proofs.Common.{◌∙◌, ap, refl, subst, sym}
use Rattle.palm_arena.specs.ArenaState.{NoneLent}
use Rattle.palm_leaf.proofs.Settlings.{none_lent_dropped, removed_ends}
use Rattle.palm_leaf.proofs.settling.settle_removed.Goals as goal

pub returns-in_err-extend_from_slice-clause-none_lent : goal.returns-in_err-extend_from_slice-clause-none_lent
returns-in_err-extend_from_slice-clause-none_lent c =
    subst (λ state. NoneLent state.places) (sym c.in_ok-drop_node.ensures.ok) (none_lent_dropped c.args.arena.now.places c.args.id c.requires.none_lent)

pub returns-clause-end : goal.returns-clause-end
returns-clause-end c =
    removed_ends c.args.arena.now.places c.drop_node.new.self.places c.args.id c.args.path.now c.args.rows.now c.args.gathered.now _ (ap (λ state. state.places) c.in_ok-drop_node.ensures.ok)
    (c.in_ok-push.ensures.ok ∙ rw (c.copy.ensures, c.new.ensures) refl) c.in_ok-extend_from_slice.ensures.items refl

pub returns-clause-none_lent : goal.returns-clause-none_lent
returns-clause-none_lent c =
    subst (λ state. NoneLent state.places) (sym c.in_ok-drop_node.ensures.ok) (none_lent_dropped c.args.arena.now.places c.args.id c.requires.none_lent)

pub returns-in_err-push-clause-none_lent : goal.returns-in_err-push-clause-none_lent
returns-in_err-push-clause-none_lent c =
    subst (λ state. NoneLent state.places) (sym c.in_ok-drop_node.ensures.ok) (none_lent_dropped c.args.arena.now.places c.args.id c.requires.none_lent)
