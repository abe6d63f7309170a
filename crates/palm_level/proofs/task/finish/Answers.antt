use Rattle.std.proofs.Common.{ap, ◌∙◌, refl, ◌++◌, ◌∷◌, []}
use Rattle.palm_node.specs.declared.change.Change.{Change}
use Rattle.palm_level.proofs.task.finish.Goals as goal

pub returns-clause-ok : goal.returns-clause-ok
returns-clause-ok g c = λ nodes done.
    let stands = c.in_ok-pieces.ensures.ok nodes c.args.task.parent.path c.args.task.parent.changes.now done.0 done.1 in
    record {
      group = stands.group;
      is = stands.is;
      is-group = stands.is-group;
      turns = stands.turns;
      changed = c.in_ok-push.ensures.ok ∙ ap (λ (change : Change). c.args.changes.now.nodes ++ change ∷ []) stands.pieces-are;
      removed = stands.removed;
      loose = refl;
    }
