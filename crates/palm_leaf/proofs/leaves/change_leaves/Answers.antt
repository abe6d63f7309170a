use Rattle.std.proofs.Common.{◌∙◌, sym, subst}
use Rattle.palm_arena.specs.Reads.{map_of}
use Rattle.palm_leaf.specs.Stage.{HasGroups}
use Rattle.palm_leaf.proofs.StagePass.{has_groups, stands_at}
use Rattle.palm_leaf.proofs.leaves.change_leaves.Goals as goal

pub work_leaves-requires-clause-groups : goal.work_leaves-requires-clause-groups
work_leaves-requires-clause-groups g c lives bounds =
    let pass = c.requires.pass in
    subst (HasGroups (map_of c.args.arena.now.places)) (sym (c.deref.ensures.value ∙ c.into_list-groups.ensures)) (has_groups pass.0 (map_of c.args.arena.now.places) c.args.shape c.args.groups pass.1 pass.2 pass.3)

pub returns-clause-stands : goal.returns-clause-stands
returns-clause-stands g c p parts begins routed =
    let old = map_of c.args.arena.now.places in
    let new = map_of c.work_leaves.new.arena.places in
    let done = rw (c.deref.ensures.value, c.into_list-groups.ensures, c.least_rows-least.ensures) at c.in_ok-gathered.ensures.done in
    let stands = stands_at p old new c.args.shape c.args.groups parts c.in_ok-gathered.gathered begins routed done in
    rw (c.from_vec.ensures, c.new.ensures) stands
