use Rattle.std.proofs.Common.{[], ◌-◌, length, subst}
use Rattle.palm_arena.specs.Reads.{map_of}
use Rattle.palm_arena.specs.Passes.{untouched_in}
use Rattle.palm_arena.proofs.Untouched.{has_turned}
use Rattle.palm_root.specs.Roots.{root_cells, IsFound, IsFew}
use Rattle.palm_root.proofs.RootLeft.{left_without}
use Rattle.palm_root.proofs.RootStill.{root_is_held, few_below, put_ticks}
use Rattle.palm_root.proofs.root.repair.Goals as goal

pub drop_root-requires-clause-held : goal.drop_root-requires-clause-held
drop_root-requires-clause-held g c more = root_is_held c.requires.stands.0 (map_of c.args.arena.now.places) c.args.shape c.args.changes.now c.requires.stands.1 more

pub put_root-requires-clause-most : goal.put_root-requires-clause-most
put_root-requires-clause-most g c = rw c.saturating_sub.ensures (few_below c.requires.stands.0 (map_of c.args.arena.now.places) c.args.shape c.args.changes.now c.requires.stands.1)

pub put_root-requires-clause-left : goal.put_root-requires-clause-left
put_root-requires-clause-left g c =
    let p = c.requires.stands.0 in
    let stands = c.requires.stands.1 in
    let old = map_of c.args.arena.now.places in
    let found = subst (λ left. IsFound p old c.args.changes.now c.args.shape left) c.in-Some.is (c.in_ok-level.ensures.found p stands) in
    (p, c.args.changes.now, rw c.saturating_sub.ensures (left_without p _ old (map_of c.drop_root.new.arena.places) c.args.changes.now (c.args.shape.levels - 2) c.in-Some.level found.0 c.in_ok-drop_root.ensures.dropped))

pub returns-clause-repaired : goal.returns-clause-repaired
returns-clause-repaired g c p stands =
    let old = map_of c.args.arena.now.places in
    let found = subst (λ left. IsFound p old c.args.changes.now c.args.shape left) c.in-Some.is (c.in_ok-level.ensures.found p stands) in
    c.in_ok-after.ensures.repaired p c.args.changes.now
    (rw c.saturating_sub.ensures (left_without p _ old (map_of c.drop_root.new.arena.places) c.args.changes.now (c.args.shape.levels - 2) c.in-Some.level found.0 c.in_ok-drop_root.ensures.dropped))
    (has_turned old (map_of c.drop_root.new.arena.places) (root_cells old c.args.shape) [] (untouched_in p) c.in_ok-drop_root.ensures.dropped found.1)

pub returns-clause-ticks : goal.returns-clause-ticks
returns-clause-ticks g c n within =
    let few = subst (IsFew n) c.in-Some.is (c.in_ok-level.ensures.few n within) in
    put_ticks (length c.in-Some.level) n c.args.steps.now c.put_root.new.steps few.0 few.1 c.put_root.ensures.ticks
