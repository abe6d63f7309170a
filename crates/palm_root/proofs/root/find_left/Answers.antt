use Rattle.std.proofs.Common.{ap, sym, ◌∙◌, Some, is_some}
use Rattle.palm_arena.specs.Reads.{map_of}
use Rattle.palm_root.proofs.RootStill.{leaf_found, root_held, root_paths, root_places, inner_found, leaf_few, inner_few}
use Rattle.palm_root.proofs.root.find_left.Goals as goal

pub returns-then-shape-le1-clause-found : goal.returns-then-shape-le1-clause-found
returns-then-shape-le1-clause-found c p stands =
    leaf_found p (map_of c.args.arena.now.places) c.args.shape c.args.changes.now c.in_ok-left.left stands c.if-shape-le1.true
    (rw (sym c.as_slice.ensures) c.in_ok-left.ensures)

pub returns-then-shape-le1-clause-few : goal.returns-then-shape-le1-clause-few
returns-then-shape-le1-clause-few c n within = leaf_few c.args.changes.now c.in_ok-left.left n (rw (sym c.as_slice.ensures) c.in_ok-left.ensures) within

pub read-requires : goal.read-requires
read-requires c = ap is_some (root_held c.requires.stands.0 (map_of c.args.arena.now.places) c.args.shape c.args.changes.now c.requires.stands.1 c.if-shape-le1.false)

pub unreachable-requires : goal.unreachable-requires
unreachable-requires c =
    let held = root_held c.requires.stands.0 (map_of c.args.arena.now.places) c.args.shape c.args.changes.now c.requires.stands.1 c.if-shape-le1.false in
    let read = c.read.ensures.node in
    let leaf = c.in_default.is in
    absurd cc

pub children_after-requires-clause-paths : goal.children_after-requires-clause-paths
children_after-requires-clause-paths c =
    rw c.as_slice-2.ensures (root_paths c.requires.stands.0 (map_of c.args.arena.now.places) c.args.shape c.args.changes.now c.requires.stands.1 c.if-shape-le1.false)

pub children_after-requires-clause-places : goal.children_after-requires-clause-places
children_after-requires-clause-places c =
    rw c.as_slice-2.ensures
    (root_places c.requires.stands.0 (map_of c.args.arena.now.places) c.args.shape c.args.changes.now c.in-Inner.inner c.requires.stands.1 c.if-shape-le1.false (c.read.ensures.node ∙ ap Some c.in-Inner.is))

pub returns-clause-found : goal.returns-clause-found
returns-clause-found c p stands =
    inner_found p (map_of c.args.arena.now.places) c.args.shape c.args.changes.now c.in-Inner.inner c.in_ok-left-2.left stands c.if-shape-le1.false (c.read.ensures.node ∙ ap Some c.in-Inner.is)
    (rw (sym c.as_slice-2.ensures) c.in_ok-left-2.ensures)

pub returns-clause-few : goal.returns-clause-few
returns-clause-few c n within =
    inner_few c.requires.stands.0 (map_of c.args.arena.now.places) c.args.shape c.args.changes.now c.in-Inner.inner c.in_ok-left-2.left n c.requires.stands.1 c.if-shape-le1.false (c.read.ensures.node ∙ ap Some c.in-Inner.is)
    (rw (sym c.as_slice-2.ensures) c.in_ok-left-2.ensures) within
