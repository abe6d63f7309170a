use Rattle.std.proofs.Common.{[]}
use Rattle.palm_base.specs.Pass.{leaves_of, top}
use Rattle.palm_arena.specs.Reads.{map_of}
use Rattle.palm_tree.proofs.BuiltTrees.{leaves_level, leaves_some, alone_whole, alone_read}
use Rattle.palm_tree.proofs.build.put_nodes.Goals as goal

pub raise-requires-clause-some : goal.raise-requires-clause-some
raise-requires-clause-some g c = leaves_some c.args.rows.now (map_of c.add_leaves.new.arena.places) c.in_ok-leaves.leaves c.requires.some c.in_ok-leaves.ensures.level

pub raise-requires-clause-level : goal.raise-requires-clause-level
raise-requires-clause-level g c =
    (top 0 (leaves_of 0 c.args.rows.now), [], leaves_level c.args.rows.now (map_of c.add_leaves.new.arena.places) c.in_ok-leaves.leaves c.requires.table c.in_ok-leaves.ensures.level)

pub returns-clause-whole : goal.returns-clause-whole
returns-clause-whole g c =
    let level = leaves_level c.args.rows.now (map_of c.add_leaves.new.arena.places) c.in_ok-leaves.leaves c.requires.table c.in_ok-leaves.ensures.level in
    alone_whole c.args.rows.now (map_of c.raise.new.arena.places) c.in_ok-shape.shape c.requires.table (c.in_ok-shape.ensures.raised (top 0 (leaves_of 0 c.args.rows.now)) [] level)

pub returns-clause-tree : goal.returns-clause-tree
returns-clause-tree g c =
    let level = leaves_level c.args.rows.now (map_of c.add_leaves.new.arena.places) c.in_ok-leaves.leaves c.requires.table c.in_ok-leaves.ensures.level in
    alone_read c.args.rows.now c.raise.new.arena.places c.in_ok-shape.shape c.requires.table (c.in_ok-shape.ensures.raised (top 0 (leaves_of 0 c.args.rows.now)) [] level)
