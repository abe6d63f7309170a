use Rattle.std.proofs.Common.{◌≡◌, ◌++◌, take}
use Rattle.palm_arena.specs.Reads.{map_of}
use Rattle.palm_tree.specs.Walk.{nodes_text, ids_below}
use Rattle.palm_tree.proofs.dump.append_level.Given as goal

-- the nodes so far are written, and their children are listed
abbrev pub invariant-loop-id : goal.invariant-loop-id
invariant-loop-id l = record {
  text : l.out.items ≡ l.fn.out.items ++ nodes_text (map_of l.arena.places) (take l.id-index l.ids);
  below : l.below.items ≡ l.fn.below.items ++ ids_below (map_of l.arena.places) (take l.id-index l.ids);
}
