use Rattle.palm_arena.specs.Reads.{map_of}
use Rattle.palm_route.proofs.Descents.{tree_range}
use Rattle.palm_route.proofs.expansion.put_keys.Goals as goal

pub append_lows-requires : goal.append_lows-requires
append_lows-requires c = record { node = tree_range (map_of c.args.arena.now.places) c.args.shape c.requires.tree }
