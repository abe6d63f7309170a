use Rattle.std.proofs.Common.{◌+◌, ap, set, ◌∙◌, arith}
use Rattle.palm_node.proofs.PutRows.{moved_up}
use Rattle.palm_node.proofs.leaf.insert_key.Goals as goal

pub returns : goal.returns
returns c =
    ap (λ keys. set keys c.args.place c.args.key) c.copy_within.ensures.after
    ∙ moved_up c.args.keys.now c.args.place c.args.len _ _ _ c.args.key (omega arith) (omega (arith, c.requires.within)) (omega (arith, c.requires.within)) (omega (arith, c.requires.room, c.told-keys))
