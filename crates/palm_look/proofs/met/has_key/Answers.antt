use Rattle.std.proofs.Common.{MatchBool, subst}
use Rattle.palm_look.specs.Met.{HasOne, HasNone}
use Rattle.palm_look.proofs.SortedKeys.{key_found}
use Rattle.palm_look.proofs.met.has_key.Goals as goal

pub returns : goal.returns
returns c =
    rw (c.is_ok.ensures.value) (key_found c.args.key c.args.keys.now c.binary_search.result c.requires.sorted c.binary_search.ensures.position)
