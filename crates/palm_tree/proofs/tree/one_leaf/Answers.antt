use Rattle.palm_tree.proofs.EmptyTree.{taken_alone, none_lent_taken}
use Rattle.palm_tree.proofs.tree.one_leaf.Goals as goal

pub commit-requires-clause-none_lent : goal.commit-requires-clause-none_lent
commit-requires-clause-none_lent g c =
    let alone = taken_alone c.in_ok-arena.arena c.begin.new.self c.take.new.self c.in_ok-root.root c.from_rows.result _ c.in_ok-arena.ensures c.begin.ensures c.from_rows.ensures c.in_ok-root.ensures.ok in
    none_lent_taken c.in_ok-root.root c.take.new.self.places alone
