use Rattle.std.proofs.Common.{nat_lt, length, rules}
use Rattle.std.proofs.lemmas.Bool.{le-ltb}
use Rattle.std.proofs.lemmas.List.Sorted.{IsPartitionPoint-from_clause}
use Rattle.palm_look.proofs.SortedKeys.{parted_below, range_found, range_past}
use Rattle.palm_look.proofs.met.has_between.Goals as goal

pub returns-then-begin-keys : goal.returns-then-begin-keys
returns-then-begin-keys c =
    let point = IsPartitionPoint-from_clause (λ k. nat_lt k c.args.from) _ _ c.partition_point-begin.ensures.partitioned (parted_below c.args.from c.args.keys.now c.requires.sorted) (λ a r q k. search rules) in
    range_found c.args.from c.args.to c.partition_point-begin.result c.args.keys.now c.requires.sorted point c.if-begin-keys.true

pub returns-else-begin-keys : goal.returns-else-begin-keys
returns-else-begin-keys c =
    let point = IsPartitionPoint-from_clause (λ k. nat_lt k c.args.from) _ _ c.partition_point-begin.ensures.partitioned (parted_below c.args.from c.args.keys.now c.requires.sorted) (λ a r q k. search rules) in
    let past = c.if-begin-keys.false in
    rw (le-ltb c.partition_point-begin.result (length c.args.keys.now) past) (range_past c.args.from c.args.to c.partition_point-begin.result c.args.keys.now point past)
