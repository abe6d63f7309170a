use Rattle.std.proofs.Common.{◌≡◌, length}
use Rattle.std.specs.List.{AllByRecursion}
use Rattle.palm_bench.specs.Kinds.{IsOfKind}
use Rattle.palm_bench.proofs.run.fill.Given as goal

abbrev pub invariant-loop-place : goal.invariant-loop-place
invariant-loop-place l = record {
  many : length l.batch.items ≡ l.place;
  kinds : AllByRecursion (λ entry. IsOfKind l.fn.feed.kind entry.call) l.batch.items;
  kind : l.feed.kind ≡ l.fn.feed.kind;
}
