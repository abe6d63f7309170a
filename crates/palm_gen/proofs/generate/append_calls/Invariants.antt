use Rattle.std.proofs.Common.{◌≡◌, ◌≤◌, ◌+◌, ◌-◌, ◌++◌}
use Rattle.std.specs.Prelude.{vec_len, vec_capacity}
use Rattle.palm_gen.specs.Generator.{history_from, state_after}
use Rattle.palm_gen.proofs.generate.append_calls.Given as goal

-- what stands there and the calls that are left to make are all, there is room for these, and they end in the same state
abbrev pub invariant-loop-made : goal.invariant-loop-made
invariant-loop-made l = record {
  made : l.entries.items ++ history_from (l.count - l.made) l.latest (l.i + l.made) ≡ l.fn.entries.items ++ history_from l.count l.fn.state l.i;
  state : state_after (l.count - l.made) l.latest ≡ state_after l.count l.fn.state;
  room : vec_len l.entries + (l.count - l.made) ≤ vec_capacity l.entries;
}
