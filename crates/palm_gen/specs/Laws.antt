-- The laws of generated calls, which the functions of the module of laws carry.
use Rattle.std.specs.Prelude.{◌≡◌, ℕ, ◌+◌, ◌++◌, length}
use Rattle.palm_gen.specs.Generator.{history_from, state_after}

-- The calls n + m from a state are n of them, and then m from the state after those.
-- So 5 calls from call 0 on are 2, and then 3 from call 2 on, drawn from the state after 6 draws.
abbrev pub HistoriesJoin : Type 0
HistoriesJoin = (n m state i : ℕ) → history_from (n + m) state i ≡ history_from n state i ++ history_from m (state_after n state) (i + n)

-- There are as many calls as asked for. So 9 calls from the state 0 are 9 entries, and 0 calls are none.
abbrev pub HistoriesAreLong : Type 0
HistoriesAreLong = (n state i : ℕ) → length (history_from n state i) ≡ n
