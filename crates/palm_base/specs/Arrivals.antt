-- The calls that have arrived at a desk, and what each caller has of them.
use Rattle.std.specs.Prelude.{ℕ, ◌+◌, ◌==◌, cond, List, [], ◌∷◌}
use Rattle.palm_base.specs.declared.call.Call.{Call}
use Rattle.palm_base.specs.declared.call.Entry.{Entry}
use Rattle.palm_base.specs.declared.call.Reply.{Reply}

-- An entry of its three parts.
abbrev pub entry : ℕ → ℕ → Call → Entry
entry c place call = record { caller = c; place = place; call = call }

-- How many of the entries are calls of the caller c. So of (3, 7, x), (2, 0, y), (3, 8, z) two are of 3.
abbrev pub count_of : ℕ → List Entry → ℕ
count_of c [] = 0
count_of c (e ∷ es) = cond (e.caller == c) 1 0 + count_of c es

-- The calls of the caller c with their numbers, where the first entry has the number n.
-- So from 10 on those of 3 among (3, 7, x), (2, 0, y), (3, 8, z) are (10, x), (12, z).
abbrev pub made_by : ℕ → ℕ → List Entry → List (ℕ × Call)
made_by c n [] = []
made_by c n (e ∷ es) = cond (e.caller == c) ((n, e.call) ∷ made_by c (n + 1) es) (made_by c (n + 1) es)

-- The replies to the calls of the caller c with their numbers, as far as there are replies.
-- So where the replies to those three are r, s, from 10 on 3 has (10, r).
abbrev pub replies_for : ℕ → ℕ → List Entry → List Reply → List (ℕ × Reply)
replies_for c n [] rs = []
replies_for c n (e ∷ es) [] = []
replies_for c n (e ∷ es) (r ∷ rs) =
    cond (e.caller == c) ((n, r) ∷ replies_for c (n + 1) es rs) (replies_for c (n + 1) es rs)
