-- The law of decks, which the function of the module of laws carries.
use Rattle.std.specs.Prelude.{◌≡◌, ◌≤◌, List, map, Ok}
use Rattle.std.specs.List.{AllByRecursion}
use Rattle.palm_base.specs.History.{numbered}
use Rattle.palm_base.specs.Pass.{set_of}
use Rattle.palm_base.specs.Prefix.{IsPrefix}
use Rattle.palm_base.specs.declared.amount.TheConstants.{MOST_RATE}
use Rattle.palm_base.specs.declared.row.Row.{Row}
use Rattle.palm_deck.specs.Deck.{deck_of, deck_text}

-- Each has a prefix of 1 to 15 digits and a rate of at most `MOST_RATE`, as rows of the program always have.
-- So 44 at 999,999,999,999 alone is well, and 44 at 1,000,000,000,000 isn't.
abbrev pub AreRows : List Row → Type 0
AreRows rows = AllByRecursion (λ row. IsPrefix row.prefix × (row.rate ≤ MOST_RATE)) rows

-- The deck of rows says a Set for each of them, in their order.
-- So that of 44 at 5 and 45 at 6 says (0, 0, Set 44 5), (0, 1, Set 45 6).
abbrev pub DecksReadBack : Type 0
DecksReadBack = (rows : List Row) → AreRows rows → deck_of (deck_text rows) ≡ Ok (numbered 0 0 (map set_of rows))
