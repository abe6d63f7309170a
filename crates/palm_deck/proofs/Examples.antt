-- Decks written out, with what they say.
use Rattle.std.proofs.Common.{◌≡◌, [], ◌∷◌, ◌++◌, Ok, Err, refl, codes}
use Rattle.std.specs.Fmt.{digits}
use Rattle.csv.proofs.OnLiterals.{csv_on_literals}
use Rattle.palm_base.specs.History.{numbered}
use Rattle.palm_base.specs.declared.call.Call.TheVariants.{Set, Del}
use Rattle.palm_deck.specs.declared.deck.DeckWhy.TheVariants.{Header, Fields, Op, Prefix, Rate}
use Rattle.palm_deck.specs.declared.deck.DeckFault.TheVariants.{Bad}
use Rattle.palm_deck.specs.Deck.{deck_of, deck_text, fault_text, order_mark}

small : deck_of (codes "op,prefix,rate\r\nset,44,1000\r\n\"set\",\"441\",\"900\"\r\nset,44,1100\r\ndel,441,\r\n")
    ≡ Ok (numbered 0 0 (Set (4 ∷ 4 ∷ []) 1_000 ∷ Set (4 ∷ 4 ∷ 1 ∷ []) 900 ∷ Set (4 ∷ 4 ∷ []) 1_100 ∷ Del (4 ∷ 4 ∷ 1 ∷ []) ∷ []))
unfolding csv_on_literals
small = refl

marked : deck_of (order_mark ++ codes "op,prefix,rate\nset,04,007") ≡ Ok (numbered 0 0 (Set (0 ∷ 4 ∷ []) 7 ∷ []))
unfolding csv_on_literals
marked = refl

-- `csv` drops a second mark
twice_marked : deck_of (order_mark ++ (order_mark ++ codes "op,prefix,rate\n")) ≡ Ok []
unfolding csv_on_literals
twice_marked = refl

-- and a third one is part of the first field
thrice_marked : deck_of (order_mark ++ (order_mark ++ (order_mark ++ codes "op,prefix,rate\n"))) ≡ Err (Bad 1 Header)
unfolding csv_on_literals
thrice_marked = refl

-- a line without bytes is no record
blank_line : deck_of (codes "op,prefix,rate\n\nset,4\n") ≡ Err (Bad 2 Fields)
unfolding csv_on_literals
blank_line = refl

-- CR alone ends a line too, and quotes keep what stands between them
quoted : deck_of (codes "op,prefix,rate\rset,\"4,4\",7\rset,44,7") ≡ Err (Bad 2 Prefix)
unfolding csv_on_literals
quoted = refl

no_record : deck_of [] ≡ Err (Bad 1 Header)
unfolding csv_on_literals
no_record = refl

bad_op : deck_of (codes "op,prefix,rate\nput,4x,1\n") ≡ Err (Bad 2 Op)
unfolding csv_on_literals
bad_op = refl

bad_prefix : deck_of (codes "op,prefix,rate\nset,4x,-1\n") ≡ Err (Bad 2 Prefix)
unfolding csv_on_literals
bad_prefix = refl

bad_rate : deck_of (codes "op,prefix,rate\ndel,4,1\n") ≡ Err (Bad 2 Rate)
unfolding csv_on_literals
bad_rate = refl

-- the first record with a fault counts
first_fault : deck_of (codes "op,prefix,rate\nset,4,1\nset,4,x\nput,4,1\n") ≡ Err (Bad 3 Rate)
unfolding csv_on_literals
first_fault = refl

written : deck_text ((record { prefix = 4 ∷ 4 ∷ []; rate = 5 }) ∷ (record { prefix = 0 ∷ 4 ∷ 5 ∷ []; rate = 0 }) ∷ []) ≡ codes "op,prefix,rate\nset,44,5\nset,045,0\n"
unfolding digits
written = refl

told : fault_text (Bad 2 Prefix) ≡ codes "row 2 fault 4"
unfolding digits
told = refl
