-- The mode `deck`: what a deck says, and how its run ends.
use Rattle.std.specs.Prelude.{◌≡◌, ℕ, ◌≤◌, ◌⊎◌, List, [], length, Ok, Err, Option}
use Rattle.std.specs.Io.KnownBytes.{Appends, IsAtEnd}
use Rattle.palm_base.specs.Tree.{Tree}
use Rattle.palm_base.specs.declared.call.Entry.{Entry}
use Rattle.palm_deck.specs.Deck.{deck_of, deck_text}
use Rattle.palm_deck.specs.declared.deck.DeckFault.TheVariants.{Bad}
use Rattle.palm_deck.specs.declared.deck.DeckWhy.{DeckWhy}
use Rattle.palm_script.specs.declared.input.TheConstants.{MOST_BYTES}
use Rattle.palm_cli.specs.Streams.{AppendsFront}
use Rattle.palm_cli.specs.Tables.{table_left, tree_left}

-- The deck of the table that edits leave of the empty one. So Set 44 5, Set 44 7 leave the deck "op,prefix,rate", "set,44,7".
abbrev pub deck_left : List Entry → List ℕ
deck_left edits = deck_text (table_left edits)

-- The deck b is good, and the deck of the table that its edits leave was taken. The tree is the one that they leave in
-- batches of `most`. So by "op,prefix,rate" and "set,44,7" a sink that was empty has these two lines, and the tree is a leaf
-- of one row.
pub record IsGoodDeck (most : ℕ) (b : List ℕ) (old new : Option (List ℕ)) (after : Tree) : Type 0 where
  pub size : length b ≤ MOST_BYTES
  pub edits : List Entry
  pub says : deck_of b ≡ Ok edits
  pub text : Appends old new (deck_left edits)
  pub tree : after ≡ tree_left most edits

-- The record of this number is the first of the deck b with a fault, and this is its fault. So of the lines "op,prefix,rate",
-- "set,44,7" and "set,4x,7" it is the record 3, with Prefix.
pub record IsBadDeck (b : List ℕ) (row : ℕ) (why : DeckWhy) : Type 0 where
  pub size : length b ≤ MOST_BYTES
  pub first : deck_of b ≡ Err (Bad row why)

-- Where the source now has `rest`, the bytes that were read are all of a source that isn't too long and a good deck, and what
-- was taken begins the deck that it leaves. So where "op,prefix,rate" and "set,44,7" were read, a sink that was empty may have
-- "op,pre".
abbrev pub IsBegunDeck : (read : List ℕ) (rest old new : Option (List ℕ)) → Type 0
IsBegunDeck read rest old new =
    IsAtEnd rest × (length read ≤ MOST_BYTES) × ((edits : List Entry) × (deck_of read ≡ Ok edits) × AppendsFront old new (deck_left edits))

-- The run stopped before its end, after these bytes were read and where the source now has `rest`. Nothing was taken, or what
-- was taken begins the deck that a good one leaves. So where "op,prefix,rate" and "set,4x,7" were read, it is so of a sink that
-- took nothing.
abbrev pub IsStoppedDeck : (read : List ℕ) (rest old new : Option (List ℕ)) → Type 0
IsStoppedDeck read rest old new = Appends old new [] ⊎ IsBegunDeck read rest old new
