-- The deck of rows reads as a Set for each of them.
use Rattle.std.proofs.Common.{◌≡◌, ℕ, ◌+◌, ◌≤◌, cond, List, [], ◌∷◌, ◌++◌, map, None, Ok, Err, refl, sym, ap, ap₂, ◌∙◌, arith, codes}
use Rattle.std.specs.Prelude.{is_ok}
use Rattle.std.specs.List.{flat_map}
use Rattle.std.specs.Fmt.{decimal}
use Rattle.csv.specs.Machine.{next_record}
use Rattle.csv.specs.Reading.{Reached, default_config, records, strip_bom}
use Rattle.csv.specs.declared.parser.State.TheVariants as st
use Rattle.csv.proofs.RoundTrip.{read-write}
use Rattle.palm_base.specs.Numbers.{value_of}
use Rattle.palm_base.specs.Pass.{set_of}
use Rattle.palm_base.specs.Prefix.{IsPrefix, digits_in}
use Rattle.palm_base.specs.Text.{digits_text}
use Rattle.palm_base.specs.declared.amount.TheConstants.{MOST_RATE}
use Rattle.palm_base.specs.declared.row.Row.{Row}
use Rattle.palm_base.specs.declared.call.Call.TheVariants.{Set}
use Rattle.palm_base.proofs.Numerals.{value_of-decimal, is_from_to-decimal, digits_in-digits_text, read_of-digits_text}
use Rattle.palm_deck.specs.declared.deck.DeckWhy.TheVariants.{Prefix, Rate}
use Rattle.palm_deck.specs.Deck.{Record, before, call_at, calls_from, calls_in, deck_text, placed, row_line, set_in}
use Rattle.palm_deck.specs.Laws.{AreRows, DecksReadBack}
use Rattle.palm_deck.proofs.Records.{all_records}
use Rattle.palm_deck.proofs.Written.{header_is, line_is}

abbrev fields : Row → Record
fields row = codes "set" ∷ digits_text row.prefix ∷ decimal row.rate ∷ []

abbrev header : Record
header = codes "op" ∷ codes "prefix" ∷ codes "rate" ∷ []

-- ---- the records of the text

lines_reached : (rows : List Row) → AreRows rows → Reached default_config st.StartRecord (flat_map row_line rows) (map fields rows) st.StartRecord []
unfolding Reached
lines_reached [] h = (refl, refl)
lines_reached (row ∷ rows) h =
    let line = line_is row h.0.0 (omega (arith, h.0.1)) in (
      (fields row, st.StartRecord, flat_map row_line rows),
      ap (λ (t : List ℕ). next_record default_config st.StartRecord [] [] (t ++ flat_map row_line rows)) (sym line) ∙ read-write (fields row) (flat_map row_line rows),
      refl,
      lines_reached rows h.1,
    )

all_reached : (rows : List Row) → AreRows rows → Reached default_config st.StartRecord (deck_text rows) (header ∷ map fields rows) st.StartRecord []
unfolding Reached
all_reached rows h = (
  (header, st.StartRecord, flat_map row_line rows),
  ap (λ (t : List ℕ). next_record default_config st.StartRecord [] [] (t ++ flat_map row_line rows)) (sym header_is) ∙ read-write header (flat_map row_line rows),
  refl,
  lines_reached rows h,
)

at_end : next_record default_config st.StartRecord [] [] [] ≡ None
unfolding next_record
at_end = refl

no_mark : (rows : List Row) → strip_bom (deck_text rows) ≡ deck_text rows
unfolding strip_bom
no_mark rows = refl

-- ---- what they say

set_back : (row : Row) → IsPrefix row.prefix → row.rate ≤ MOST_RATE → set_in (digits_text row.prefix) (decimal row.rate) ≡ Ok (set_of row)
set_back row prefix most =
    let dialled = ap is_ok (read_of-digits_text row.prefix prefix) in
    let rated = is_from_to-decimal 0 MOST_RATE row.rate (omega (arith, most)) (omega arith) most in
    ap₂ (λ p r. cond p (cond r (Ok (Set (digits_in (digits_text row.prefix)) (value_of (decimal row.rate)))) (Err Rate)) (Err Prefix)) dialled rated
    ∙ ap₂ (λ (p : List ℕ) (r : ℕ). Ok (Set p r)) (digits_in-digits_text row.prefix) (value_of-decimal row.rate (omega (arith, most)))

calls_back : (n : ℕ) (rows : List Row) → AreRows rows → calls_from n (map fields rows) ≡ Ok (map set_of rows)
calls_back n [] h = refl
calls_back n (row ∷ rows) h =
    let one : call_at n (fields row) ≡ Ok (set_of row) = rw (set_back row h.0.0 h.0.1) refl in
    ap₂ before one (calls_back (n + 1) rows h.1)

pub reads_back : DecksReadBack
reads_back rows h =
    ap (λ (t : List ℕ). placed (calls_in (records default_config t))) (no_mark rows)
    ∙ ap (λ (l : List Record). placed (calls_in l)) (all_records default_config (deck_text rows) (header ∷ map fields rows) st.StartRecord [] (all_reached rows h) at_end)
    ∙ ap placed (calls_back 2 rows h)
