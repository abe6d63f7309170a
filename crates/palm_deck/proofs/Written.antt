-- The lines of a deck need no quotes.
use Rattle.std.proofs.Common.{◌≡◌, ℕ, ◌+◌, ◌<◌, ◌^◌, true, false, not, List, [], ◌∷◌, ◌++◌, take, Option, Some, None, refl, ap, ◌∙◌, arith, append_assoc, codes, ◌||◌}
use Rattle.std.specs.Prelude.{slice_get}
use Rattle.std.specs.List.{flat_map, list_any}
use Rattle.std.specs.Fmt.{decimal}
use Rattle.std.specs.Io.KnownBytes.{Appends}
use Rattle.std.proofs.lemmas.Bool.{and_parts}
use Rattle.std.proofs.lemmas.List.{append-nil}
use Rattle.csv.specs.Writing.{default_writer, fields_text, is_blank, needs_byte, row_text}
use Rattle.palm_base.specs.Prefix.{IsPrefix, is_no_digit}
use Rattle.palm_base.specs.Text.{digits_text}
use Rattle.palm_base.specs.declared.row.Row.{Row}
use Rattle.palm_base.proofs.Appended.{flat_map_next}
use Rattle.palm_base.proofs.Numerals.{all_digits, decimal_text, prefix_text}
use Rattle.palm_deck.specs.Deck.{row_line}

-- no byte of the field asks for quotes
abbrev IsPlain : List ℕ → Type 0
IsPlain field = list_any (needs_byte default_writer) field ≡ false

plain_byte : (b : ℕ) → not (is_no_digit b) ≡ true → needs_byte default_writer b ≡ false
plain_byte b h = grind arith

plain_digits : (text : List ℕ) → all_digits text ≡ true → IsPlain text
plain_digits [] h = refl
plain_digits (b ∷ text) h =
    let parts = and_parts (not (is_no_digit b)) (all_digits text) h in
    ap (λ v. v || list_any (needs_byte default_writer) text) (plain_byte b parts.0) ∙ plain_digits text parts.1

pub line_is : (row : Row) → IsPrefix row.prefix → row.rate < 2 ^ 64
    → row_text default_writer (codes "set" ∷ digits_text row.prefix ∷ decimal row.rate ∷ []) ≡ row_line row
unfolding fields_text is_blank
line_is row prefix small =
    let digits = plain_digits (digits_text row.prefix) (prefix_text row.prefix prefix).digits in
    let rate = plain_digits (decimal row.rate) (decimal_text row.rate).digits in
    rw (digits, rate) (ap (λ (t : List ℕ). codes "set," ++ t) (append_assoc (digits_text row.prefix) (codes "," ++ (decimal row.rate ++ [])) (codes "\n") ∙ ap (λ (l : List ℕ). digits_text row.prefix ++ (codes "," ++ (l ++ codes "\n"))) (append-nil (decimal row.rate))))

pub header_is : row_text default_writer (codes "op" ∷ codes "prefix" ∷ codes "rate" ∷ []) ≡ codes "op,prefix,rate\n"
unfolding fields_text is_blank
header_is = refl

-- what a writer holds after it took some bytes more
appended : (old new : Option (List ℕ)) (text more : List ℕ) → old ≡ Some text → Appends old new more → new ≡ Some (text ++ more)
appended None new text more e h = absurd (cc)
appended (Some a) None text more e h = absurd h
appended (Some a) (Some b) text more e h =
    let same : a ≡ text = cc in
    ap (λ (l : List ℕ). Some l) (h ∙ ap (λ (l : List ℕ). l ++ more) same)

-- one more row's line stands after those so far
pub line_added : (old new : Option (List ℕ)) (rows : List Row) (i : ℕ) (row : Row) (fields : List (List ℕ)) → slice_get rows i ≡ Some row
    → old ≡ Some (codes "op,prefix,rate\n" ++ flat_map row_line (take i rows)) → Appends old new (row_text default_writer fields)
    → fields ≡ codes "set" ∷ digits_text row.prefix ∷ decimal row.rate ∷ [] → IsPrefix row.prefix → row.rate < 2 ^ 64
    → new ≡ Some (codes "op,prefix,rate\n" ++ flat_map row_line (take (i + 1) rows))
line_added old new rows i row fields found so_far added fields-are prefix small =
    let line : row_text default_writer fields ≡ row_line row = ap (row_text default_writer) fields-are ∙ line_is row prefix small in
    let text = appended old new _ (row_text default_writer fields) so_far added in
    let head : List ℕ = codes "op,prefix,rate\n" in
    text ∙ ap (λ (l : List ℕ). Some l) (flat_map_next row_line rows i row [] head (head ++ flat_map row_line (take i rows)) _ found refl (ap (λ (l : List ℕ). (head ++ flat_map row_line (take i rows)) ++ l) line))
