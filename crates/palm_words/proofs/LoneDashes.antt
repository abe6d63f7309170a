-- The items that `clap` reads, and those that the words say: they differ only where a lone dash stands as a VALUE or as a mode
-- word, which `clap` takes and the form refuses.
use Rattle.std.proofs.Common.{◌≡◌, ◌⊎◌, inl, inr, ◌&&◌, Bool, true, false, not, List, [], ◌∷◌, map, Some, None, Option, refl, ap, codes, take}
use Rattle.std.specs.Prelude.{if◌then◌else◌}
use Rattle.std.specs.Str.{bytes_eq}
use Rattle.std.proofs.lemmas.Slice.Eq.{bytes_eq-Decides}
use Rattle.palm_words.specs.Items.{Text, Item, option, mode_word, is_among, then_items, two_dashes, name_in, value_in, with_value, begins_with_dash, items_from}
use Rattle.palm_words.proofs.WordForms.{refused}
use Rattle.palm_words.proofs.Walks.{loose_from}

abbrev pub lone_dash : Text
lone_dash = codes "-"

abbrev pub IsLone : Item → Type 0
IsLone (option n v) = v ≡ lone_dash
IsLone (mode_word w) = w ≡ lone_dash

abbrev pub HasLone : List Item → Type 0
HasLone [] = ⊥
HasLone (i ∷ is) = IsLone i ⊎ HasLone is

module _ (names : List Text) where
  -- options have names of these
  abbrev pub IsNamed : Item → Type 0
  IsNamed (option n v) = is_among n names ≡ true
  IsNamed (mode_word w) = Unit {0}

  abbrev pub AreNamed : List Item → Type 0
  AreNamed [] = Unit {0}
  AreNamed (i ∷ is) = IsNamed i × AreNamed is

  -- items of the words, and those that `clap` reads
  abbrev pub Related : Option (List Item) → Option (List Item) → Type 0
  Related None None = Unit {0}
  Related (Some is) None = ⊥
  Related None (Some ls) = AreNamed ls × HasLone ls
  Related (Some is) (Some ls) = AreNamed ls × (is ≡ ls)

  both : (i : Item) (o l : Option (List Item)) → IsNamed i → Related o l → Related (then_items i o) (then_items i l)
  both i None None n r = tt
  both i (Some is) None n r = absurd r
  both i None (Some ls) n r = ((n, r.0), inr r.1)
  both i (Some is) (Some ls) n r = ((n, r.0), ap (λ l. i ∷ l) r.1)

  only : (i : Item) (o l : Option (List Item)) → IsNamed i → IsLone i → Related o l → Related None (then_items i l)
  only i None None n lone r = tt
  only i (Some is) None n lone r = absurd r
  only i None (Some ls) n lone r = ((n, r.0), inl lone)
  only i (Some is) (Some ls) n lone r = ((n, r.0), inl lone)

  -- a word that is taken as an item, unless it begins with a dash
  taken_word : (i : Item) (word : Text) (o l : Option (List Item)) (b c : Bool) → begins_with_dash word ≡ b → bytes_eq word (codes "-") ≡ c → IsNamed i → (word ≡ lone_dash → IsLone i) → Related o l
      → Related (if b then None else then_items i o) (if (b && not c) then None else then_items i l)
  taken_word i word o l false c eb ec n lone r = both i o l n r
  taken_word i word o l true false eb ec n lone r = tt
  taken_word i word o l true true eb ec n lone r = only i o l n (lone ((bytes_eq-Decides word (codes "-")).0 ec)) r

  all_modes : (words : List Text) → AreNamed (map mode_word words)
  all_modes [] = tt
  all_modes (w ∷ ws) = (tt, all_modes ws)

  abbrev pub IsWaiting : Option Text → Type 0
  IsWaiting None = Unit {0}
  IsWaiting (Some n) = is_among n names ≡ true

  valued : (n : Text) (v : Option Text) (items loose : Option Text → Option (List Item)) → is_among n names ≡ true → ((w : Option Text) → IsWaiting w → Related (items w) (loose w))
      → Related (with_value n v items) (with_value n v loose)
  valued n (Some v) items loose n-is r = both (option n v) (items None) (loose None) n-is (r None tt)
  valued n None items loose n-is r = r (Some n) n-is

  pub related : (words : List Text) (w : Option Text) → IsWaiting w → Related (items_from names w words) (loose_from names w words)
  related [] None k = (tt, refl)
  related [] (Some n) k = tt
  related (word ∷ rest) (Some n) k =
      taken_word (option n word) word (items_from names None rest) (loose_from names None rest) (begins_with_dash word) (bytes_eq word (codes "-")) refl refl k (λ e. e) (related rest None tt)
  related (word ∷ rest) None k =
      choose (bytes_eq word two_dashes) (bytes_eq (take 2 word) two_dashes) (is_among (name_in word) names) refl (related rest)
    where
      choose : (ends dashes among : Bool) → is_among (name_in word) names ≡ among → ((w : Option Text) → IsWaiting w → Related (items_from names w rest) (loose_from names w rest))
          → Related
          (if ends then Some (map mode_word rest) else (if (dashes && among) then with_value (name_in word) (value_in word) (λ waiting. items_from names waiting rest) else (if begins_with_dash word then None else then_items (mode_word word) (items_from names None rest))))
          (if ends then Some (map mode_word rest) else (if (dashes && among) then with_value (name_in word) (value_in word) (λ waiting. loose_from names waiting rest) else (if refused word then None else then_items (mode_word word) (loose_from names None rest))))
      choose true dashes among is r = (all_modes rest, refl)
      choose false true true is r = valued (name_in word) (value_in word) (λ waiting. items_from names waiting rest) (λ waiting. loose_from names waiting rest) is r
      choose false true false is r = taken_word (mode_word word) word (items_from names None rest) (loose_from names None rest) (begins_with_dash word) (bytes_eq word (codes "-")) refl refl tt (λ e. e) (r None tt)
      choose false false among is r = taken_word (mode_word word) word (items_from names None rest) (loose_from names None rest) (begins_with_dash word) (bytes_eq word (codes "-")) refl refl tt (λ e. e) (r None tt)
