-- The items that words say: options with their VALUEs, and mode words.
use Rattle.std.specs.Prelude.{ℕ, ◌==◌, ◌&&◌, Bool, false, if◌then◌else◌, List, [], ◌∷◌, map, take, drop, codes, Option, Some, None, option_map}
use Rattle.std.specs.List.{list_any, before_first, after_first}
use Rattle.std.specs.Str.{bytes_eq}

-- A text, as the list of its bytes. So "4a" is 52, 97.
abbrev pub Text : Type 0
Text = List ℕ

-- What words say, one by one: an option with its NAME and its VALUE, or a mode word.
-- So "--batch=4" says the option batch with 4, and "replay" a mode word.
pub data Item : Type 0 where
  option : Text → Text → Item
  mode_word : Text → Item

-- This text is one of those. So "a" is among "b" and "a".
abbrev pub is_among : Text → List Text → Bool
is_among text texts = list_any (λ t. bytes_eq t text) texts

-- The word that ends the options. So it is the bytes 45, 45.
abbrev pub two_dashes : Text
two_dashes = codes "--"

-- So "-", "--" and "-x" do.
abbrev pub begins_with_dash : Text → Bool
begins_with_dash [] = false
begins_with_dash (c ∷ cs) = c == 45

-- The byte `=`. So 61 is it, and 45 isn't.
abbrev pub is_equals_sign : ℕ → Bool
is_equals_sign c = c == 61

-- NAME of `--NAME` and of `--NAME=VALUE`. So that of "--batch=4" is "batch".
abbrev pub name_in : Text → Text
name_in word = before_first is_equals_sign (drop 2 word)

-- VALUE of `--NAME=VALUE`. So that of "--batch=4=5" is "4=5", and "--batch" has none.
abbrev pub value_in : Text → Option Text
value_in word = if list_any is_equals_sign (drop 2 word) then Some (after_first is_equals_sign (drop 2 word)) else None

-- A word `--NAME` or `--NAME=VALUE` with one of these names. So "--batch=4" is one, and "--bat=4" isn't.
abbrev pub names_option : List Text → Text → Bool
names_option names word = bytes_eq (take 2 word) two_dashes && is_among (name_in word) names

-- This item, and then those of the rest; none where the rest is refused.
-- So "deck" as a mode word, and then no items, are this item alone.
abbrev pub then_items : Item → Option (List Item) → Option (List Item)
then_items item rest = option_map (λ items. item ∷ items) rest

-- An option whose VALUE stands in its own word, or in the next one: then the rest begins with this name waiting for it.
-- So that of "batch" with "4" is the option batch with 4 and then the rest, and without it the rest has "batch" waiting.
abbrev pub with_value : Text → Option Text → (Option Text → Option (List Item)) → Option (List Item)
with_value name (Some value) rest = then_items (option name value) (rest None)
with_value name None rest = rest (Some name)

-- The items of words, with options of these names, read from the left; none where a word is refused. An option whose name
-- was read may wait for its VALUE, which must not begin with a dash. The word `--` ends the options: those after it are
-- mode words. Any other word that begins with a dash is refused, and every other word is a mode word.
-- So "--batch", "4", "--", "-x" are the option batch with 4 and the mode word "-x", and "--batch", "-4" are refused.
abbrev pub items_from : List Text → Option Text → List Text → Option (List Item)
items_from names None [] = Some []
items_from names (Some name) [] = None
items_from names (Some name) (word ∷ rest) =
    if begins_with_dash word then None else then_items (option name word) (items_from names None rest)
items_from names None (word ∷ rest) =
    if bytes_eq word two_dashes then Some (map mode_word rest) else
    if names_option names word then with_value (name_in word) (value_in word) (λ waiting. items_from names waiting rest) else
    if begins_with_dash word then None else then_items (mode_word word) (items_from names None rest)

-- The VALUEs of the options of this name, in their order. So after "--batch=4", "--batch=5" those of batch are "4" and "5".
abbrev pub values_of : List Item → Text → List Text
values_of [] name = []
values_of (option n value ∷ rest) name = if bytes_eq n name then value ∷ values_of rest name else values_of rest name
values_of (mode_word w ∷ rest) name = values_of rest name

-- The mode words, in their order. So after "replay", "--batch=4" there is "replay" alone.
abbrev pub mode_words : List Item → List Text
mode_words [] = []
mode_words (option n value ∷ rest) = mode_words rest
mode_words (mode_word w ∷ rest) = w ∷ mode_words rest
