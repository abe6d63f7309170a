-- `clap`, with the values read after it, accepts the words that are of the form, and gives what they set.
use Rattle.std.proofs.Common.{◌≡◌, ◌⊎◌, inl, inr, ◌≤◌, Bool, true, false, not, List, [], ◌∷◌, map, length, Some, None, Option, refl, sym, ap, ◌∙◌, subst, true≢false, arith}
use Rattle.std.specs.Prelude.{if◌then◌else◌, option_and_then, option_to_list}
use Rattle.std.specs.List.{AllByRecursion, list_all}
use Rattle.std.specs.Str.{bytes_eq, IsUtf8}
use Rattle.std.proofs.lemmas.Bool.{and_parts, and_right, not-true, or_cases}
use Rattle.std.proofs.lemmas.Slice.Eq.{bytes_eq-Decides}
use Rattle.clap.specs.Walk.{Row, first_of, nothing_held, rows_after, rows_of}
use Rattle.clap.specs.Simple.{App, matches_of, names_of}
use Rattle.clap.specs.Kinds.{Kinds}
use Rattle.clap.specs.Faults.{built_fault, fault_of}
use Rattle.std.specs.Prelude.{String, string_bytes}
use Rattle.std.proofs.lemmas.Str.{IsUtf8-string_bytes}
use Rattle.clap.specs.declared.parser.matches.Found.{Found}
use Rattle.clap.proofs.WalkLemmas.{first_value-rows}
use Rattle.clap.proofs.FaultLemmas.{leaf_fault}
use Rattle.palm_words.specs.Items.{Text, Item, option, mode_word, is_among, items_from, values_of, mode_words}
use Rattle.palm_words.specs.Settings.{options, option_names, at_most_one, are_good, one_mode, settings, set_by, settings_of}
use Rattle.palm_words.specs.Command.{command_for, palm_command, set_by_matches}
use Rattle.palm_words.specs.declared.settings.Settings.{Settings}
use Rattle.palm_words.proofs.Arguments.{mode, rules, shape, built_is}
use Rattle.palm_words.proofs.HeldRows.{row_for, no_fault, no_fault_both}
use Rattle.palm_words.proofs.Turns.{between}
use Rattle.palm_words.proofs.Walks.{loose_from, pair_of, pairs, fresh, accepted, joined, goes, rows_from, walks}
use Rattle.palm_words.proofs.LoneDashes.{AreNamed, HasLone, lone_dash, Related, related}
use Rattle.palm_words.proofs.ItemPairs.{texts_under, head, first_is, fresh_once, stale, known_pairs, values_are, modes_are}

-- What items set.
abbrev set_in : List Item → Option Settings
set_in items = set_by (mode_words items) (values_of items)

-- ---- what is set follows from the VALUEs of the options alone

set_by_same : (words : List Text) (f g : Text → List Text) → ((n : Text) → is_among n option_names ≡ true → f n ≡ g n) → set_by words f ≡ set_by words g
set_by_same words f g same = λ k. set_by words (λ n. at n (is_among n option_names) refl k)
  where
    at : (n : Text) (b : Bool) → is_among n option_names ≡ b → (if b then f n else []) ≡ (if b then g n else [])
    at n true e = same n e
    at n false e = refl

-- ---- where each id stands once

-- The first value in these rows under an id, or none.
abbrev values_by : List Row → Text → List Text
values_by rows id = option_to_list (first_of id rows)

head_is : (vs : List Text) → length vs ≤ 1 → vs ≡ option_to_list (head vs)
head_is [] h = refl
head_is (v ∷ []) h = refl
head_is (v ∷ w ∷ rest) h = absurd (omega arith)

module _ (is : List Item) (rows : List Row) (same : rows ≡ map row_for (map pair_of is)) (ok : fresh [] (map pair_of is) ≡ true) where
  by_rows : (id : Text) → texts_under id (map pair_of is) ≡ values_by rows id
  by_rows id =
      head_is (texts_under id (map pair_of is)) (fresh_once id [] (map pair_of is) ok (omega arith))
      ∙ ap option_to_list (sym (first_is id (map pair_of is)) ∙ ap (first_of id) (sym same))

  set_as_found : AreNamed option_names is → set_in is ≡ set_by (values_by rows mode) (values_by rows)
  set_as_found named =
      ap (λ ws. set_by ws (values_of is)) (modes_are option_names refl is named ∙ by_rows mode)
      ∙ set_by_same (values_by rows mode) (values_of is) (values_by rows) (λ n among. values_are option_names refl n is among ∙ by_rows n)

-- ---- where one does not

-- Two values or more, or a lone dash.
abbrev Bad : List Text → Type 0
Bad vs = (2 ≤ length vs) ⊎ (vs ≡ lone_dash ∷ [])

bad_values : (is_good : Text → Bool) (vs : List Text) → is_good lone_dash ≡ false → Bad vs → at_most_one is_good vs ≡ false
bad_values is_good vs dash (inr e) = ap (at_most_one is_good) e ∙ dash
bad_values is_good [] dash (inl h) = absurd (omega arith)
bad_values is_good (v ∷ []) dash (inl h) = absurd (omega arith)
bad_values is_good (v ∷ w ∷ rest) dash (inl h) = refl

-- Whichever option has them.
bad_among : (rows : List (Text × (Text → Bool))) (values : Text → List Text) (n : Text) → list_all (λ o. not (o.1 lone_dash)) rows ≡ true → is_among n (map (λ o. o.0) rows) ≡ true → Bad (values n)
    → list_all (λ o. at_most_one o.1 (values o.0)) rows ≡ false
bad_among [] values n dashes among bad = absurd (true≢false (sym among))
bad_among (o ∷ os) values n dashes among bad =
    let dash = and_parts (not (o.1 lone_dash)) (list_all (λ o. not (o.1 lone_dash)) os) dashes in
    elim (or_cases (bytes_eq o.0 n) _ among) [
      | inl e ↦ rw (bad_values o.1 (values o.0) (not-true _ dash.0) (subst (λ t. Bad (values t)) (sym ((bytes_eq-Decides o.0 n).0 e)) bad)) refl
      | inr more ↦ rw (bad_among os values n dash.1 more bad) (and_right (at_most_one o.1 (values o.0)) false refl)
    ]

bad_modes : (vs : List Text) → (vs ≡ []) ⊎ Bad vs → one_mode vs ≡ None
bad_modes vs (inl e) = ap one_mode e
bad_modes vs (inr (inr e)) = ap one_mode e
bad_modes [] (inr (inl h)) = absurd (omega arith)
bad_modes (v ∷ []) (inr (inl h)) = absurd (omega arith)
bad_modes (v ∷ w ∷ rest) (inr (inl h)) = refl

none_then : {A B : Type 0} (o : Option A) (f : A → Option B) → ((x : A) → f x ≡ None) → option_and_then f o ≡ None
none_then None f h = refl
none_then (Some x) f h = h x

module _ (is : List Item) where
  bad_option : (n : Text) → is_among n option_names ≡ true → Bad (values_of is n) → set_in is ≡ None
  bad_option n among bad =
      none_then (one_mode (mode_words is)) _ (λ mode. ap (λ b. if b then Some (settings (values_of is) mode) else None) (bad_among options (values_of is) n refl among bad))

  bad_mode : (mode_words is ≡ []) ⊎ Bad (mode_words is) → set_in is ≡ None
  bad_mode bad = ap (option_and_then (λ mode. if are_good (values_of is) then Some (settings (values_of is) mode) else None)) (bad_modes (mode_words is) bad)

-- An id stands twice, or no mode word stands.
stale_fails : (is : List Item) → AreNamed option_names is → fresh [] (map pair_of is) ≡ false → set_in is ≡ None
stale_fails is named f = elim (stale option_names [] (map pair_of is) (known_pairs option_names is named) f) [
  | inl (id, inl among, two) ↦ bad_option is id among (inl (subst (λ (vs : List Text). 2 ≤ length vs) (sym (values_are option_names refl id is among)) two))
  | inl (id, inr e, two) ↦ bad_mode is (inr (inl (subst (λ (vs : List Text). 2 ≤ length vs) (ap (λ t. texts_under t (map pair_of is)) e ∙ sym (modes_are option_names refl is named)) two)))
  | inr e ↦ bad_mode is (inl (modes_are option_names refl is named ∙ e))
]

-- A lone dash is no VALUE and no mode word.

more_bad : (v : Text) (vs : List Text) → Bad vs → Bad (v ∷ vs)
more_bad v vs (inl h) = inl (omega arith)
more_bad v vs (inr e) = inl (rw e (omega arith))

first_bad : (v : Text) (vs : List Text) → v ≡ lone_dash → Bad (v ∷ vs)
first_bad v [] e = inr (ap (λ t. t ∷ []) e)
first_bad v (w ∷ ws) e = inl (omega arith)

-- The item with the dash.
abbrev Where : List Item → Type 0
Where is = ((n : Text) × (is_among n option_names ≡ true) × Bad (values_of is n)) ⊎ Bad (mode_words is)

kept_bad : (b : Bool) (v : Text) (vs : List Text) → Bad vs → Bad (if b then v ∷ vs else vs)
kept_bad true v vs h = more_bad v vs h
kept_bad false v vs h = h

where_lone : (is : List Item) → AreNamed option_names is → HasLone is → Where is
where_lone [] named h = absurd h
where_lone (option n v ∷ is) named (inl e) =
    let self : bytes_eq n n ≡ true = (bytes_eq-Decides n n).1 refl in
    inl (n, named.0, rw self (first_bad v (values_of is n) e))
where_lone (mode_word w ∷ is) named (inl e) = inr (first_bad w (mode_words is) e)
where_lone (option n v ∷ is) named (inr h) = elim (where_lone is named.1 h) [
  | inl (m, among, bad) ↦ inl (m, among, kept_bad (bytes_eq n m) v (values_of is m) bad)
  | inr bad ↦ inr bad
]
where_lone (mode_word w ∷ is) named (inr h) = elim (where_lone is named.1 h) [
  | inl (m, among, bad) ↦ inl (m, among, bad)
  | inr bad ↦ inr (more_bad w (mode_words is) bad)
]

lone_fails : (is : List Item) → AreNamed option_names is → HasLone is → set_in is ≡ None
lone_fails is named h = elim (where_lone is named h) [
  | inl (n, among, bad) ↦ bad_option is n among bad
  | inr bad ↦ bad_mode is (inr bad)
]

-- ---- the whole

abbrev Same : Bool → List Row → Option (List Item) → Type 0
Same g rows o = (g ≡ true → set_by (values_by rows mode) (values_by rows) ≡ option_and_then set_in o) × (g ≡ false → option_and_then set_in o ≡ None)

same_by : (g : Bool) (rows : List Row) (o l : Option (List Item)) → Related option_names o l → g ≡ accepted [] (pairs l) → (accepted [] (pairs l) ≡ true → rows ≡ map row_for (joined [] (pairs l))) → Same g rows o
same_by g rows None None r e same = (λ t. absurd (true≢false (sym t ∙ e)), λ f. refl)
same_by g rows (Some is) None r e same = absurd r
same_by g rows None (Some ls) r e same =
    (λ t. sym (set_as_found ls rows (same (sym e ∙ t)) (sym e ∙ t) r.0) ∙ lone_fails ls r.0 r.1, λ f. refl)
same_by g rows (Some is) (Some ls) r e same =
    (λ t. sym (set_as_found ls rows (same (sym e ∙ t)) (sym e ∙ t) r.0) ∙ ap set_in (sym r.1), λ f. ap set_in r.1 ∙ stale_fails ls r.0 (sym e ∙ f))

goes_is : (names words : List Text) (apart : is_among mode names ≡ false) → no_fault (fault_of (command_for names) words) ≡ goes names apart (between false 1 [] None) words
goes_is names words apart =
    ap (λ (a : App). no_fault (built_fault a nothing_held words)) (built_is names) ∙ ap no_fault (leaf_fault (record { top = shape (rules names); subs = [] }) nothing_held words refl) ∙ no_fault_both _ _

rows_are : (names words : List Text) (apart : is_among mode names ≡ false) → matches_of (command_for names) words ≡ rows_from names apart (between false 1 [] None) words
rows_are names words apart = ap (λ (a : App). rows_after a.top.rules (names_of a) words) (built_is names)

agreed_at : (words : List Text) → AllByRecursion IsUtf8 words → Same (no_fault (fault_of palm_command words)) (matches_of palm_command words) (items_from option_names None words)
agreed_at words u =
    let w = (walks option_names refl words u).0 1 [] None tt refl in
    same_by (no_fault (fault_of palm_command words)) (matches_of palm_command words) (items_from option_names None words) (loose_from option_names None words) (related option_names words None tt)
    (goes_is option_names words refl ∙ w.0) (λ t. rows_are option_names words refl ∙ w.1 t)

pub refuses : (words : List Text) → AllByRecursion IsUtf8 words → (fault_of palm_command words ≡ [] → ⊥) → settings_of words ≡ None
refuses words u bad = (agreed_at words u).1 (some_kind (fault_of palm_command words) bad)
  where
    some_kind : (ks : Kinds) → (ks ≡ [] → ⊥) → no_fault ks ≡ false
    some_kind [] h = absurd (h refl)
    some_kind (k ∷ ks) h = refl

-- ---- as the program meets it

pub utf8_words : {Z : Type 0} (words : List (String Z)) → AllByRecursion IsUtf8 (map string_bytes words)
utf8_words [] = tt
utf8_words (w ∷ ws) = (IsUtf8-string_bytes w, utf8_words ws)

pub found_sets : (f : Found) (words : List Text) → AllByRecursion IsUtf8 words → fault_of palm_command words ≡ [] → rows_of f ≡ matches_of palm_command words → set_by_matches f ≡ settings_of words
found_sets f words u e rows =
    (λ i. set_by (option_to_list (first_value-rows f mode i)) (λ id. option_to_list (first_value-rows f id i)))
    ∙ ap (λ (rs : List Row). set_by (values_by rs mode) (values_by rs)) rows ∙ (agreed_at words u).0 (ap no_fault e)
