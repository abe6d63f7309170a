-- The command's arguments, once `clap` has built it: an option for each name, and the mode word last. Which of them a name, an
-- id or a place finds; and that the end of the walk adds no default and asks for the mode word alone.
use Rattle.std.proofs.Common.{◌≡◌, ◌&&◌, ◌||◌, ℕ, Bool, true, false, not, List, [], ◌∷◌, ◌++◌, map, Some, None, Option, refl, sym, ap, ◌∙◌, codes, cond, true≢false}
use Rattle.std.specs.Prelude.{if◌then◌else◌}
use Rattle.std.specs.List.{list_any, fold}
use Rattle.std.specs.Str.{bytes_eq}
use Rattle.std.proofs.Math.Bool.{or-false}
use Rattle.std.proofs.lemmas.Slice.Eq.{bytes_eq-Decides}
use Rattle.clap.specs.Walk.{Rule, Row, Text, arg_by_id, arg_by_long, arg_by_index, arg_by_short, has_row, with_default}
use Rattle.clap.specs.Simple.{Shape, filled, with_index, filled_from, built, new_shape}
use Rattle.clap.specs.Takes.{is_given}
use Rattle.clap.specs.Kinds.{Kinds}
use Rattle.clap.specs.Faults.{defaults_fault, given_default_fault}
use Rattle.palm_words.specs.Items.{is_among}
use Rattle.palm_words.specs.Command.{option_rule, mode_rule, command_for}

abbrev pub mode : Text
mode = codes "mode"

-- an option, as built
abbrev pub built_option : Text → Rule
built_option name = with_index 1 (filled (option_rule name))

-- the mode word, as built
abbrev pub built_mode : Rule
built_mode = with_index 1 (filled mode_rule)

abbrev pub rules : List Text → List Rule
rules names = map built_option names ++ built_mode ∷ []

abbrev pub shape : List Rule → Shape
shape rs = record (new_shape (codes "palm")) { rules = rs; no_binary_name = true; disable_help_flag = true; disable_version_flag = true; disable_help_subcommand = true; is_built = true }

filled_rules : (names : List Text) → filled_from 1 (map option_rule names ++ mode_rule ∷ []) ≡ rules names
filled_rules [] = refl
filled_rules (n ∷ ns) = ap (λ rs. built_option n ∷ rs) (filled_rules ns)

pub built_is : (names : List Text) → built (command_for names) ≡ record { top = shape (rules names); subs = [] }
built_is names = ap (λ rs. record { top = shape rs; subs = [] }) (filled_rules names)

same_text : (m n : Text) → bytes_eq m n ≡ true → m ≡ n
same_text m n e = (bytes_eq-Decides m n).0 e

-- ---- which argument a word finds

-- an option's name finds it, by id and as a long name
by_id_at : (b : Bool) (m n : Text) (o : Option Rule) → (b ≡ true → m ≡ n) → (b ≡ false → o ≡ Some (built_option n)) → cond b (Some (built_option m)) o ≡ Some (built_option n)
by_id_at true m n o here later = ap (λ t. Some (built_option t)) (here refl)
by_id_at false m n o here later = later refl

later_among : (b c : Bool) → (b || c) ≡ true → b ≡ false → c ≡ true
later_among true c h e = absurd (true≢false e)
later_among false c h e = h

pub by_id : (names : List Text) (n : Text) → is_among n names ≡ true → arg_by_id (rules names) n ≡ Some (built_option n)
by_id [] n h = absurd (true≢false (sym h))
by_id (m ∷ ms) n h = by_id_at (bytes_eq m n) m n (arg_by_id (rules ms) n) (same_text m n) (λ e. by_id ms n (later_among (bytes_eq m n) (is_among n ms) h e))

by_long_at : (b : Bool) (m n : Text) (o : Option Rule) → (b ≡ true → m ≡ n) → (b ≡ false → o ≡ Some (built_option n)) → cond (b || false) (Some (built_option m)) o ≡ Some (built_option n)
by_long_at true m n o here later = ap (λ t. Some (built_option t)) (here refl)
by_long_at false m n o here later = later refl

pub by_long : (names : List Text) (n : Text) → is_among n names ≡ true → arg_by_long (rules names) n ≡ Some (built_option n)
by_long [] n h = absurd (true≢false (sym h))
by_long (m ∷ ms) n h = by_long_at (bytes_eq m n) m n (arg_by_long (rules ms) n) (same_text m n) (λ e. by_long ms n (later_among (bytes_eq m n) (is_among n ms) h e))

-- a name that no option has finds nothing
by_no_long_at : (b c : Bool) (r : Rule) (o : Option Rule) → (b || c) ≡ false → (c ≡ false → o ≡ None) → cond (b || false) (Some r) o ≡ None
by_no_long_at true c r o h later = absurd (true≢false h)
by_no_long_at false c r o h later = later h

pub by_no_long : (names : List Text) (n : Text) → is_among n names ≡ false → arg_by_long (rules names) n ≡ None
by_no_long [] n h = refl
by_no_long (m ∷ ms) n h = by_no_long_at (bytes_eq m n) (is_among n ms) (built_option m) (arg_by_long (rules ms) n) h (by_no_long ms n)

-- the mode word is found by its id, where no option is called so
by_mode_at : (b c : Bool) (r : Rule) (o : Option Rule) → (b || c) ≡ false → (c ≡ false → o ≡ Some built_mode) → cond b (Some r) o ≡ Some built_mode
by_mode_at true c r o h later = absurd (true≢false h)
by_mode_at false c r o h later = later h

pub by_mode : (names : List Text) → is_among mode names ≡ false → arg_by_id (rules names) mode ≡ Some built_mode
by_mode [] h = refl
by_mode (m ∷ ms) h = by_mode_at (bytes_eq m mode) (is_among mode ms) (built_option m) (arg_by_id (rules ms) mode) h (by_mode ms)

-- it is the first argument by place, and the last
pub first_word : (names : List Text) → arg_by_index (rules names) 1 ≡ Some built_mode
first_word [] = refl
first_word (m ∷ ms) = first_word ms

pub second_word : (names : List Text) → arg_by_index (rules names) 2 ≡ None
second_word [] = refl
second_word (m ∷ ms) = second_word ms

-- no argument has a short name
pub by_short : (names : List Text) (x : ℕ) → arg_by_short (rules names) x ≡ None
by_short [] x = refl
by_short (m ∷ ms) x = by_short ms x

-- ---- after the walk

-- no argument has a default
no_default : (b : Bool) (ks : Kinds) → (if (b || true) then [] else ks) ≡ []
no_default true ks = refl
no_default false ks = refl

kept_rows : (b : Bool) (rows : List Row) → (if b then rows else rows) ≡ rows
kept_rows true rows = refl
kept_rows false rows = refl

pub no_defaults : (names : List Text) (rows : List Row) → defaults_fault rows (rules names) ≡ []
unfolding defaults_fault
no_defaults [] rows = rw (no_default (has_row mode rows) (given_default_fault built_mode [])) refl
no_defaults (m ∷ ms) rows = rw (no_default (has_row m rows) (given_default_fault (built_option m) []), kept_rows (has_row m rows) rows) (no_defaults ms rows)

pub finished_rows : (names : List Text) (rows : List Row) → fold with_default rows (rules names) ≡ rows
finished_rows [] rows = kept_rows (has_row mode rows) rows
finished_rows (m ∷ ms) rows = ap (λ rs. fold with_default rs (rules ms)) (kept_rows (has_row m rows) rows) ∙ finished_rows ms rows

-- what is asked for and wasn't given is the mode word
pub lacks_mode : (names : List Text) (rows : List Row) → list_any (λ (a : Rule). a.required && not (is_given a.id rows)) (rules names) ≡ not (is_given mode rows)
lacks_mode [] rows = or-false (not (is_given mode rows))
lacks_mode (m ∷ ms) rows = lacks_mode ms rows
