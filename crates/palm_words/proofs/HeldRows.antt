-- What `clap` holds between two words: a row for each thing that was read, and the last one, which isn't settled yet.
use Rattle.std.proofs.Common.{◌≡◌, ◌⊎◌, inl, inr, ◌&&◌, ◌||◌, Bool, true, false, not, List, [], ◌∷◌, ◌++◌, map, Some, None, Option, refl, sym, ap, ◌∙◌, true≢false}
use Rattle.std.specs.Prelude.{if◌then◌else◌, option_map}
use Rattle.std.specs.List.{list_any}
use Rattle.std.specs.Str.{bytes_eq}
use Rattle.std.proofs.lemmas.List.{append-nil, map-append}
use Rattle.clap.specs.Walk.{Held, Row, Text, at_row, has_row, more_values, reading_by, settled, used, without, with_values}
use Rattle.clap.specs.Kinds.{Kinds, or_else}
use Rattle.clap.specs.Faults.{settle_fault, use_fault}
use Rattle.clap.specs.declared.parser.matches.ValueSource.TheVariants.{CommandLine}
use Rattle.clap.specs.declared.error.kind.ErrorKind.TheVariants as kind
use Rattle.std.proofs.lemmas.Bool.{not-true}
use Rattle.palm_words.specs.Items.{is_among}
use Rattle.palm_words.proofs.Arguments.{mode, built_option, built_mode, rules, by_id, by_mode}

-- a name or `mode`, and its text
abbrev pub Pair : Type 0
Pair = Text × Text

-- the row of a pair
abbrev pub row_for : Pair → Row
row_for e = record { id = e.0; values = e.1 ∷ []; count = None; source = Some CommandLine; reading = reading_by built_mode }

-- this id stands in the pairs
abbrev pub has : Text → List Pair → Bool
has id kv = list_any (λ e. bytes_eq e.0 id) kv

abbrev pub pending_as : Option Pair → Option (Text × List Text)
pending_as p = option_map (λ e. (e.0, e.1 ∷ [])) p

abbrev pub held : List Pair → Option (Text × List Text) → Held
held kv p = record { rows = map row_for kv; pending = p; skip = 0 }

-- there is no fault
abbrev pub no_fault : Kinds → Bool
no_fault [] = true
no_fault (k ∷ ks) = false

pub no_fault_both : (a b : Kinds) → no_fault (or_else a b) ≡ (no_fault a && no_fault b)
no_fault_both [] b = refl
no_fault_both (k ∷ ks) b = refl

pub has_row_is : (id : Text) (kv : List Pair) → has_row id (map row_for kv) ≡ has id kv
has_row_is id [] = refl
has_row_is id (e ∷ es) = ap (λ b. bytes_eq e.0 id || b) (has_row_is id es)

pub has_more : (id : Text) (kv : List Pair) (e : Pair) → has id (kv ++ e ∷ []) ≡ (has id kv || bytes_eq e.0 id)
has_more id [] e = elim (bytes_eq e.0 id) as (λ b. (b || false) ≡ b) [ true ↦ refl | false ↦ refl ]
has_more id (x ∷ xs) e = elim (bytes_eq x.0 id) as (λ b. (b || has id (xs ++ e ∷ [])) ≡ ((b || has id xs) || bytes_eq e.0 id)) [ true ↦ refl | false ↦ has_more id xs e ]

-- what has no row gets it at the end
at_row_past : (id : Text) (change : Row → List Row) (missing rs : List Row) (r : Row) (b : Bool) → bytes_eq r.id id ≡ b → (b || has_row id rs) ≡ false
    → (has_row id rs ≡ false → at_row id change missing rs ≡ rs ++ missing) → at_row id change missing (r ∷ rs) ≡ r ∷ rs ++ missing
at_row_past id change missing rs r true e h rest = absurd (true≢false h)
at_row_past id change missing rs r false e h rest = rw e (ap (λ l. r ∷ l) (rest h))

at_row_none : (id : Text) (change : Row → List Row) (missing rows : List Row) → has_row id rows ≡ false → at_row id change missing rows ≡ rows ++ missing
at_row_none id change missing [] h = refl
at_row_none id change missing (r ∷ rs) h = at_row_past id change missing rs r (bytes_eq r.id id) refl h (at_row_none id change missing rs)

-- a use of an argument that has no row yet
used_new : (id v : Text) (rows : List Row) → has_row id rows ≡ false
    → with_values id (reading_by built_mode) CommandLine (v ∷ []) (without id rows) ≡ rows ++ row_for (id, v) ∷ []
used_new id v rows h =
    let rest : without id rows ≡ rows = at_row_none id (λ _. []) [] rows h ∙ append-nil rows in
    ap (with_values id (reading_by built_mode) CommandLine (v ∷ [])) rest ∙ at_row_none id (more_values CommandLine (v ∷ [])) (row_for (id, v) ∷ []) rows h

conflict : (b : Bool) → no_fault (or_else (if b && true then kind.ArgumentConflict ∷ [] else []) []) ≡ not b
conflict true = refl
conflict false = refl

-- a use of an option, and of the mode word, fails only where it has a row
pub option_fault_is : (n v : Text) (kv : List Pair) → no_fault (use_fault false (built_option n) (v ∷ []) (map row_for kv)) ≡ not (has n kv)
option_fault_is n v kv = rw (has_row_is n kv) (conflict (has n kv))

pub mode_fault_is : (v : Text) (kv : List Pair) → no_fault (use_fault false built_mode (v ∷ []) (map row_for kv)) ≡ not (has mode kv)
mode_fault_is v kv = rw (has_row_is mode kv) (conflict (has mode kv))

rows_more : (kv : List Pair) (e : Pair) → map row_for kv ++ row_for e ∷ [] ≡ map row_for (kv ++ e ∷ [])
rows_more kv e = sym (map-append row_for kv (e ∷ []))

pub option_used : (n v : Text) (kv : List Pair) → has n kv ≡ false → used (built_option n) (v ∷ []) (map row_for kv) ≡ map row_for (kv ++ (n, v) ∷ [])
option_used n v kv h = used_new n v (map row_for kv) (has_row_is n kv ∙ h) ∙ rows_more kv (n, v)

mode_used : (v : Text) (kv : List Pair) → has mode kv ≡ false → used built_mode (v ∷ []) (map row_for kv) ≡ map row_for (kv ++ (mode, v) ∷ [])
mode_used v kv h = used_new mode v (map row_for kv) (has_row_is mode kv ∙ h) ∙ rows_more kv (mode, v)

-- ---- what is pending is settled

-- the pairs so far, with the one that is pending
abbrev pub after : List Pair → Option Pair → List Pair
after kv None = kv
after kv (Some e) = kv ++ e ∷ []

-- what is pending has no row
abbrev pub fits : List Pair → Option Pair → Bool
fits kv None = true
fits kv (Some e) = not (has e.0 kv)

module _ (names : List Text) (apart : is_among mode names ≡ false) where
  -- what is pending is an option or the mode word
  abbrev pub Known : Option Pair → Type 0
  Known None = Unit {0}
  Known (Some e) = (is_among e.0 names ≡ true) ⊎ (e.0 ≡ mode)

  pub settles : (kv : List Pair) (p : Option Pair) → Known p → no_fault (settle_fault (rules names) false (held kv (pending_as p))) ≡ fits kv p
  settles kv None k = refl
  settles kv (Some e) (inl k) = rw (by_id names e.0 k) (option_fault_is e.0 e.1 kv)
  settles kv (Some e) (inr k) = rw (k, by_mode names apart) (mode_fault_is e.1 kv)

  pub settled_is : (kv : List Pair) (p : Option Pair) → Known p → fits kv p ≡ true → settled (rules names) (held kv (pending_as p)) ≡ held (after kv p) None
  settled_is kv None k h = refl
  settled_is kv (Some e) (inl k) h = rw (by_id names e.0 k) (ap (λ (rows : List Row). record { rows = rows; pending = None; skip = 0 }) (option_used e.0 e.1 kv (not-true (has e.0 kv) h)))
  settled_is kv (Some e) (inr k) h = rw (k, by_mode names apart) (ap (λ (rows : List Row). record { rows = rows; pending = None; skip = 0 }) (mode_used e.1 kv (not-true (has mode kv) (ap (λ id. not (has id kv)) (sym k) ∙ h))))
