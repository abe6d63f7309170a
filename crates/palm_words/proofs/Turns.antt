-- What `clap`'s walk makes of one word, by where it stands and how the word looks: whether the word passes, and where the walk
-- stands then.
use Rattle.std.proofs.Common.{◌≡◌, ◌⊎◌, inl, inr, ◌&&◌, ◌||◌, ℕ, Bool, true, false, not, List, [], ◌∷◌, ◌++◌, map, Some, None, Option, refl, sym, ap, ◌∙◌, true≢false, slice_get}
use Rattle.std.specs.Str.{bytes_eq, chars}
use Rattle.std.proofs.lemmas.Bool.{and_parts, and_right, not-true}
use Rattle.clap.specs.Lexer.{long_of, short_of}
use Rattle.std.proofs.Math.Bool.{and-true}
use Rattle.std.proofs.lemmas.Slice.Eq.{bytes_eq-Decides}
use Rattle.clap.specs.Walk.{Held, Row, Text, Walk, Waiting, idle, option, positional, is_pending, subcommand_met, takes_several, to_positional, value, arg_by_index, settled, used, walked}
use Rattle.clap.specs.Kinds.{Kinds, or_else}
use Rattle.clap.specs.Faults.{flags_fault, step_fault, turn_fault, use_fault}
use Rattle.palm_words.specs.Items.{is_among, two_dashes}
use Rattle.palm_words.proofs.Arguments.{mode, built_option, built_mode, rules, shape, by_id, by_long, by_no_long, by_short, first_word, second_word}
use Rattle.palm_words.proofs.HeldRows.{Pair, row_for, has, pending_as, held, no_fault, no_fault_both, after, fits, Known, settles, settled_is, option_fault_is, option_used}

-- ---- where the walk stands

-- the place of the next mode word, by whether one was read
abbrev pub place : Bool → ℕ
place true = 2
place false = 1

abbrev pub stands : Held → Waiting → ℕ → Bool → Walk
stands h waiting q trailing = record { held = h; waiting = waiting; position = q; is_trailing = trailing; stopped = None }

-- between two items
abbrev pub between : Bool → ℕ → List Pair → Option Pair → Walk
between trailing q kv p = stands (held kv (pending_as p)) idle q trailing

-- after the name of an option that waits for its value
abbrev pub waits : Bool → ℕ → List Pair → Text → Walk
waits trailing q kv n = stands (held kv (Some (n, []))) (option n) q trailing

-- two tests agree where their second parts agree after the first
pub and_if : (a b c : Bool) → (a ≡ true → b ≡ c) → (a && b) ≡ (a && c)
and_if true b c h = h refl
and_if false b c h = refl

or_nothing : (a : Kinds) → no_fault (or_else a []) ≡ no_fault a
or_nothing [] = refl
or_nothing (k ∷ ks) = refl

no_subcommand : (waiting : Waiting) (word : Text) → subcommand_met [] waiting word ≡ None
no_subcommand idle word = refl
no_subcommand (option n) word = refl
no_subcommand positional word = refl

same_text : (n : Text) → bytes_eq n n ≡ true
same_text n = (bytes_eq-Decides n n).1 refl

module _ (names : List Text) (apart : is_among mode names ≡ false) where
  -- the word passes
  abbrev pub passes : Walk → Text → Bool
  passes w word = no_fault (turn_fault (shape (rules names)) [] w word)

  -- where the walk stands after it
  abbrev pub next_of : Walk → Text → Walk
  next_of w word = walked (rules names) [] w word

  module _ (q : ℕ) (kv : List Pair) (word : Text) where
    -- `--` ends the options
    pub ends_passes : (p : Option Pair) → bytes_eq word two_dashes ≡ true → passes (between false q kv p) word ≡ true
    ends_passes p e = rw e refl

    pub ends_next : (p : Option Pair) → bytes_eq word two_dashes ≡ true → next_of (between false q kv p) word ≡ between true q kv p
    unfolding walked
    ends_next p e = rw e refl

    -- an option with its value
    pub given_passes : (p : Option Pair) (n v : Text) → Known names apart p → bytes_eq word two_dashes ≡ false → long_of word ≡ Some (n, Some v) → is_among n names ≡ true
        → passes (between false q kv p) word ≡ (fits kv p && not (has n (after kv p)))
    given_passes p n v k e l among =
        rw (e, l, by_long names n among) (or_nothing _ ∙ no_fault_both _ _ ∙ ap (λ b. b && no_fault (use_fault false (built_option n) (v ∷ []) (settled (rules names) (held kv (pending_as p))).rows)) (settles names apart kv p k)
        ∙ and_if (fits kv p) _ _ (λ f. ap (λ (h : Held). no_fault (use_fault false (built_option n) (v ∷ []) h.rows)) (settled_is names apart kv p k f) ∙ option_fault_is n v (after kv p)))

    pub given_next : (p : Option Pair) (n v : Text) → Known names apart p → bytes_eq word two_dashes ≡ false → long_of word ≡ Some (n, Some v) → is_among n names ≡ true
        → (fits kv p && not (has n (after kv p))) ≡ true → next_of (between false q kv p) word ≡ between false q (after kv p ++ (n, v) ∷ []) None
    unfolding walked
    given_next p n v k e l among fit =
        let parts = and_parts (fits kv p) (not (has n (after kv p))) fit in
        let rows : used (built_option n) (v ∷ []) (settled (rules names) (held kv (pending_as p))).rows ≡ map row_for (after kv p ++ (n, v) ∷ []) =
        ap (λ (h : Held). used (built_option n) (v ∷ []) h.rows) (settled_is names apart kv p k parts.0) ∙ option_used n v (after kv p) (not-true _ parts.1) in
        rw (e, l, by_long names n among) (ap (λ (rs : List Row). stands (record { rows = rs; pending = None; skip = 0 }) idle q false) rows)

    -- the name of an option, whose value is the next word
    pub named_passes : (p : Option Pair) (n : Text) → Known names apart p → bytes_eq word two_dashes ≡ false → long_of word ≡ Some (n, None) → is_among n names ≡ true
        → passes (between false q kv p) word ≡ fits kv p
    named_passes p n k e l among = rw (e, l, by_long names n among) (or_nothing _ ∙ settles names apart kv p k)

    pub named_next : (p : Option Pair) (n : Text) → Known names apart p → bytes_eq word two_dashes ≡ false → long_of word ≡ Some (n, None) → is_among n names ≡ true
        → fits kv p ≡ true → next_of (between false q kv p) word ≡ waits false q (after kv p) n
    unfolding walked
    named_next p n k e l among fit =
        rw (e, l, by_long names n among) (ap (λ (h : Held). stands (record h { pending = Some (n, []) }) (option n) q false) (settled_is names apart kv p k fit))

    -- a name that no option has
    pub unknown_fails : (p : Option Pair) (n : Text) (v : Option Text) → bytes_eq word two_dashes ≡ false → long_of word ≡ Some (n, v) → is_among n names ≡ false
        → passes (between false q kv p) word ≡ false
    unknown_fails p n v e l among = rw (e, l, by_no_long names n among) refl

    -- a short flag
    pub short_fails : (waiting : Waiting) (p : Option (Text × List Text)) (b x : ℕ) (bs : Text) → bytes_eq word two_dashes ≡ false → long_of word ≡ None → short_of word ≡ Some (b ∷ bs)
        → slice_get (chars (b ∷ bs)) 0 ≡ Some x → passes (stands (held kv p) waiting q false) word ≡ false
    unfolding flags_fault
    short_fails waiting p b x bs e l s first = rw (no_subcommand waiting word, e, l, s, first, by_short names x) refl

    -- a word that is no option
    value_fault_is : (p : Option Pair) (b : Bool) → Known names apart p → q ≡ place b → has mode (after kv p) ≡ b
        → no_fault (step_fault (shape (rules names)) q (held kv (pending_as p)) value) ≡ (fits kv p && not (has mode (after kv p)))
    value_fault_is p true k at is = rw (at, is, second_word names) (sym (and_right (fits kv p) false refl))
    value_fault_is p false k at is =
        let several : (is_pending built_mode (pending_as p) && takes_several built_mode) ≡ false = and_right _ _ refl in
        rw (at, is, first_word names, several) (settles names apart kv p k ∙ sym (and-true (fits kv p)))

    pub mode_passes : (t : Bool) (p : Option Pair) → Known names apart p → q ≡ place (has mode (after kv p))
        → (t ≡ true) ⊎ ((bytes_eq word two_dashes ≡ false) × (long_of word ≡ None) × (short_of word ≡ None))
        → passes (between t q kv p) word ≡ (fits kv p && not (has mode (after kv p)))
    mode_passes true p k at looks = value_fault_is p (has mode (after kv p)) k at refl
    mode_passes false p k at (inl bad) = absurd (true≢false (sym bad))
    mode_passes false p k at (inr (e, l, s)) = rw (e, l, s) (value_fault_is p (has mode (after kv p)) k at refl)

    value_next : (t : Bool) (p : Option Pair) → Known names apart p → q ≡ place (has mode (after kv p)) → (fits kv p && not (has mode (after kv p))) ≡ true
        → to_positional (rules names) (arg_by_index (rules names) q) word (between t q kv p) (held kv (pending_as p)) ≡ between t 2 (after kv p) (Some (mode, word))
    value_next t p k at fit =
        let parts = and_parts (fits kv p) (not (has mode (after kv p))) fit in
        let one : q ≡ 1 = at ∙ ap place (not-true _ parts.1) in
        let several : (is_pending built_mode (pending_as p) && takes_several built_mode) ≡ false = and_right _ _ refl in
        rw (one, first_word names, several) (ap (λ (h : Held). stands (record { rows = h.rows; pending = Some (mode, word ∷ []); skip = 0 }) idle 2 (t || false)) (settled_is names apart kv p k parts.0) ∙ elim t as (λ b. stands (held (after kv p) (Some (mode, word ∷ []))) idle 2 (b || false) ≡ between b 2 (after kv p) (Some (mode, word))) [ true ↦ refl | false ↦ refl ])

    pub mode_next : (t : Bool) (p : Option Pair) → Known names apart p → q ≡ place (has mode (after kv p))
        → (t ≡ true) ⊎ ((bytes_eq word two_dashes ≡ false) × (long_of word ≡ None) × (short_of word ≡ None))
        → (fits kv p && not (has mode (after kv p))) ≡ true → next_of (between t q kv p) word ≡ between t 2 (after kv p) (Some (mode, word))
    unfolding walked
    mode_next true p k at looks fit = value_next true p k at fit
    mode_next false p k at (inl bad) fit = absurd (true≢false (sym bad))
    mode_next false p k at (inr (e, l, s)) fit = rw (e, l, s) (value_next false p k at fit)

    -- ---- where an option waits for its value

    pub value_passes : (n : Text) → bytes_eq word two_dashes ≡ false → long_of word ≡ None → short_of word ≡ None → passes (waits false q kv n) word ≡ true
    value_passes n e l s = rw (e, l, s) refl

    pub value_taken : (n : Text) → is_among n names ≡ true → bytes_eq word two_dashes ≡ false → long_of word ≡ None → short_of word ≡ None
        → next_of (waits false q kv n) word ≡ between false q kv (Some (n, word))
    unfolding walked
    value_taken n among e l s = rw (e, l, s, by_id names n among, same_text n) refl

    pub ends_waiting_passes : (n : Text) → bytes_eq word two_dashes ≡ true → passes (waits false q kv n) word ≡ true
    ends_waiting_passes n e = rw e refl

    pub ends_waiting : (n : Text) → bytes_eq word two_dashes ≡ true → next_of (waits false q kv n) word ≡ waits true q kv n
    unfolding walked
    ends_waiting n e = rw e refl

    -- what waits for its value is settled by any other option, and fails
    pub option_fails : (n m : Text) (v : Option Text) → is_among n names ≡ true → bytes_eq word two_dashes ≡ false → long_of word ≡ Some (m, v) → passes (waits false q kv n) word ≡ false
    option_fails n m v among e l = go (is_among m names) refl v l
      where
        go : (b : Bool) → is_among m names ≡ b → (v : Option Text) → long_of word ≡ Some (m, v) → passes (waits false q kv n) word ≡ false
        go true is None l = rw (e, l, by_long names m is, by_id names n among) refl
        go true is (Some v) l = rw (e, l, by_long names m is, by_id names n among) refl
        go false is v l = rw (e, l, by_no_long names m is) refl

    -- nor does it pass after `--`
    pub doomed : (n : Text) (b : Bool) → is_among n names ≡ true → q ≡ place b → passes (waits true q kv n) word ≡ false
    doomed n true among at = rw (at, second_word names) refl
    doomed n false among at =
        let several : (bytes_eq n mode && false) ≡ false = and_right _ _ refl in
        rw (at, first_word names, by_id names n among, several) refl
