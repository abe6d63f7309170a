-- What `clap`'s walk makes of all the words: it accepts them exactly where each id stands once and a mode word stands, and then
-- holds a row for each item.
use Rattle.std.proofs.Common.{◌≡◌, ◌⊎◌, inl, inr, ◌&&◌, ◌||◌, ℕ, Bool, true, false, not, List, [], ◌∷◌, ◌++◌, map, Some, None, Option, refl, sym, ap, ◌∙◌, cond, true≢false, subst, append_assoc}
use Rattle.std.specs.Prelude.{if◌then◌else◌, option_map}
use Rattle.std.specs.List.{fold, find, AllByRecursion}
use Rattle.std.specs.Option.{option_map_or}
use Rattle.clap.specs.Facts.{explicit_source}
use Rattle.std.specs.Str.{bytes_eq, IsUtf8}
use Rattle.std.proofs.Math.Bool.{and_assoc, and-true, or-false}
use Rattle.std.proofs.lemmas.Bool.{and_parts, and_right, or_right}
use Rattle.std.proofs.lemmas.Slice.Eq.{bytes_eq-Decides}
use Rattle.std.proofs.lemmas.List.{append-nil}
use Rattle.clap.specs.Lexer.{long_of, short_of}
use Rattle.clap.specs.Walk.{Held, Row, Text, Walk, idle, option as option_waits, finished, settled, walked, with_default}
use Rattle.clap.specs.Kinds.{Kinds, or_else}
use Rattle.clap.specs.Takes.{is_given}
use Rattle.clap.specs.Faults.{check_fault, defaults_fault, settle_fault, walk_fault}
use Rattle.palm_words.specs.Items.{Item, option, mode_word, is_among, names_option, then_items, two_dashes, name_in, value_in, with_value}
use Rattle.palm_words.proofs.Arguments.{mode, rules, shape, by_id, no_defaults, finished_rows, lacks_mode}
use Rattle.palm_words.proofs.HeldRows.{Pair, row_for, has, has_more, pending_as, held, no_fault, no_fault_both, after, fits, Known, settles, settled_is}
use Rattle.palm_words.proofs.WordForms.{Look, ends, long, short, plain, look, refused}
use Rattle.palm_words.proofs.Turns.{place, between, waits, and_if, passes, next_of, ends_passes, ends_next, given_passes, given_next, named_passes, named_next, unknown_fails, short_fails, mode_passes, mode_next, value_passes, value_taken, ends_waiting, ends_waiting_passes, option_fails, doomed}

-- the items of the words as `clap` reads them: it takes a lone dash as a VALUE and as a mode word
abbrev pub loose_from : List Text → Option Text → List Text → Option (List Item)
loose_from names None [] = Some []
loose_from names (Some name) [] = None
loose_from names (Some name) (word ∷ rest) =
    if refused word then None else then_items (option name word) (loose_from names None rest)
loose_from names None (word ∷ rest) =
    if bytes_eq word two_dashes then Some (map mode_word rest)
    else (if names_option names word then with_value (name_in word) (value_in word) (λ waiting. loose_from names waiting rest)
    else (if refused word then None else then_items (mode_word word) (loose_from names None rest)))

-- an item as an id and its text
abbrev pub pair_of : Item → Pair
pair_of (option name value) = (name, value)
pair_of (mode_word word) = (mode, word)

abbrev pub pairs : Option (List Item) → Option (List Pair)
pairs o = option_map (map pair_of) o

-- after these pairs come those, each with an id of its own, and a mode word is among them all
abbrev pub fresh : List Pair → List Pair → Bool
fresh kv [] = has mode kv
fresh kv (e ∷ es) = not (has e.0 kv) && fresh (kv ++ e ∷ []) es

-- the same, where no word was refused
abbrev pub accepted : List Pair → Option (List Pair) → Bool
accepted kv None = false
accepted kv (Some es) = fresh kv es

-- the pairs after both
abbrev pub joined : List Pair → Option (List Pair) → List Pair
joined kv None = kv
joined kv (Some es) = kv ++ es

and_twice : (a b : Bool) → ((a && b) && b) ≡ (a && b)
and_twice true true = refl
and_twice true false = refl
and_twice false b = refl

given_at : (b : Bool) (r : Row) (o : Option Row) (c : Bool) → explicit_source r.source ≡ true → option_map_or (λ (x : Row). explicit_source x.source) o false ≡ c
    → option_map_or (λ (x : Row). explicit_source x.source) (cond b (Some r) o) false ≡ (b || c)
given_at true r o c e h = e
given_at false r o c e h = h

module _ (names : List Text) (apart : is_among mode names ≡ false) where
  -- ---- the end of the walk

  abbrev pub end_fault : Held → Kinds
  end_fault h = or_else (settle_fault (rules names) false h) (or_else (defaults_fault (settled (rules names) h).rows (rules names)) (check_fault (shape (rules names)) (finished (rules names) h) false))

  -- the walk and its end pass, from where it stands
  abbrev pub goes : Walk → List Text → Bool
  goes w words = no_fault (walk_fault (shape (rules names)) [] w words) && no_fault (end_fault (fold (walked (rules names) []) w words).held)

  abbrev pub rows_from : Walk → List Text → List Row
  rows_from w words = finished (rules names) (fold (walked (rules names) []) w words).held

  -- the walk passes where the pairs are accepted, and then has their rows
  abbrev pub Agrees : Walk → List Text → Bool → List Pair → Option (List Pair) → Type 0
  Agrees w words b kv o = (goes w words ≡ (b && accepted kv o)) × ((b && accepted kv o) ≡ true → rows_from w words ≡ map row_for (joined kv o))

  goes_more : (w : Walk) (x : Text) (xs : List Text) → goes w (x ∷ xs) ≡ (passes names apart w x && goes (next_of names apart w x) xs)
  unfolding walk_fault
  goes_more w x xs = ap (λ b. b && no_fault (end_fault (fold (walked (rules names) []) (next_of names apart w x) xs).held)) (no_fault_both _ _) ∙ and_assoc (passes names apart w x) _ _

  -- a word that passes where a holds
  steps : (w next : Walk) (x : Text) (xs : List Text) (a b : Bool) (kv : List Pair) (o : Option (List Pair)) → passes names apart w x ≡ a → (a ≡ true → next_of names apart w x ≡ next)
      → Agrees next xs b kv o → Agrees w (x ∷ xs) (a && b) kv o
  steps w next x xs true b kv o pass to h =
      (goes_more w x xs ∙ ap (λ c. c && goes (next_of names apart w x) xs) pass ∙ ap (λ v. goes v xs) (to refl) ∙ h.0, λ e. ap (λ v. rows_from v xs) (to refl) ∙ h.1 e)
  steps w next x xs false b kv o pass to h =
      (goes_more w x xs ∙ ap (λ c. c && goes (next_of names apart w x) xs) pass, λ e. absurd (true≢false (sym e)))

  -- a word that fails
  stops : (w : Walk) (x : Text) (xs : List Text) (b : Bool) (kv : List Pair) (o : Option (List Pair)) → passes names apart w x ≡ false → (b && accepted kv o) ≡ false → Agrees w (x ∷ xs) b kv o
  stops w x xs b kv o pass bad =
      (goes_more w x xs ∙ ap (λ c. c && goes (next_of names apart w x) xs) pass ∙ sym bad, λ e. absurd (true≢false (sym e ∙ bad)))

  -- one more item
  one_more : (w : Walk) (words : List Text) (b : Bool) (kv : List Pair) (i : Item) (o : Option (List Item))
      → Agrees w words (b && not (has (pair_of i).0 kv)) (kv ++ pair_of i ∷ []) (pairs o) → Agrees w words b kv (pairs (then_items i o))
  one_more w words b kv i None h = (h.0 ∙ and_right (b && not (has (pair_of i).0 kv)) false refl ∙ sym (and_right b false refl), λ e. absurd (true≢false (sym e ∙ and_right b false refl)))
  one_more w words b kv i (Some is) h =
      let same = and_assoc b (not (has (pair_of i).0 kv)) (fresh (kv ++ pair_of i ∷ []) (map pair_of is)) in
      (h.0 ∙ same, λ e. h.1 (same ∙ e) ∙ ap (map row_for) (append_assoc kv (pair_of i ∷ []) (map pair_of is)))

  -- the end between two items
  given_row : (kv : List Pair) → is_given mode (map row_for kv) ≡ has mode kv
  given_row [] = refl
  given_row (e ∷ es) = given_at (bytes_eq e.0 mode) (row_for e) (find (λ (r : Row). bytes_eq r.id mode) (map row_for es)) (has mode es) refl (given_row es)

  end_passes : (rows : List Row) (b : Bool) → is_given mode rows ≡ b → no_fault (or_else (defaults_fault rows (rules names)) (check_fault (shape (rules names)) (fold with_default rows (rules names)) false)) ≡ b
  end_passes rows true e = rw (no_defaults names rows, finished_rows names rows, lacks_mode names rows, e) refl
  end_passes rows false e = rw (no_defaults names rows, finished_rows names rows, lacks_mode names rows, e) refl

  at_end : (t : Bool) (q : ℕ) (kv : List Pair) (p : Option Pair) → Known names apart p → Agrees (between t q kv p) [] (fits kv p) (after kv p) (Some [])
  unfolding walk_fault
  at_end t q kv p k =
      let h0 : Held = held kv (pending_as p) in
      let tail = λ (h : Held). no_fault (or_else (defaults_fault h.rows (rules names)) (check_fault (shape (rules names)) (fold with_default h.rows (rules names)) false)) in
      let now : no_fault (end_fault h0) ≡ (no_fault (settle_fault (rules names) false h0) && tail (settled (rules names) h0)) = no_fault_both _ _ in
      let settle : (no_fault (settle_fault (rules names) false h0) && tail (settled (rules names) h0)) ≡ (fits kv p && tail (settled (rules names) h0)) = ap (λ b. b && tail (settled (rules names) h0)) (settles names apart kv p k) in
      let last : fits kv p ≡ true → tail (settled (rules names) h0) ≡ has mode (after kv p) =
      λ f. ap tail (settled_is names apart kv p k f) ∙ end_passes (map row_for (after kv p)) (has mode (after kv p)) (given_row (after kv p)) in (
        now ∙ settle ∙ and_if (fits kv p) _ _ last,
        λ e. ap (λ (h : Held). fold with_default h.rows (rules names)) (settled_is names apart kv p k (and_parts (fits kv p) _ e).0) ∙ finished_rows names (map row_for (after kv p)) ∙ ap (map row_for) (sym (append-nil (after kv p))),
      )

  waits_at_end : (t : Bool) (q : ℕ) (kv : List Pair) (n : Text) (b : Bool) → is_among n names ≡ true → Agrees (waits t q kv n) [] b kv None
  unfolding walk_fault
  waits_at_end t q kv n b among = (rw (by_id names n among) (sym (and_right b false refl)), λ e. absurd (true≢false (sym e ∙ and_right b false refl)))

  -- ---- after `--`

  no_mode : (n : Text) → is_among n names ≡ true → bytes_eq n mode ≡ false
  no_mode n among = differs (bytes_eq n mode) refl
    where
      differs : (b : Bool) → bytes_eq n mode ≡ b → bytes_eq n mode ≡ false
      differs true e = absurd (true≢false (sym among ∙ ap (λ t. is_among t names) ((bytes_eq-Decides n mode).0 e) ∙ apart))
      differs false e = e

  waits_ends : (q : ℕ) (kv : List Pair) (n : Text) (b c : Bool) (words : List Text) → is_among n names ≡ true → q ≡ place c → Agrees (waits true q kv n) words b kv None
  waits_ends q kv n b c [] among at = waits_at_end true q kv n b among
  waits_ends q kv n b c (word ∷ rest) among at = stops (waits true q kv n) word rest b kv None (doomed names apart q kv word n c among at) (and_right b false refl)

  mode_place : (kv : List Pair) (word : Text) → 2 ≡ place (has mode (kv ++ (mode, word) ∷ []))
  mode_place kv word = sym (ap place (has_more mode kv (mode, word) ∙ or_right (has mode kv) true refl))

  same_place : (kv : List Pair) (n v : Text) (q : ℕ) → is_among n names ≡ true → q ≡ place (has mode kv) → q ≡ place (has mode (kv ++ (n, v) ∷ []))
  same_place kv n v q among at = at ∙ sym (ap place (has_more mode kv (n, v) ∙ ap (λ b. has mode kv || b) (no_mode n among) ∙ or-false (has mode kv)))

  agrees_as : (w : Walk) (words : List Text) (a b : Bool) (kv : List Pair) (o : Option (List Pair)) → a ≡ b → Agrees w words a kv o → Agrees w words b kv o
  agrees_as w words a b kv o same h = subst (λ c. Agrees w words c kv o) same h

  -- a mode word between two items
  mode_step : (t : Bool) (q : ℕ) (kv : List Pair) (p : Option Pair) (word : Text) (rest : List Text) (o : Option (List Item)) → Known names apart p → q ≡ place (has mode (after kv p))
      → (t ≡ true) ⊎ ((bytes_eq word two_dashes ≡ false) × (long_of word ≡ None) × (short_of word ≡ None))
      → Agrees (between t 2 (after kv p) (Some (mode, word))) rest (not (has mode (after kv p))) (after kv p ++ (mode, word) ∷ []) (pairs o)
      → Agrees (between t q kv p) (word ∷ rest) (fits kv p) (after kv p) (pairs (then_items (mode_word word) o))
  mode_step t q kv p word rest o k at looks h =
      one_more (between t q kv p) (word ∷ rest) (fits kv p) (after kv p) (mode_word word) o
      (agrees_as _ _ _ _ _ (pairs o) (and_twice (fits kv p) (not (has mode (after kv p))))
      (steps (between t q kv p) (between t 2 (after kv p) (Some (mode, word))) word rest (fits kv p && not (has mode (after kv p))) (not (has mode (after kv p))) (after kv p ++ (mode, word) ∷ []) (pairs o)
      (mode_passes names apart q kv word t p k at looks) (mode_next names apart q kv word t p k at looks) h))

  trailing : (words : List Text) (q : ℕ) (kv : List Pair) (p : Option Pair) → Known names apart p → q ≡ place (has mode (after kv p))
      → Agrees (between true q kv p) words (fits kv p) (after kv p) (pairs (Some (map mode_word words)))
  trailing [] q kv p k at = at_end true q kv p k
  trailing (word ∷ rest) q kv p k at =
      mode_step true q kv p word rest (Some (map mode_word rest)) k at (inl refl) (trailing rest 2 (after kv p) (Some (mode, word)) (inr refl) (mode_place (after kv p) word))

  -- ---- before `--`

  abbrev pub Between : List Text → Type 0
  Between words = (q : ℕ) (kv : List Pair) (p : Option Pair) → Known names apart p → q ≡ place (has mode (after kv p))
      → Agrees (between false q kv p) words (fits kv p) (after kv p) (pairs (loose_from names None words))

  abbrev pub Waits : List Text → Type 0
  Waits words = (q : ℕ) (kv : List Pair) (n : Text) → is_among n names ≡ true → q ≡ place (has mode kv) → Agrees (waits false q kv n) words true kv (pairs (loose_from names (Some n) words))

  option_step : (word : Text) (rest : List Text) (q : ℕ) (kv : List Pair) (p : Option Pair) → Known names apart p → q ≡ place (has mode (after kv p)) → bytes_eq word two_dashes ≡ false
      → (v : Option Text) → long_of word ≡ Some (name_in word, v) → is_among (name_in word) names ≡ true → Between rest → Waits rest
      → Agrees (between false q kv p) (word ∷ rest) (fits kv p) (after kv p) (pairs (with_value (name_in word) v (λ waiting. loose_from names waiting rest)))
  option_step word rest q kv p k at e None l among between_rest waits_rest =
      agrees_as _ _ _ _ _ (pairs (loose_from names (Some (name_in word)) rest)) (and-true (fits kv p))
      (steps (between false q kv p) (waits false q (after kv p) (name_in word)) word rest (fits kv p) true (after kv p) (pairs (loose_from names (Some (name_in word)) rest))
      (named_passes names apart q kv word p (name_in word) k e l among) (named_next names apart q kv word p (name_in word) k e l among) (waits_rest q (after kv p) (name_in word) among at))
  option_step word rest q kv p k at e (Some v) l among between_rest waits_rest =
      let n = name_in word in
      let o = loose_from names None rest in
      one_more (between false q kv p) (word ∷ rest) (fits kv p) (after kv p) (option n v) o
      (agrees_as _ _ _ _ _ (pairs o) (and-true (fits kv p && not (has n (after kv p))))
      (steps (between false q kv p) (between false q (after kv p ++ (n, v) ∷ []) None) word rest (fits kv p && not (has n (after kv p))) true (after kv p ++ (n, v) ∷ []) (pairs o)
      (given_passes names apart q kv word p n v k e l among) (given_next names apart q kv word p n v k e l among) (between_rest q (after kv p ++ (n, v) ∷ []) None tt (same_place (after kv p) n v q among at))))

  between_step : (word : Text) (rest : List Text) → Look word → Between rest → Waits rest → Between (word ∷ rest)
  between_step word rest (ends e r) between_rest waits_rest q kv p k at =
      rw e (steps (between false q kv p) (between true q kv p) word rest true (fits kv p) (after kv p) (Some (map pair_of (map mode_word rest)))
      (ends_passes names apart q kv word p e) (λ _. ends_next names apart q kv word p e) (trailing rest q kv p k at))
  between_step word rest (long e l two r) between_rest waits_rest q kv p k at = go (is_among (name_in word) names) refl
    where
      go : (b : Bool) → is_among (name_in word) names ≡ b → Agrees (between false q kv p) (word ∷ rest) (fits kv p) (after kv p) (pairs (loose_from names None (word ∷ rest)))
      go true is = rw (e, two, is) (option_step word rest q kv p k at e (value_in word) l is between_rest waits_rest)
      go false is = rw (e, two, is, r) (stops (between false q kv p) word rest (fits kv p) (after kv p) None (unknown_fails names apart q kv word p (name_in word) (value_in word) e l is) (and_right (fits kv p) false refl))
  between_step word rest (short b x bs e l s first two r) between_rest waits_rest q kv p k at =
      rw (e, two, r) (stops (between false q kv p) word rest (fits kv p) (after kv p) None (short_fails names apart q kv word idle (pending_as p) b x bs e l s first) (and_right (fits kv p) false refl))
  between_step word rest (plain e l s two r) between_rest waits_rest q kv p k at =
      rw (e, two, r) (mode_step false q kv p word rest (loose_from names None rest) k at (inr (e, l, s)) (between_rest 2 (after kv p) (Some (mode, word)) (inr refl) (mode_place (after kv p) word)))

  waits_step : (word : Text) (rest : List Text) → Look word → Between rest → Waits (word ∷ rest)
  waits_step word rest (ends e r) between_rest q kv n among at =
      rw r (steps (waits false q kv n) (waits true q kv n) word rest true true kv None (ends_waiting_passes names apart q kv word n e) (λ _. ends_waiting names apart q kv word n e) (waits_ends q kv n true (has mode kv) rest among at))
  waits_step word rest (long e l two r) between_rest q kv n among at =
      rw r (stops (waits false q kv n) word rest true kv None (option_fails names apart q kv word n (name_in word) (value_in word) among e l) refl)
  waits_step word rest (short b x bs e l s first two r) between_rest q kv n among at =
      rw r (stops (waits false q kv n) word rest true kv None (short_fails names apart q kv word (option_waits n) (Some (n, [])) b x bs e l s first) refl)
  waits_step word rest (plain e l s two r) between_rest q kv n among at =
      let o = loose_from names None rest in
      rw r (one_more (waits false q kv n) (word ∷ rest) true kv (option n word) o
      (steps (waits false q kv n) (between false q kv (Some (n, word))) word rest true (not (has n kv)) (kv ++ (n, word) ∷ []) (pairs o)
      (value_passes names apart q kv word n e l s) (λ _. value_taken names apart q kv word n among e l s) (between_rest q kv (Some (n, word)) (inl among) (same_place kv n word q among at))))

  pub walks : (words : List Text) → AllByRecursion IsUtf8 words → Between words × Waits words
  walks [] u = (λ q kv p k at. at_end false q kv p k, λ q kv n among at. waits_at_end false q kv n true among)
  walks (word ∷ rest) u =
      let ih = walks rest u.1 in
      (between_step word rest (look word u.0) ih.0 ih.1, waits_step word rest (look word u.0) ih.0)
