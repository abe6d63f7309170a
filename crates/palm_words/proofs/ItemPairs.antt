-- Items as pairs of an id and a text: how often an id stands in them, and that its texts are the VALUEs of the option, or the mode
-- words.
use Rattle.std.proofs.Common.{◌≡◌, ◌⊎◌, inl, inr, ◌&&◌, ◌||◌, ◌<◌, ◌≤◌, Bool, true, false, not, List, [], ◌∷◌, ◌++◌, map, length, Some, None, Option, refl, sym, ap, ◌∙◌, subst, true≢false, cond, arith, append_assoc}
use Rattle.std.specs.Prelude.{if◌then◌else◌, slice_get, option_and_then}
use Rattle.std.specs.List.{find}
use Rattle.std.specs.Str.{bytes_eq}
use Rattle.std.proofs.lemmas.Bool.{and_parts, not-true}
use Rattle.std.proofs.lemmas.Slice.Eq.{bytes_eq-Decides}
use Rattle.std.proofs.lemmas.List.{append-nil, length-append}
use Rattle.clap.specs.Walk.{Row, first_of}
use Rattle.palm_words.specs.Items.{Text, Item, option, mode_word, is_among, values_of, mode_words}
use Rattle.palm_words.proofs.Arguments.{mode}
use Rattle.palm_words.proofs.HeldRows.{Pair, has, row_for}
use Rattle.palm_words.proofs.Walks.{pair_of, fresh}
use Rattle.palm_words.proofs.LoneDashes.{AreNamed}

-- the texts under an id
abbrev pub texts_under : Text → List Pair → List Text
texts_under id [] = []
texts_under id (e ∷ es) = if bytes_eq e.0 id then e.1 ∷ texts_under id es else texts_under id es

abbrev pub head : List Text → Option Text
head [] = None
head (v ∷ vs) = Some v

-- ---- a row holds the first value

found_at : (b : Bool) (e : Pair) (o : Option Row) (vs : List Text) → option_and_then (λ (r : Row). slice_get r.values 0) o ≡ head vs
    → option_and_then (λ (r : Row). slice_get r.values 0) (cond b (Some (row_for e)) o) ≡ head (if b then e.1 ∷ vs else vs)
found_at true e o vs h = refl
found_at false e o vs h = h

pub first_is : (id : Text) (es : List Pair) → first_of id (map row_for es) ≡ head (texts_under id es)
first_is id [] = refl
first_is id (e ∷ es) = found_at (bytes_eq e.0 id) e (find (λ (r : Row). bytes_eq r.id id) (map row_for es)) (texts_under id es) (first_is id es)

-- ---- how often an id stands

texts_under-append : (id : Text) (xs ys : List Pair) → texts_under id (xs ++ ys) ≡ texts_under id xs ++ texts_under id ys
texts_under-append id [] ys = refl
texts_under-append id (x ∷ xs) ys = at (bytes_eq x.0 id) (texts_under-append id xs ys)
  where
    at : (b : Bool) → texts_under id (xs ++ ys) ≡ texts_under id xs ++ texts_under id ys → (if b then x.1 ∷ texts_under id (xs ++ ys) else texts_under id (xs ++ ys)) ≡ (if b then x.1 ∷ texts_under id xs else texts_under id xs) ++ texts_under id ys
    at true h = ap (λ l. x.1 ∷ l) h
    at false h = h

lacks_at : (b c : Bool) (v : Text) (vs : List Text) → (b || c) ≡ false → (c ≡ false → vs ≡ []) → (if b then v ∷ vs else vs) ≡ []
lacks_at true c v vs h rest = absurd (true≢false h)
lacks_at false c v vs h rest = rest h

lacks : (id : Text) (kv : List Pair) → has id kv ≡ false → texts_under id kv ≡ []
lacks id [] h = refl
lacks id (e ∷ es) h = lacks_at (bytes_eq e.0 id) (has id es) e.1 (texts_under id es) h (lacks id es)

stands_at : (b c : Bool) (v : Text) (vs : List Text) → (b || c) ≡ true → (c ≡ true → 0 < length vs) → 0 < length (if b then v ∷ vs else vs)
stands_at true c v vs h rest = omega arith
stands_at false c v vs h rest = rest h

stands : (id : Text) (kv : List Pair) → has id kv ≡ true → 0 < length (texts_under id kv)
stands id [] h = absurd (true≢false (sym h))
stands id (e ∷ es) h = stands_at (bytes_eq e.0 id) (has id es) e.1 (texts_under id es) h (stands id es)

still_one : (id : Text) (kv : List Pair) (e : Pair) → has e.0 kv ≡ false → length (texts_under id kv) ≤ 1 → length (texts_under id (kv ++ e ∷ [])) ≤ 1
still_one id kv e new h = rw (texts_under-append id kv (e ∷ [])) (at (bytes_eq e.0 id) refl)
  where
    at : (b : Bool) → bytes_eq e.0 id ≡ b → length (texts_under id kv ++ (if b then e.1 ∷ [] else [])) ≤ 1
    at true is =
        let same : e.0 ≡ id = (bytes_eq-Decides e.0 id).0 is in
        let nothing : texts_under id kv ≡ [] = lacks id kv (ap (λ t. has t kv) (sym same) ∙ new) in
        rw nothing (omega arith)
    at false is = rw (append-nil (texts_under id kv)) h

-- where each id is new, none stands twice
pub fresh_once : (id : Text) (kv es : List Pair) → fresh kv es ≡ true → length (texts_under id kv) ≤ 1 → length (texts_under id (kv ++ es)) ≤ 1
fresh_once id kv [] f h = rw (append-nil kv) h
fresh_once id kv (e ∷ es) f h =
    let parts = and_parts (not (has e.0 kv)) (fresh (kv ++ e ∷ []) es) f in
    let whole : (kv ++ e ∷ []) ++ es ≡ kv ++ e ∷ es = append_assoc kv (e ∷ []) es in
    subst (λ (l : List Pair). length (texts_under id l) ≤ 1) whole (fresh_once id (kv ++ e ∷ []) es parts.1 (still_one id kv e (not-true _ parts.0) h))

module _ (names : List Text) where
  -- each id is that of an option or of the mode word
  abbrev pub AreKnown : List Pair → Type 0
  AreKnown [] = Unit {0}
  AreKnown (e ∷ es) = ((is_among e.0 names ≡ true) ⊎ (e.0 ≡ mode)) × AreKnown es

  -- an id stands twice, or no mode word stands
  abbrev pub Stale : List Pair → Type 0
  Stale es = ((id : Text) × ((is_among id names ≡ true) ⊎ (id ≡ mode)) × (2 ≤ length (texts_under id es))) ⊎ (texts_under mode es ≡ [])

  twice : (kv es : List Pair) (e : Pair) → has e.0 kv ≡ true → 2 ≤ length (texts_under e.0 (kv ++ e ∷ es))
  twice kv es e h =
      let self : bytes_eq e.0 e.0 ≡ true = (bytes_eq-Decides e.0 e.0).1 refl in
      rw (texts_under-append e.0 kv (e ∷ es), self) (omega (arith, length-append (texts_under e.0 kv) (e.1 ∷ texts_under e.0 es), stands e.0 kv h))

  pub stale : (kv es : List Pair) → AreKnown es → fresh kv es ≡ false → Stale (kv ++ es)
  stale kv [] known f = inr (lacks mode (kv ++ []) (rw (append-nil kv) f))
  stale kv (e ∷ es) known f = at (has e.0 kv) refl (λ g. subst Stale (append_assoc kv (e ∷ []) es) (stale (kv ++ e ∷ []) es known.1 g))
    where
      at : (b : Bool) → has e.0 kv ≡ b → (fresh (kv ++ e ∷ []) es ≡ false → Stale (kv ++ e ∷ es)) → Stale (kv ++ e ∷ es)
      at true is rest = inl (e.0, known.0, twice kv es e is)
      at false is rest = rest (sym (ap (λ b. not b && fresh (kv ++ e ∷ []) es) is) ∙ f)

  pub known_pairs : (is : List Item) → AreNamed names is → AreKnown (map pair_of is)
  known_pairs [] n = tt
  known_pairs (option m v ∷ is) n = (inl n.0, known_pairs is n.1)
  known_pairs (mode_word w ∷ is) n = (inr refl, known_pairs is n.1)

  -- ---- the values of an option and the mode words, as pairs
  module _ (apart : is_among mode names ≡ false) where
    other : (a b : Text) → is_among a names ≡ true → b ≡ mode → bytes_eq a b ≡ false
    other a b among is = at (bytes_eq a b) refl
      where
        at : (c : Bool) → bytes_eq a b ≡ c → bytes_eq a b ≡ false
        at true e = absurd (true≢false (sym among ∙ ap (λ t. is_among t names) ((bytes_eq-Decides a b).0 e ∙ is) ∙ apart))
        at false e = e

    other_way : (a : Text) → is_among a names ≡ true → bytes_eq mode a ≡ false
    other_way a among = at (bytes_eq mode a) refl
      where
        at : (c : Bool) → bytes_eq mode a ≡ c → bytes_eq mode a ≡ false
        at true e = absurd (true≢false (sym among ∙ ap (λ t. is_among t names) (sym ((bytes_eq-Decides mode a).0 e)) ∙ apart))
        at false e = e

    pub values_are : (n : Text) (is : List Item) → is_among n names ≡ true → values_of is n ≡ texts_under n (map pair_of is)
    values_are n [] among = refl
    values_are n (option m v ∷ is) among = ap (λ l. if bytes_eq m n then v ∷ l else l) (values_are n is among)
    values_are n (mode_word w ∷ is) among = rw (other_way n among) (values_are n is among)

    pub modes_are : (is : List Item) → AreNamed names is → mode_words is ≡ texts_under mode (map pair_of is)
    modes_are [] n = refl
    modes_are (option m v ∷ is) n = rw (other m mode n.0 refl) (modes_are is n.1)
    modes_are (mode_word w ∷ is) n = ap (λ l. w ∷ l) (modes_are is n.1)
