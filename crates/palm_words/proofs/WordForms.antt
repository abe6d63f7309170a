-- How a word looks to `clap`, and to the reading of the words.
use Rattle.std.proofs.Common.{◌≡◌, ◌⊎◌, inl, inr, ◌&&◌, ◌==◌, ℕ, Bool, true, false, not, [], ◌∷◌, take, Some, None, refl, sym, ap, ◌∙◌, codes, arith, subst, slice_get}
use Rattle.std.specs.Str.{bytes_eq, chars, IsUtf8}
use Rattle.std.proofs.lemmas.Bool.{eqb-true}
use Rattle.std.proofs.lemmas.Str.{IsUtf8-drop, IsCharBoundary-after_ascii, chars-encodes}
use Rattle.clap.specs.Lexer.{long_of, short_of}
use Rattle.palm_words.specs.Items.{Text, two_dashes, begins_with_dash, name_in, value_in}

-- the word begins with a dash, and is not a lone one: as a VALUE or a mode word `clap` refuses it
abbrev pub refused : Text → Bool
refused word = begins_with_dash word && not (bytes_eq word (codes "-"))

-- a word ends the options, names an option, has short flags, or is none of these
pub data Look (word : Text) : Type 0 where
  ends : bytes_eq word two_dashes ≡ true → refused word ≡ true → Look word
  long : bytes_eq word two_dashes ≡ false → long_of word ≡ Some (name_in word, value_in word) → bytes_eq (take 2 word) two_dashes ≡ true → refused word ≡ true → Look word
  short : (b x : ℕ) (bs : Text) → bytes_eq word two_dashes ≡ false → long_of word ≡ None → short_of word ≡ Some (b ∷ bs) → slice_get (chars (b ∷ bs)) 0 ≡ Some x
      → bytes_eq (take 2 word) two_dashes ≡ false → refused word ≡ true → Look word
  plain : bytes_eq word two_dashes ≡ false → long_of word ≡ None → short_of word ≡ None → bytes_eq (take 2 word) two_dashes ≡ false → refused word ≡ false → Look word

-- a text that isn't empty has a first character
first_char : (b : ℕ) (bs : Text) → IsUtf8 (b ∷ bs) → (x : ℕ) × (slice_get (chars (b ∷ bs)) 0 ≡ Some x)
first_char b bs ([], (ok, same)) = absurd (cc)
first_char b bs (x ∷ xs, (ok, same)) = (x, ap (λ t. slice_get (chars t) 0) (sym same) ∙ ap (λ t. slice_get t 0) (chars-encodes (x ∷ xs) ok))

after_dash : (b : ℕ) (bs : Text) → IsUtf8 (45 ∷ b ∷ bs) → IsUtf8 (b ∷ bs)
after_dash b bs u = IsUtf8-drop (45 ∷ b ∷ bs) 1 u (IsCharBoundary-after_ascii (45 ∷ b ∷ bs) 0 u (omega arith) (omega arith))

dash_or : (c : ℕ) → (c ≡ 45) ⊎ ((c == 45) ≡ false)
dash_or c = go (c == 45) refl
  where
    go : (b : Bool) → (c == 45) ≡ b → (c ≡ 45) ⊎ ((c == 45) ≡ false)
    go true e = inl (eqb-true c 45 e)
    go false e = inr e

look_second : (d : ℕ) (ds : Text) → IsUtf8 (45 ∷ d ∷ ds) → (d ≡ 45) ⊎ ((d == 45) ≡ false) → Look (45 ∷ d ∷ ds)
look_second d ds u (inr e) =
    let first = first_char d ds (after_dash d ds u) in
    short d first.0 ds (rw e refl) (rw e refl) (rw e refl) first.1 (rw e refl) refl
look_second d [] u (inl e) = subst (λ (b : ℕ). Look (45 ∷ b ∷ [])) (sym e) (ends refl refl)
look_second d (x ∷ xs) u (inl e) = subst (λ (b : ℕ). Look (45 ∷ b ∷ x ∷ xs)) (sym e) (long refl refl refl refl)

look_first : (c : ℕ) (cs : Text) → IsUtf8 (c ∷ cs) → (c ≡ 45) ⊎ ((c == 45) ≡ false) → Look (c ∷ cs)
look_first c [] u (inr e) = plain (rw e refl) (rw e refl) (rw e refl) (rw e refl) (rw e refl)
look_first c (d ∷ ds) u (inr e) = plain (rw e refl) (rw e refl) (rw e refl) (rw e refl) (rw e refl)
look_first c [] u (inl e) = subst (λ (b : ℕ). Look (b ∷ [])) (sym e) (plain refl refl refl refl refl)
look_first c (d ∷ ds) u (inl e) =
    subst (λ (b : ℕ). Look (b ∷ d ∷ ds)) (sym e) (look_second d ds (subst (λ (b : ℕ). IsUtf8 (b ∷ d ∷ ds)) e u) (dash_or d))

pub look : (word : Text) → IsUtf8 word → Look word
look [] u = plain refl refl refl refl refl
look (c ∷ cs) u = look_first c cs u (dash_or c)
