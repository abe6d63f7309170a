-- The first field of a text, and the place at which it ends.
use Rattle.std.proofs.Common.{◌≡◌, ℕ, suc, ◌+◌, ◌-◌, ◌<◌, ◌≤◌, Bool, true, false, not, cond, ltb, List, [], ◌∷◌, ◌++◌, length, take, drop, get_or, All, Some, None, refl, sym, ap, ◌∙◌, arith}
use Rattle.std.specs.List.{position, position_or_len, slice_split, filter}
use Rattle.std.specs.Option.{unwrap_or}
use Rattle.std.proofs.lemmas.Bool.{ltb-true, ltb-false, lt-ltb}
use Rattle.std.proofs.lemmas.List.Sums.{prefix_len-le-length, prefix_len-drop_yes, passes_at_first, fails_before_first}
use Rattle.std.proofs.lemmas.List.Splits.{slice_split_first, slice_split_none, slice_split_at}
use Rattle.std.proofs.lemmas.List.{drop_all, take_all, take_rest, at_drop_more, length-take}
use Rattle.palm_script.specs.Line.{is_blank, fields}

-- the place, or the length where there is none
pub place_or_length : (p : ℕ → Bool) (bs : List ℕ) → unwrap_or (position p bs) (length bs) ≡ position_or_len p bs
place_or_length p bs =
    elim (ltb (position_or_len p bs) (length bs)) as (λ v. ltb (position_or_len p bs) (length bs) ≡ v → unwrap_or (cond v (Some (position_or_len p bs)) None) (length bs) ≡ position_or_len p bs) [
      | true ↦ λ e. refl
      | false ↦ λ e. omega (arith, ltb-false _ _ e, prefix_len-le-length (λ b. not (p b)) bs)
    ] refl

-- a blank in front is passed over
past_blank : (b : ℕ) (bs : List ℕ) → is_blank b ≡ true → fields (b ∷ bs) ≡ fields bs
past_blank b bs e = rw e refl

one_more : (n : ℕ) → 1 + n ≡ suc n
one_more n = omega arith

-- so are all blanks in front
after_blanks : (bs : List ℕ) → fields bs ≡ fields (drop (position_or_len (λ b. not (is_blank b)) bs) bs)
after_blanks [] = refl
after_blanks (b ∷ bs) =
    elim (is_blank b) as (λ v. is_blank b ≡ v → fields (b ∷ bs) ≡ fields (drop (position_or_len (λ b. not (is_blank b)) (b ∷ bs)) (b ∷ bs))) [
      | true ↦ λ e. past_blank b bs e ∙ rw (e, one_more) (after_blanks bs)
      | false ↦ λ e.
          let none : position_or_len (λ b. not (is_blank b)) (b ∷ bs) ≡ 0 = rw e refl in
          ap (λ n. fields (drop n (b ∷ bs))) (sym none)
    ] refl

-- where the text is blanks alone it has no field
pub no_field : (bs : List ℕ) → length bs ≤ position_or_len (λ b. not (is_blank b)) bs → fields bs ≡ []
no_field bs h = after_blanks bs ∙ ap fields (drop_all (position_or_len (λ b. not (is_blank b)) bs) bs h)

-- a text without blanks is one field
pub one_field : (bs : List ℕ) → 0 < length bs → All (λ b. is_blank b ≡ false) bs → fields bs ≡ bs ∷ []
one_field bs some solid = ap (filter (λ part. ltb 0 (length part))) (slice_split_none is_blank bs solid) ∙ rw (lt-ltb 0 (length bs) some) refl

-- and with a blank behind it the first of several
pub field_before : (bs : List ℕ) (blank : ℕ) (rest : List ℕ) → 0 < length bs → All (λ b. is_blank b ≡ false) bs → is_blank blank ≡ true → fields (bs ++ blank ∷ rest) ≡ bs ∷ fields rest
field_before bs blank rest some solid e = ap (filter (λ part. ltb 0 (length part))) (slice_split_at is_blank bs blank rest solid e) ∙ rw (lt-ltb 0 (length bs) some) refl

-- a field goes up to the first blank
up_to_blank : (bs : List ℕ) (n : ℕ) → n ≡ position_or_len is_blank bs → 0 < n → n < length bs → fields bs ≡ take n bs ∷ fields (drop n bs)
up_to_blank bs n n-is some lt =
    let before : position_or_len is_blank bs < length bs = omega (arith, n-is, lt) in
    let parts : slice_split is_blank bs ≡ take n bs ∷ slice_split is_blank (drop (n + 1) bs) = rw n-is (slice_split_first is_blank bs 0 before) in
    let long : ltb 0 (length (take n bs)) ≡ true = lt-ltb 0 (length (take n bs)) (omega (arith, length-take n bs)) in
    let blank : is_blank (get_or bs n 0) ≡ true = rw n-is (passes_at_first is_blank bs 0 before) in
    let rest : fields (drop n bs) ≡ fields (drop (n + 1) bs) = at_drop_more fields bs n 0 lt ∙ past_blank (get_or bs n 0) (drop (n + 1) bs) blank in
    ap (filter (λ part. ltb 0 (length part))) parts ∙ rw long (ap (λ l. take n bs ∷ l) (sym rest))

-- or to the end
up_to_end : (bs : List ℕ) (n : ℕ) → n ≡ position_or_len is_blank bs → 0 < n → length bs ≤ n → fields bs ≡ take n bs ∷ fields (drop n bs)
up_to_end bs n n-is some le =
    let none : All (λ b. is_blank b ≡ false) bs = λ k d lt. fails_before_first is_blank bs k d (omega (arith, n-is, le, lt)) in
    rw (take_all n bs le, drop_all n bs le) (one_field bs (omega (arith, n-is, some, prefix_len-le-length (λ b. not (is_blank b)) bs)) none)

first_field : (bs : List ℕ) (n : ℕ) → n ≡ position_or_len is_blank bs → 0 < n → fields bs ≡ take n bs ∷ fields (drop n bs)
first_field bs n n-is some =
    elim (ltb n (length bs)) as (λ v. ltb n (length bs) ≡ v → fields bs ≡ take n bs ∷ fields (drop n bs)) [
      | true ↦ λ e. up_to_blank bs n n-is some (ltb-true _ _ e)
      | false ↦ λ e. up_to_end bs n n-is some (ltb-false _ _ e)
    ] refl

-- the field that begins at the first byte that is no blank, in what stands from there on
pub next_is : (bs : List ℕ) (start n : ℕ) → start ≡ position_or_len (λ b. not (is_blank b)) bs → start < length bs
    → n ≡ position_or_len is_blank (take (length bs - start) (drop start bs))
    → (fields bs ≡ take n (take (length bs - start) (drop start bs)) ∷ fields (drop n (take (length bs - start) (drop start bs)))) × (0 < n)
next_is bs start n start-is lt n-is =
    let rest : take (length bs - start) (drop start bs) ≡ drop start bs = take_rest bs start in
    let ends : n ≡ position_or_len is_blank (drop start bs) = n-is ∙ ap (position_or_len is_blank) rest in
    let other : not (is_blank (get_or bs start 0)) ≡ true = rw start-is (passes_at_first (λ b. not (is_blank b)) bs 0 (omega (arith, start-is, lt))) in
    let some : 0 < n = omega (arith, ends, prefix_len-drop_yes (λ b. not (is_blank b)) bs start 0 lt other) in
    let passed : fields bs ≡ fields (drop start bs) = after_blanks bs ∙ ap (λ m. fields (drop m bs)) (sym start-is) in
    (rw rest (passed ∙ first_field (drop start bs) n ends some), some)
