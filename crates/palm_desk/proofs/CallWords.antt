-- A call comes back from its words.
use Rattle.std.proofs.Common.{◌≡◌, ◌≢◌, ℕ, ◌+◌, ◌*◌, ◌/◌, ◌%◌, ◌^◌, ◌<◌, ◌≤◌, List, [], ◌∷◌, get_or, sym, refl, ap, ◌∙◌, subst, arith}
use Rattle.palm_base.specs.Key.{key, digits_of, IsKey}
use Rattle.palm_base.specs.Prefix.{IsPrefix}
use Rattle.palm_base.specs.declared.amount.TheConstants.{MOST_RATE, MOST_LIMIT}
use Rattle.palm_base.specs.declared.call.Call.{Call}
use Rattle.palm_base.specs.declared.call.Call.TheVariants.{Set, Del, Get, Rate, List as Listing}
use Rattle.palm_base.proofs.Keys.{digits_of-key, is_key}
use Rattle.palm_desk.specs.Words.{spell, IsCall, kind_of, limit_in}

-- A call was sent in the words a, b and t.
abbrev pub Sent : Call → ℕ → ℕ → ℕ → Type 0
Sent call a b t = spell call ≡ a ∷ b ∷ t ∷ []

small_limit : (call : Call) → IsCall call → limit_in call < 2 ^ 60
small_limit (Set p r) legal = omega arith
small_limit (Del p) legal = omega arith
small_limit (Get p) legal = omega arith
small_limit (Rate p) legal = omega arith
small_limit (Listing p q n) legal = let most = legal.3 in omega arith

module _ (call : Call) (a b t : ℕ) (legal : IsCall call) (sent : Sent call a b t) where
  third : kind_of call * 2 ^ 60 + limit_in call ≡ t
  third = ap (λ l. get_or l 2 0) sent

  pub kind_is : t / 2 ^ 60 ≡ kind_of call
  kind_is = let e = third in let s = small_limit call legal in omega arith

  pub limit_is : t % 2 ^ 60 ≡ limit_in call
  limit_is = let e = third in let s = small_limit call legal in omega arith

pub first_key : (call : Call) (a b t : ℕ) → IsCall call → Sent call a b t → IsKey a
first_key (Set p r) a b t legal sent = is_key a p legal.0 (ap (λ l. get_or l 0 0) (sym sent))
first_key (Del p) a b t legal sent = is_key a p legal (ap (λ l. get_or l 0 0) (sym sent))
first_key (Get p) a b t legal sent = is_key a p legal (ap (λ l. get_or l 0 0) (sym sent))
first_key (Rate p) a b t legal sent = is_key a p legal (ap (λ l. get_or l 0 0) (sym sent))
first_key (Listing p q n) a b t legal sent = is_key a p legal.0 (ap (λ l. get_or l 0 0) (sym sent))

-- The prefix whose key a word is.
prefix_back : (w : ℕ) (d p : List ℕ) → IsPrefix p → d ≡ digits_of w → key p ≡ w → d ≡ p
prefix_back w d p legal d_is w_is = d_is ∙ ap digits_of (sym w_is) ∙ digits_of-key p legal

pub set_back : (call : Call) (a b t : ℕ) (d : List ℕ) (r : ℕ) → IsCall call → Sent call a b t → t / 2 ^ 60 ≡ 1 → d ≡ digits_of a → r ≡ b → Set d r ≡ call
set_back (Set p q) a b t d r legal sent is d_is r_is =
    λ i. Set (prefix_back a d p legal.0 d_is (ap (λ l. get_or l 0 0) sent) i) ((r_is ∙ sym (ap (λ l. get_or l 1 0) sent)) i)
set_back (Del p) a b t d r legal sent is d_is r_is = absurd (omega (arith, kind_is (Del p) a b t legal sent))
set_back (Get p) a b t d r legal sent is d_is r_is = absurd (omega (arith, kind_is (Get p) a b t legal sent))
set_back (Rate p) a b t d r legal sent is d_is r_is = absurd (omega (arith, kind_is (Rate p) a b t legal sent))
set_back (Listing p q n) a b t d r legal sent is d_is r_is = absurd (omega (arith, kind_is (Listing p q n) a b t legal sent))

pub del_back : (call : Call) (a b t : ℕ) (d : List ℕ) → IsCall call → Sent call a b t → t / 2 ^ 60 ≡ 2 → d ≡ digits_of a → Del d ≡ call
del_back (Del p) a b t d legal sent is d_is = ap Del (prefix_back a d p legal d_is (ap (λ l. get_or l 0 0) sent))
del_back (Set p q) a b t d legal sent is d_is = absurd (omega (arith, kind_is (Set p q) a b t legal sent))
del_back (Get p) a b t d legal sent is d_is = absurd (omega (arith, kind_is (Get p) a b t legal sent))
del_back (Rate p) a b t d legal sent is d_is = absurd (omega (arith, kind_is (Rate p) a b t legal sent))
del_back (Listing p q n) a b t d legal sent is d_is = absurd (omega (arith, kind_is (Listing p q n) a b t legal sent))

pub get_back : (call : Call) (a b t : ℕ) (d : List ℕ) → IsCall call → Sent call a b t → t / 2 ^ 60 ≡ 3 → d ≡ digits_of a → Get d ≡ call
get_back (Get p) a b t d legal sent is d_is = ap Get (prefix_back a d p legal d_is (ap (λ l. get_or l 0 0) sent))
get_back (Set p q) a b t d legal sent is d_is = absurd (omega (arith, kind_is (Set p q) a b t legal sent))
get_back (Del p) a b t d legal sent is d_is = absurd (omega (arith, kind_is (Del p) a b t legal sent))
get_back (Rate p) a b t d legal sent is d_is = absurd (omega (arith, kind_is (Rate p) a b t legal sent))
get_back (Listing p q n) a b t d legal sent is d_is = absurd (omega (arith, kind_is (Listing p q n) a b t legal sent))

pub rate_back : (call : Call) (a b t : ℕ) (d : List ℕ) → IsCall call → Sent call a b t → t / 2 ^ 60 ≡ 4 → d ≡ digits_of a → Rate d ≡ call
rate_back (Rate p) a b t d legal sent is d_is = ap Rate (prefix_back a d p legal d_is (ap (λ l. get_or l 0 0) sent))
rate_back (Set p q) a b t d legal sent is d_is = absurd (omega (arith, kind_is (Set p q) a b t legal sent))
rate_back (Del p) a b t d legal sent is d_is = absurd (omega (arith, kind_is (Del p) a b t legal sent))
rate_back (Get p) a b t d legal sent is d_is = absurd (omega (arith, kind_is (Get p) a b t legal sent))
rate_back (Listing p q n) a b t d legal sent is d_is = absurd (omega (arith, kind_is (Listing p q n) a b t legal sent))

-- No other kind.
abbrev pub IsList : ℕ → Type 0
IsList t = (t / 2 ^ 60 ≢ 1) × (t / 2 ^ 60 ≢ 2) × (t / 2 ^ 60 ≢ 3) × (t / 2 ^ 60 ≢ 4)

pub list_back : (call : Call) (a b t : ℕ) (d e : List ℕ) (n : ℕ) → IsCall call → Sent call a b t → IsList t → d ≡ digits_of a → e ≡ digits_of b → n ≡ t % 2 ^ 60 → Listing d e n ≡ call
list_back (Listing p q m) a b t d e n legal sent is d_is e_is n_is =
    λ i. Listing (prefix_back a d p legal.0 d_is (ap (λ l. get_or l 0 0) sent) i) (prefix_back b e q legal.1 e_is (ap (λ l. get_or l 1 0) sent) i) ((n_is ∙ limit_is (Listing p q m) a b t legal sent) i)
list_back (Set p q) a b t d e n legal sent is d_is e_is n_is = absurd (is.0 (kind_is (Set p q) a b t legal sent))
list_back (Del p) a b t d e n legal sent is d_is e_is n_is = absurd (is.1 (kind_is (Del p) a b t legal sent))
list_back (Get p) a b t d e n legal sent is d_is e_is n_is = absurd (is.2 (kind_is (Get p) a b t legal sent))
list_back (Rate p) a b t d e n legal sent is d_is e_is n_is = absurd (is.3 (kind_is (Rate p) a b t legal sent))

-- The second key and the limit of a List.
pub list_parts : (call : Call) (a b t : ℕ) → IsCall call → Sent call a b t → IsList t → IsKey b × (1 ≤ t % 2 ^ 60) × (t % 2 ^ 60 ≤ MOST_LIMIT)
list_parts (Listing p q m) a b t legal sent is =
    let n = limit_is (Listing p q m) a b t legal sent in
    let least = legal.2 in let most = legal.3 in
    (is_key b q legal.1 (ap (λ l. get_or l 1 0) (sym sent)), omega arith, omega arith)
list_parts (Set p q) a b t legal sent is = absurd (is.0 (kind_is (Set p q) a b t legal sent))
list_parts (Del p) a b t legal sent is = absurd (is.1 (kind_is (Del p) a b t legal sent))
list_parts (Get p) a b t legal sent is = absurd (is.2 (kind_is (Get p) a b t legal sent))
list_parts (Rate p) a b t legal sent is = absurd (is.3 (kind_is (Rate p) a b t legal sent))

-- The rate of a Set.
pub set_rate : (call : Call) (a b t : ℕ) → IsCall call → Sent call a b t → t / 2 ^ 60 ≡ 1 → b ≤ MOST_RATE
set_rate (Set p q) a b t legal sent is = subst (λ n. n ≤ MOST_RATE) (ap (λ l. get_or l 1 0) sent) legal.1
set_rate (Del p) a b t legal sent is = absurd (omega (arith, kind_is (Del p) a b t legal sent))
set_rate (Get p) a b t legal sent is = absurd (omega (arith, kind_is (Get p) a b t legal sent))
set_rate (Rate p) a b t legal sent is = absurd (omega (arith, kind_is (Rate p) a b t legal sent))
set_rate (Listing p q n) a b t legal sent is = absurd (omega (arith, kind_is (Listing p q n) a b t legal sent))

-- No two calls are sent in the same words.
pub one_call : (x y : Call) → IsCall x → IsCall y → spell x ≡ spell y → x ≡ y
one_call x (Set p r) legal legal' e = sym (set_back x (key p) r (1 * 2 ^ 60 + 0) p r legal e (omega arith) (sym (digits_of-key p legal'.0)) refl)
one_call x (Del p) legal legal' e = sym (del_back x (key p) 0 (2 * 2 ^ 60 + 0) p legal e (omega arith) (sym (digits_of-key p legal')))
one_call x (Get p) legal legal' e = sym (get_back x (key p) 0 (3 * 2 ^ 60 + 0) p legal e (omega arith) (sym (digits_of-key p legal')))
one_call x (Rate p) legal legal' e = sym (rate_back x (key p) 0 (4 * 2 ^ 60 + 0) p legal e (omega arith) (sym (digits_of-key p legal')))
one_call x (Listing p q n) legal legal' e =
    let most = legal'.3 in
    sym (list_back x (key p) (key q) (5 * 2 ^ 60 + n) p q n legal e ((λ h. omega arith), (λ h. omega arith), (λ h. omega arith), λ h. omega arith) (sym (digits_of-key p legal'.0)) (sym (digits_of-key q legal'.1)) (omega arith))
