-- Counts of the calls that one caller has in a history.
use Rattle.std.proofs.Common.{◌≡◌, ℕ, zero, suc, ◌+◌, ◌*◌, ◌<◌, ◌≤◌, ◌==◌, ◌≢◌, true, false, cond, List, [], ◌∷◌, ◌++◌, length, take, sym, refl, ap, ◌∙◌, arith, eq-eqb, ne_eqb}
use mathlib.Core.Option.{some, some-injective, some-ne-none}
use mathlib.Core.Logic.{dite}
use native.Mathlib.Decide.{ℕ_discrete}
use lib.ListN.{get_elem?}
use Rattle.palm_base.specs.declared.call.Call.{Call}
use Rattle.palm_base.specs.declared.call.Entry.{Entry}
use Rattle.palm_base.specs.declared.call.Reply.{Reply}
use Rattle.palm_base.specs.Arrivals.{count_of, made_by, replies_for}

module _ {A : Type 0} where
  pub take_one : (l : List A) (p : ℕ) (a : A) → get_elem? l p ≡ some a → take (p + 1) l ≡ take p l ++ a ∷ []
  take_one [] p a at = absurd (some-ne-none a (sym at))
  take_one (x ∷ xs) zero a at = ap (λ (y : A). y ∷ []) (some-injective x a at)
  take_one (x ∷ xs) (suc p) a at = ap (λ (n : ℕ). take n (x ∷ xs)) (let g : suc p + 1 ≡ suc (p + 1) = omega arith in g) ∙ ap {B = List A} (λ l. x ∷ l) (take_one xs p a at)

  pub at_below : (l : List A) (p : ℕ) (a : A) → get_elem? l p ≡ some a → p < length l
  at_below [] p a at = absurd (some-ne-none a (sym at))
  at_below (x ∷ xs) zero a at = omega arith
  at_below (x ∷ xs) (suc p) a at = omega (arith, at_below xs p a at)

  pub some_at : (l : List A) (p : ℕ) → p < length l → (a : A) × (get_elem? l p ≡ some a)
  some_at [] p h = absurd (omega arith)
  some_at (x ∷ xs) zero h = (x, refl)
  some_at (x ∷ xs) (suc p) h = some_at xs p (omega arith)

abbrev pub one_if : ℕ → ℕ → ℕ
one_if a c = cond (a == c) 1 0

pub one_same : (a c : ℕ) → a ≡ c → one_if a c ≡ 1
one_same a c e = ap (λ b. cond b 1 0) (eq-eqb a c e)

pub one_other : (a c : ℕ) → a ≢ c → one_if a c ≡ 0
one_other a c n = ap (λ b. cond b 1 0) (ne_eqb a c n)

pub one_small : (a c : ℕ) → one_if a c ≤ 1
one_small a c = elim (a == c) as (λ b. cond b 1 0 ≤ 1) [ true ↦ omega arith | false ↦ omega arith ]

pub count_of-append : (c : ℕ) (a b : List Entry) → count_of c (a ++ b) ≡ count_of c a + count_of c b
count_of-append c [] b = omega arith
count_of-append c (e ∷ a) b = omega (arith, count_of-append c a b)

pub count_of-snoc : (c : ℕ) (a : List Entry) (e : Entry) → count_of c (a ++ e ∷ []) ≡ count_of c a + one_if e.caller c
count_of-snoc c a e = omega (arith, count_of-append c a (e ∷ []))

pub count_of-take_one : (c : ℕ) (a : List Entry) (p : ℕ) (e : Entry) → get_elem? a p ≡ some e → count_of c (take (p + 1) a) ≡ count_of c (take p a) + one_if e.caller c
count_of-take_one c a p e at = ap (count_of c) (take_one a p e at) ∙ count_of-snoc c (take p a) e

pub count_of-take : (c : ℕ) (a : List Entry) (s t : ℕ) → s ≤ t → count_of c (take s a) ≤ count_of c (take t a)
count_of-take c a zero t le = omega arith
count_of-take c [] (suc s) zero le = absurd (omega arith)
count_of-take c [] (suc s) (suc t) le = omega arith
count_of-take c (e ∷ a) (suc s) zero le = absurd (omega arith)
count_of-take c (e ∷ a) (suc s) (suc t) le = omega (arith, count_of-take c a s t (omega arith))

pub count_of-take_all : (c : ℕ) (a : List Entry) (t : ℕ) → count_of c (take t a) ≤ count_of c a
count_of-take_all c a zero = omega arith
count_of-take_all c [] (suc t) = omega arith
count_of-take_all c (e ∷ a) (suc t) = omega (arith, count_of-take_all c a t)

pub count_of-length : (c : ℕ) (a : List Entry) → count_of c a ≤ length a
count_of-length c [] = omega arith
count_of-length c (e ∷ a) = omega (arith, count_of-length c a, one_small e.caller c)

pub take_more : {A : Type 0} (a b : List A) (t : ℕ) → t ≤ length a → take t (a ++ b) ≡ take t a
take_more a b zero h = refl
take_more [] b (suc t) h = absurd (omega arith)
take_more {A} (x ∷ a) b (suc t) h = ap {B = List A} (λ l. x ∷ l) (take_more a b t (omega arith))

pub length-made_by : (c n : ℕ) (a : List Entry) → length (made_by c n a) ≡ count_of c a
length-made_by c n [] = refl
length-made_by c n (e ∷ a) = elim (e.caller == c) as (λ b. length (cond b ((n, e.call) ∷ made_by c (n + 1) a) (made_by c (n + 1) a)) ≡ cond b 1 0 + count_of c a) [
  | true ↦ omega (arith, length-made_by c (n + 1) a)
  | false ↦ omega (arith, length-made_by c (n + 1) a)
]

pub made_by-other : (c n : ℕ) (a : List Entry) (e : Entry) → e.caller ≢ c → made_by c n (a ++ e ∷ []) ≡ made_by c n a
made_by-other c n [] e ne = ap (λ b. cond b ((n, e.call) ∷ []) []) (ne_eqb e.caller c ne)
made_by-other c n (x ∷ a) e ne = ap (λ l. cond (x.caller == c) ((n, x.call) ∷ l) l) (made_by-other c (n + 1) a e ne)

pub made_by-own : (c n : ℕ) (a : List Entry) (e : Entry) → e.caller ≡ c → made_by c n (a ++ e ∷ []) ≡ made_by c n a ++ (n + length a, e.call) ∷ []
made_by-own c n [] e is = ap (λ b. cond b ((n, e.call) ∷ []) []) (eq-eqb e.caller c is) ∙ ap (λ m. (m, e.call) ∷ []) (let g : n ≡ n + 0 = omega arith in g)
made_by-own c n (x ∷ a) e is =
    let next : n + 1 + length a ≡ n + suc (length a) = omega arith in
    let more = made_by-own c (n + 1) a e is ∙ ap (λ m. made_by c (n + 1) a ++ (m, e.call) ∷ []) next in
    elim (x.caller == c) as (λ b. cond b ((n, x.call) ∷ made_by c (n + 1) (a ++ e ∷ [])) (made_by c (n + 1) (a ++ e ∷ [])) ≡ cond b ((n, x.call) ∷ made_by c (n + 1) a) (made_by c (n + 1) a) ++ (n + suc (length a), e.call) ∷ []) [
      | true ↦ ap {B = List (ℕ × Call)} (λ l. (n, x.call) ∷ l) more
      | false ↦ more
    ]

-- the call j of c with its number, and the entry that it is
abbrev pub Found : ℕ → ℕ → List Entry → ℕ → ℕ → Call → Type 0
Found c n a j m call = (p : ℕ) × (e : Entry) × (m ≡ n + p) × (get_elem? a p ≡ some e) × (e.caller ≡ c) × (e.call ≡ call) × (count_of c (take p a) ≡ j)

further : (c n : ℕ) (x : Entry) (a : List Entry) (j i m : ℕ) (call : Call) → one_if x.caller c + j ≡ i → Found c (n + 1) a j m call → Found c n (x ∷ a) i m call
further c n x a j i m call is (p, e, m_is, at, who, what, before) = (suc p, e, omega arith, at, who, what, omega arith)

own_at : (c n : ℕ) (x : Entry) (a : List Entry) (m : ℕ) (call : Call) → x.caller ≡ c → ((i : ℕ) → get_elem? (made_by c (n + 1) a) i ≡ some (m, call) → Found c (n + 1) a i m call)
    → (i : ℕ) → get_elem? ((n, x.call) ∷ made_by c (n + 1) a) i ≡ some (m, call) → Found c n (x ∷ a) i m call
own_at c n x a m call is rest zero there = let both = some-injective (n, x.call) (m, call) there in
    let e : n ≡ m = ap (λ (y : ℕ × Call). y.0) both in (0, x, omega arith, refl, is, ap (λ (y : ℕ × Call). y.1) both, refl)
own_at c n x a m call is rest (suc i) there = further c n x a i (suc i) m call (omega (arith, one_same x.caller c is)) (rest i there)

pub call_at : (c n : ℕ) (a : List Entry) (j m : ℕ) (call : Call) → get_elem? (made_by c n a) j ≡ some (m, call) → Found c n a j m call
call_at c n [] j m call at = absurd (some-ne-none (m, call) (sym at))
call_at c n (x ∷ a) j m call at = dite (ℕ_discrete x.caller c)
    (λ is. own_at c n x a m call is (λ i. call_at c (n + 1) a i m call) j (ap (λ b. get_elem? (cond b ((n, x.call) ∷ made_by c (n + 1) a) (made_by c (n + 1) a)) j) (sym (eq-eqb x.caller c is)) ∙ at))
    (λ ne. further c n x a j j m call (omega (arith, one_other x.caller c ne)) (call_at c (n + 1) a j m call (ap (λ b. get_elem? (cond b ((n, x.call) ∷ made_by c (n + 1) a) (made_by c (n + 1) a)) j) (sym (ne_eqb x.caller c ne)) ∙ at)))

pub at_call : (n : ℕ) (a : List Entry) (p : ℕ) (e : Entry) → get_elem? a p ≡ some e → get_elem? (made_by e.caller n a) (count_of e.caller (take p a)) ≡ some (n + p, e.call)
at_call n [] p e at = absurd (some-ne-none e (sym at))
at_call n (x ∷ a) zero e at =
    let is : x.caller ≡ e.caller = ap (λ (y : Entry). y.caller) (some-injective x e at) in
    ap (λ b. get_elem? (cond b ((n, x.call) ∷ made_by e.caller (n + 1) a) (made_by e.caller (n + 1) a)) 0) (eq-eqb x.caller e.caller is)
    ∙ ap (λ (y : ℕ × Call). some y) (λ i. ((let g : n ≡ n + 0 = omega arith in g) i, (some-injective x e at i).call))
at_call n (x ∷ a) (suc p) e at =
    let there = at_call (n + 1) a p e at ∙ ap (λ m. some (m, e.call)) (let g : n + 1 + p ≡ n + suc p = omega arith in g) in
    let j : ℕ = count_of e.caller (take p a) in
    elim (x.caller == e.caller) as (λ b. get_elem? (cond b ((n, x.call) ∷ made_by e.caller (n + 1) a) (made_by e.caller (n + 1) a)) (cond b 1 0 + j) ≡ some (n + suc p, e.call)) [
      | true ↦ ap (get_elem? ((n, x.call) ∷ made_by e.caller (n + 1) a)) (let g : 1 + j ≡ suc j = omega arith in g) ∙ there
      | false ↦ ap (get_elem? (made_by e.caller (n + 1) a)) (let g : 0 + j ≡ j = omega arith in g) ∙ there
    ]

-- the call j is among the first t entries exactly where it is among the calls that the caller has there
pub early : (c n : ℕ) (a : List Entry) (j m : ℕ) (call : Call) (t : ℕ) → get_elem? (made_by c n a) j ≡ some (m, call) → m < n + t → j < count_of c (take t a)
early c n a j m call t at lt =
    let f = call_at c n a j m call at in
    let p : ℕ = f.0 in
    let more = count_of-take_one c a p f.1 f.3 in
    let one = one_same f.1.caller c f.4 in
    let grows = count_of-take c a (p + 1) t (omega (arith, f.2)) in
    omega (arith, f.6)

pub late : (c n : ℕ) (a : List Entry) (j m : ℕ) (call : Call) (t : ℕ) → get_elem? (made_by c n a) j ≡ some (m, call) → n + t ≤ m → count_of c (take t a) ≤ j
late c n a j m call t at le =
    let f = call_at c n a j m call at in
    let p : ℕ = f.0 in
    let grows = count_of-take c a t p (omega (arith, f.2)) in
    omega (arith, f.6)

-- a number belongs to one call of one caller
pub one_number : (n : ℕ) (a : List Entry) (c c' j j' m : ℕ) (call call' : Call) → get_elem? (made_by c n a) j ≡ some (m, call) → get_elem? (made_by c' n a) j' ≡ some (m, call') → (c ≡ c') × (j ≡ j')
one_number n a c c' j j' m call call' at at' =
    let f = call_at c n a j m call at in
    let g = call_at c' n a j' m call' at' in
    let p : f.0 ≡ g.0 = omega (arith, f.2, g.2) in
    let same : f.1 ≡ g.1 = some-injective f.1 g.1 (sym f.3 ∙ ap (get_elem? a) p ∙ g.3) in
    let who : c ≡ c' = sym f.4 ∙ ap (λ (e : Entry). e.caller) same ∙ g.4 in
    (who, sym f.6 ∙ (λ i. count_of (who i) (take (p i) a)) ∙ g.6)

-- the calls of all callers below n
abbrev total : ℕ → List Entry → ℕ
total zero a = 0
total (suc n) a = total n a + count_of n a

total-nil : (n : ℕ) → total n [] ≡ 0
total-nil zero = refl
total-nil (suc n) = omega (arith, total-nil n)

total-past : (n : ℕ) (e : Entry) (a : List Entry) → n ≤ e.caller → total n (e ∷ a) ≡ total n a
total-past zero e a le = refl
total-past (suc n) e a le = omega (arith, total-past n e a (omega arith), one_other e.caller n (λ is. omega arith))

total-cons : (n : ℕ) (e : Entry) (a : List Entry) → e.caller < n → total n (e ∷ a) ≡ suc (total n a)
total-cons zero e a lt = absurd (omega arith)
total-cons (suc n) e a lt = dite (ℕ_discrete e.caller n)
    (λ is. omega (arith, total-past n e a (omega arith), one_same e.caller n is))
    (λ ne. omega (arith, total-cons n e a (omega arith), one_other e.caller n ne))

total-length : (n : ℕ) (a : List Entry) → ((p : ℕ) (e : Entry) → get_elem? a p ≡ some e → e.caller < n) → length a ≡ total n a
total-length n [] all = sym (total-nil n)
total-length n (e ∷ a) all = omega (arith, total-cons n e a (all 0 e refl), total-length n a (λ p x at. all (suc p) x at))

total-most : (n q : ℕ) (a : List Entry) → ((c : ℕ) → c < n → count_of c a ≤ q) → total n a ≤ n * q
total-most zero q a all = omega arith
total-most (suc n) q a all = let r = total-most n q a (λ c lt. all c (omega arith)) in let last = all n (omega arith) in grind arith

-- no caller has more than q calls
pub at_most : (n q : ℕ) (a : List Entry) → ((p : ℕ) (e : Entry) → get_elem? a p ≡ some e → e.caller < n) → ((c : ℕ) → c < n → count_of c a ≤ q) → length a ≤ n * q
at_most n q a known each = omega (arith, total-length n a known, total-most n q a each)

pub length-replies_for : (c n : ℕ) (a : List Entry) (rs : List Reply) → length rs ≤ length a → length (replies_for c n a rs) ≡ count_of c (take (length rs) a)
length-replies_for c n [] [] le = refl
length-replies_for c n [] (r ∷ rs) le = absurd (omega arith)
length-replies_for c n (e ∷ a) [] le = refl
length-replies_for c n (e ∷ a) (r ∷ rs) le = let rest = length-replies_for c (n + 1) a rs (omega arith) in
    elim (e.caller == c) as (λ b. length (cond b ((n, r) ∷ replies_for c (n + 1) a rs) (replies_for c (n + 1) a rs)) ≡ cond b 1 0 + count_of c (take (length rs) a)) [
      | true ↦ omega arith
      | false ↦ omega arith
    ]

pub replies_for-arrive : (c n : ℕ) (a : List Entry) (rs : List Reply) (e : Entry) → length rs ≤ length a → replies_for c n (a ++ e ∷ []) rs ≡ replies_for c n a rs
replies_for-arrive c n [] [] e le = refl
replies_for-arrive c n [] (r ∷ rs) e le = absurd (omega arith)
replies_for-arrive c n (x ∷ a) [] e le = refl
replies_for-arrive c n (x ∷ a) (r ∷ rs) e le = ap (λ l. cond (x.caller == c) ((n, r) ∷ l) l) (replies_for-arrive c (n + 1) a rs e (omega arith))

pub replies_for-reply : (c n : ℕ) (a : List Entry) (rs : List Reply) (r : Reply) → (more : List (ℕ × Reply)) × (replies_for c n a (rs ++ r ∷ []) ≡ replies_for c n a rs ++ more)
replies_for-reply c n [] rs r = ([], refl)
replies_for-reply c n (x ∷ a) [] r = (replies_for c n (x ∷ a) (r ∷ []), refl)
replies_for-reply c n (x ∷ a) (y ∷ rs) r = let rest = replies_for-reply c (n + 1) a rs r in (
  rest.0,
  elim (x.caller == c) as (λ b. cond b ((n, y) ∷ replies_for c (n + 1) a (rs ++ r ∷ [])) (replies_for c (n + 1) a (rs ++ r ∷ [])) ≡ cond b ((n, y) ∷ replies_for c (n + 1) a rs) (replies_for c (n + 1) a rs) ++ rest.0) [
    | true ↦ ap {B = List (ℕ × Reply)} (λ l. (n, y) ∷ l) rest.1
    | false ↦ rest.1
  ],
)
