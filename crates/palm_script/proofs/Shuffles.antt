-- Two histories in which each caller has the same entries, in the same order.
use Rattle.std.proofs.Common.{◌≡◌, ℕ, ◌<◌, Bool, true, false, cond, eqb, List, [], ◌∷◌, refl, sym, subst}
use Rattle.std.specs.List.{AllByRecursion}
use Rattle.std.proofs.Common.{eq-eqb}
use Rattle.palm_base.specs.History.{entries_of}
use Rattle.palm_base.specs.declared.call.Entry.{Entry}

-- The callers are below 64, and each has the same entries in both.
pub record AreShuffles (left right : List Entry) : Type 0 where
  pub lefts : AllByRecursion (λ (entry : Entry). entry.caller < 64) left
  pub rights : AllByRecursion (λ (entry : Entry). entry.caller < 64) right
  pub same : (caller : ℕ) → caller < 64 → entries_of caller left ≡ entries_of caller right

pub shuffles_turned : (left right : List Entry) → AreShuffles left right → AreShuffles right left
shuffles_turned left right shuffles = record { lefts = shuffles.rights; rights = shuffles.lefts; same = λ caller small. sym (shuffles.same caller small) }

first_of_none : (b : Bool) (x : Entry) (xs ys : List Entry) → b ≡ true → [] ≡ cond b (x ∷ xs) ys → ⊥
first_of_none true x xs ys is e = cc
first_of_none false x xs ys is e = cc

-- Where one is used up, so is the other.
pub none_is_left : (right : List Entry) → AreShuffles [] right → right ≡ []
none_is_left [] shuffles = refl
none_is_left (y ∷ ys) shuffles =
    absurd (first_of_none (eqb y.caller y.caller) y (entries_of y.caller ys) (entries_of y.caller ys) (eq-eqb y.caller y.caller refl) (shuffles.same y.caller shuffles.rights.0))

first_of_both : (a b : Bool) (x y : Entry) (xs ys : List Entry) → a ≡ true → b ≡ true → cond a (x ∷ xs) xs ≡ cond b (y ∷ ys) ys → x ≡ y
first_of_both true true x y xs ys a-is b-is e = cc
first_of_both true false x y xs ys a-is b-is e = cc
first_of_both false b x y xs ys a-is b-is e = cc

-- Where the first entries are of one caller, they are one entry.
pub first_is_same : (x y : Entry) (xs ys : List Entry) → AreShuffles (x ∷ xs) (y ∷ ys) → x.caller ≡ y.caller → x ≡ y
first_is_same x y xs ys shuffles e =
    first_of_both (eqb x.caller x.caller) (eqb y.caller x.caller) x y (entries_of x.caller xs) (entries_of x.caller ys)
    (eq-eqb x.caller x.caller refl) (eq-eqb y.caller x.caller (sym e)) (shuffles.same x.caller shuffles.lefts.0)

rest_of_both : (b : Bool) (x : Entry) (xs ys : List Entry) → cond b (x ∷ xs) xs ≡ cond b (x ∷ ys) ys → xs ≡ ys
rest_of_both true x xs ys e = cc
rest_of_both false x xs ys e = e

-- What stands behind one entry that both begin with is shuffled too.
pub rest_is_shuffled : (x y : Entry) (xs ys : List Entry) → AreShuffles (x ∷ xs) (y ∷ ys) → x ≡ y → AreShuffles xs ys
rest_is_shuffled x y xs ys shuffles e = record {
  lefts = shuffles.lefts.1;
  rights = shuffles.rights.1;
  same = λ caller small.
      rest_of_both (eqb x.caller caller) x (entries_of caller xs) (entries_of caller ys)
      (subst (λ (entry : Entry). entries_of caller (x ∷ xs) ≡ entries_of caller (entry ∷ ys)) (sym e) (shuffles.same caller small));
}
