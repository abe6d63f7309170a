-- Items that pass a test, listed one after another as far as a limit allows.
use Rattle.std.proofs.Common.{◌≡◌, ℕ, zero, suc, ◌+◌, ◌-◌, ◌<◌, Bool, true, false, List, [], ◌∷◌, ◌++◌, length, take, drop, get_or, filter, refl, sym, arith, ◌∙◌, append_assoc, length-append}
use Rattle.std.specs.List.{AllWithin}
use Rattle.std.proofs.Math.Seq.{drop-cons}

-- What is listed with what is still to come.
abbrev pub listed_with : {X : Type 0} → (X → Bool) → ℕ → List X → List X → List X
listed_with test limit listed items = listed ++ take (limit - length listed) (filter test items)

pub passes_by : {X : Type 0} (test : X → Bool) (limit : ℕ) (listed items : List X) (item : X) → test item ≡ false
    → listed_with test limit listed items ≡ listed_with test limit listed (item ∷ items)
passes_by test limit listed items item no_pass = rw no_pass refl

pub one_listed : {X : Type 0} (test : X → Bool) (limit : ℕ) (listed items : List X) (item : X) → test item ≡ true → length listed < limit
    → listed_with test limit (listed ++ item ∷ []) items ≡ listed_with test limit listed (item ∷ items)
one_listed test limit listed items item pass less =
    let more : limit - length listed ≡ suc (limit - length (listed ++ item ∷ [])) = omega (arith, length-append listed (item ∷ []), less) in
    rw (pass, more) (append_assoc listed (item ∷ []) _)

-- Items of which none passes need not be seen.
pub none_before : {X : Type 0} (test : X → Bool) (items : List X) (i : ℕ) → AllWithin (λ x. test x ≡ false) items 0 i → filter test (drop i items) ≡ filter test items
none_before test items zero none = refl
none_before test [] (suc i) none = refl
none_before test (item ∷ items) (suc i) none =
    rw (none 0 item (omega arith) (omega arith)) (none_before test items i (λ j other least below. none (suc j) other (omega arith) (omega arith)))

-- The items from one on are it and those behind it.
pub from_item : {X : Type 0} (items : List X) (i : ℕ) (item : X) → i < length items → item ≡ get_or items i item → drop i items ≡ item ∷ drop (i + 1) items
from_item items i item less is =
    let next : i + 1 ≡ suc i = omega arith in
    drop-cons items i item less ∙ rw (next, sym is) refl
