-- Lists each of whose items has a property.
use Rattle.std.proofs.Common.{◌≡◌, ℕ, zero, suc, take, drop, Bool, true, false, cond, List, [], ◌∷◌, ◌++◌, get_or, filter, refl, Some}
use Rattle.std.specs.Prelude.{slice_get}
use Rattle.std.specs.List.{AllByRecursion}
use Rattle.std.proofs.lemmas.List.Elements.{All-append, All-from_recursion, recursion_from_All}
use Rattle.std.proofs.lemmas.Option.{slice_get-get_or}

pub every_weaker : {X : Type 0} (P Q : X → Type 0) → ((x : X) → P x → Q x) → (xs : List X) → AllByRecursion P xs → AllByRecursion Q xs
every_weaker P Q weaker [] all = tt
every_weaker P Q weaker (x ∷ xs) all = (weaker x all.0, every_weaker P Q weaker xs all.1)

pub every_append : {X : Type 0} (P : X → Type 0) (xs ys : List X) → AllByRecursion P xs → AllByRecursion P ys → AllByRecursion P (xs ++ ys)
every_append P xs ys all more = recursion_from_All P (xs ++ ys) (All-append P xs ys (All-from_recursion P xs all) (All-from_recursion P ys more))

-- What a test lets through may have a property of its own.
pub every_filter : {X : Type 0} (P Q : X → Type 0) (test : X → Bool) → ((x : X) → P x → test x ≡ true → Q x) → (xs : List X)
    → AllByRecursion P xs → AllByRecursion Q (filter test xs)
every_filter P Q test gives [] all = tt
every_filter P Q test gives (x ∷ xs) all = by (test x) refl (every_filter P Q test gives xs all.1)
  where
    by : (b : Bool) → test x ≡ b → AllByRecursion Q (filter test xs) → AllByRecursion Q (cond b (x ∷ filter test xs) (filter test xs))
    by true passes rest = (gives x all.0 passes, rest)
    by false fails rest = rest

-- What the items at all places have, each item has.
pub every_at : {X : Type 0} (P : X → Type 0) (xs : List X) → ((i : ℕ) (x : X) → slice_get xs i ≡ Some x → P x) → AllByRecursion P xs
every_at P xs at = recursion_from_All P xs (λ i d inside. at i (get_or xs i d) (slice_get-get_or xs i d inside))

pub every_take : {X : Type 0} (P : X → Type 0) (k : ℕ) (xs : List X) → AllByRecursion P xs → AllByRecursion P (take k xs)
every_take P zero xs all = tt
every_take P (suc k) [] all = tt
every_take P (suc k) (x ∷ xs) all = (all.0, every_take P k xs all.1)

pub every_drop : {X : Type 0} (P : X → Type 0) (k : ℕ) (xs : List X) → AllByRecursion P xs → AllByRecursion P (drop k xs)
every_drop P zero xs all = all
every_drop P (suc k) [] all = tt
every_drop P (suc k) (x ∷ xs) all = every_drop P k xs all.1
