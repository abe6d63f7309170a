-- Lists in parts: two parts for each item, lists that follow others, fronts that grow, and properties of all items.
use Rattle.std.proofs.Common.{◌≡◌, ℕ, ◌+◌, List, [], ◌∷◌, ◌++◌, map, take, slice_get, Some, refl, sym, ap, ◌∙◌, append_assoc, subst}
use Rattle.std.specs.List.{flat_map, AllByRecursion}
use Rattle.std.specs.List.Sorted.{IsPermutation}
use Rattle.std.proofs.lemmas.List.{take_more}
use Rattle.std.proofs.lemmas.Option.{get_or_from_slice_get, slice_get_within}
use Rattle.std.proofs.lemmas.List.Sorted.{IsPermutation-refl, IsPermutation-trans, IsPermutation-append_comm, IsPermutation-append_left, IsPermutation-append_right}
use Rattle.std.proofs.lemmas.List.Concat.{flat_map-append}
use Rattle.palm_base.proofs.Pieces.{every_split}
use Rattle.palm_arena.specs.Cells.{Cell, found_at, both, SameCells}
use Rattle.palm_arena.proofs.CellLists.{at-append, at-parted}

pub same_parted : {X : Type 0} (f g : X → List Cell) (xs : List X) → SameCells (flat_map (λ x. f x ++ g x) xs) (flat_map f xs ++ flat_map g xs)
same_parted f g xs i = at-parted i f g xs ∙ sym (at-append i (flat_map f xs) (flat_map g xs))

pub same_each : {X : Type 0} (P : X → Type 0) (f g : X → List Cell) → ((x : X) → P x → SameCells (f x) (g x)) → (xs : List X) → AllByRecursion P xs → SameCells (flat_map f xs) (flat_map g xs)
same_each P f g e [] a i = refl
same_each P f g e (x ∷ xs) a i =
    at-append i (f x) (flat_map f xs) ∙ ap (λ y. both y (found_at i (flat_map f xs))) (e x a.0 i) ∙ ap (both (found_at i (g x))) (same_each P f g e xs a.1 i) ∙ sym (at-append i (g x) (flat_map g xs))

perm_cross : {X : Type 0} (a b c d : List X) → IsPermutation ((a ++ b) ++ (c ++ d)) ((a ++ c) ++ (b ++ d))
perm_cross a b c d =
    let left : (a ++ b) ++ (c ++ d) ≡ a ++ ((b ++ c) ++ d) = simp append_assoc in
    let right : a ++ ((c ++ b) ++ d) ≡ (a ++ c) ++ (b ++ d) = simp append_assoc in
    let turn = IsPermutation-append_right a ((b ++ c) ++ d) ((c ++ b) ++ d) (IsPermutation-append_left d (b ++ c) (c ++ b) (IsPermutation-append_comm b c)) in
    subst (λ z. IsPermutation z ((a ++ c) ++ (b ++ d))) (sym left) (subst (λ z. IsPermutation (a ++ ((b ++ c) ++ d)) z) right turn)

pub perm_parted : {X Y : Type 0} (f g : X → List Y) (xs : List X) → IsPermutation (flat_map f xs ++ flat_map g xs) (flat_map (λ x. f x ++ g x) xs)
perm_parted f g [] = IsPermutation-refl []
perm_parted f g (x ∷ xs) =
    IsPermutation-trans ((f x ++ flat_map f xs) ++ (g x ++ flat_map g xs)) ((f x ++ g x) ++ (flat_map f xs ++ flat_map g xs)) ((f x ++ g x) ++ flat_map (λ x. f x ++ g x) xs)
    (perm_cross (f x) (flat_map f xs) (g x) (flat_map g xs))
    (IsPermutation-append_right (f x ++ g x) (flat_map f xs ++ flat_map g xs) (flat_map (λ x. f x ++ g x) xs) (perm_parted f g xs))

-- more of each item beside what is an order of the others
pub perm_more : {X Y : Type 0} (f g : X → List Y) (ws : List Y) (xs : List X) → IsPermutation ws (flat_map g xs) → IsPermutation (ws ++ flat_map f xs) (flat_map (λ x. f x ++ g x) xs)
perm_more f g ws xs p =
    IsPermutation-trans (ws ++ flat_map f xs) (flat_map f xs ++ ws) (flat_map (λ x. f x ++ g x) xs) (IsPermutation-append_comm ws (flat_map f xs))
    (IsPermutation-trans (flat_map f xs ++ ws) (flat_map f xs ++ flat_map g xs) (flat_map (λ x. f x ++ g x) xs) (IsPermutation-append_right (flat_map f xs) ws (flat_map g xs) p) (perm_parted f g xs))

pub flat_each : {X Y : Type 0} (P : X → Type 0) (f g : X → List Y) → ((x : X) → P x → f x ≡ g x) → (xs : List X) → AllByRecursion P xs → flat_map f xs ≡ flat_map g xs
flat_each P f g e [] a = refl
flat_each P f g e (x ∷ xs) a = ap (λ y. y ++ flat_map f xs) (e x a.0) ∙ ap (λ y. g x ++ y) (flat_each P f g e xs a.1)

pub flat_flat : {X Y Z : Type 0} (f : X → List Y) (g : Y → List Z) (xs : List X) → flat_map g (flat_map f xs) ≡ flat_map (λ x. flat_map g (f x)) xs
flat_flat f g [] = refl
flat_flat f g (x ∷ xs) = flat_map-append g (f x) (flat_map f xs) ∙ ap (λ y. flat_map g (f x) ++ y) (flat_flat f g xs)

pub map_map : {X Y Z : Type 0} (f : X → Y) (g : Y → Z) (xs : List X) → map g (map f xs) ≡ map (λ x. g (f x)) xs
map_map f g [] = refl
map_map f g (x ∷ xs) = ap (λ y. g (f x) ∷ y) (map_map f g xs)

pub flat_map' : {X Y Z : Type 0} (f : X → Y) (g : Y → List Z) (xs : List X) → flat_map g (map f xs) ≡ flat_map (λ x. g (f x)) xs
flat_map' f g [] = refl
flat_map' f g (x ∷ xs) = ap (λ y. g (f x) ++ y) (flat_map' f g xs)

pub all_map : {X Y : Type 0} (P : Y → Type 0) (f : X → Y) (xs : List X) → AllByRecursion (λ x. P (f x)) xs → AllByRecursion P (map f xs)
all_map P f [] a = tt
all_map P f (x ∷ xs) a = (a.0, all_map P f xs a.1)

pub map_all : {X Y : Type 0} (P : Y → Type 0) (f : X → Y) (xs : List X) → AllByRecursion P (map f xs) → AllByRecursion (λ x. P (f x)) xs
map_all P f [] a = tt
map_all P f (x ∷ xs) a = (a.0, map_all P f xs a.1)

pub all_both : {X : Type 0} (P Q : X → Type 0) (xs : List X) → AllByRecursion P xs → AllByRecursion Q xs → AllByRecursion (λ x. P x × Q x) xs
all_both P Q [] a b = tt
all_both P Q (x ∷ xs) a b = ((a.0, b.0), all_both P Q xs a.1 b.1)

-- of each item of a flat list
pub all_flat : {X Y : Type 0} (P : Y → Type 0) (f : X → List Y) (xs : List X) → AllByRecursion P (flat_map f xs) → AllByRecursion (λ x. AllByRecursion P (f x)) xs
all_flat P f [] a = tt
all_flat P f (x ∷ xs) a = let b = every_split P (f x) (flat_map f xs) a in (b.0, all_flat P f xs b.1)

pub flat_all : {X Y : Type 0} (P : Y → Type 0) (f : X → List Y) (xs : List X) → AllByRecursion (λ x. AllByRecursion P (f x)) xs → AllByRecursion P (flat_map f xs)
flat_all P f [] a = tt
flat_all {Y = Y} P f (x ∷ xs) a = both (f x) (flat_map f xs) a.0 (flat_all P f xs a.1)
  where
    both : (xs ys : List Y) → AllByRecursion P xs → AllByRecursion P ys → AllByRecursion P (xs ++ ys)
    both [] ys a b = b
    both (x ∷ xs) ys a b = (a.0, both xs ys a.1 b)

-- a list that follows two lists, parted
pub record Parted {X Y : Type 0} (f : X → Y) (rs : List X) (us bs : List Y) : Type 0 where
  pub first : List X
  pub later : List X
  pub whole : first ++ later ≡ rs
  pub of_first : map f first ≡ us
  pub of_later : map f later ≡ bs

pub part : {X Y : Type 0} (f : X → Y) (rs : List X) (us bs : List Y) → map f rs ≡ us ++ bs → Parted f rs us bs
part f rs [] bs e = record { first = []; later = rs; whole = refl; of_first = refl; of_later = e }
part f [] (a ∷ us) bs e = absurd (cc)
part f (r ∷ rs) (a ∷ us) bs e =
    let p = part f rs us bs (cc) in
    record { first = r ∷ p.first; later = p.later; whole = ap (λ y. r ∷ y) p.whole; of_first = (let q = p.of_first in cc); of_later = p.of_later }

-- The front of a list with one item more: the item that a look-up finds behind it.
pub take_found : {X : Type 0} (xs : List X) (i : ℕ) (x : X) → slice_get xs i ≡ Some x → take (i + 1) xs ≡ take i xs ++ x ∷ []
take_found xs i x found = rw (get_or_from_slice_get xs i x x found) at (take_more xs i x (slice_get_within xs i x found))
