-- The parts of keys and of entries, one more at a time.
use Rattle.std.proofs.Common.{◌≡◌, ℕ, zero, suc, ◌+◌, ◌<◌, List, [], ◌∷◌, ◌++◌, length, take, slice_get, get_or, Some, refl, sym, ap, subst, arith, append_assoc, ◌∙◌, add-one}
use Rattle.std.specs.List.{range_with_len, AllByRecursion}
use Rattle.std.specs.Option.{option_map}
use Rattle.std.proofs.lemmas.List.{append-nil, length-map}
use Rattle.std.proofs.lemmas.List.FromFn.{length-range_with_len, get_or-range_with_len}
use Rattle.std.proofs.lemmas.Option.{slice_get-map, slice_get-get_or}
use Rattle.palm_base.specs.Key.{key}
use Rattle.palm_base.specs.declared.call.Entry.{Entry}
use Rattle.palm_arena.specs.Leaves.{LeafPlace}
use Rattle.palm_route.specs.declared.part.Ask.{Ask}
use Rattle.palm_route.specs.declared.part.Part.{Part}
use Rattle.palm_route.specs.Parts.{parts_by_keys, front_keys, parts_of_call, parts_of}

-- The part of one more key has the next number.
keys_more : (entry m : ℕ) (what : Ask) (keys : List ℕ) (i k number : ℕ) → slice_get keys i ≡ Some k → number ≡ m + i
    → parts_by_keys entry m what (take (suc i) keys) ≡ parts_by_keys entry m what (take i keys) ++ record { entry = entry; number = number; key = k; ask = what } ∷ []
keys_more entry m what [] i k number got at = absurd cc
keys_more entry m what (first ∷ keys) zero k number got at =
    let same : m ≡ number = omega (arith, at) in
    let own : first ≡ k = cc in
    rw (same, own) refl
keys_more entry m what (first ∷ keys) (suc i) k number got at =
    ap (λ (l : List Part). record { entry = entry; number = m; key = first; ask = what } ∷ l) (keys_more entry (suc m) what keys i k number got (omega (arith, at)))

pub key_added : (entry : ℕ) (what : Ask) (keys : List ℕ) (i k number : ℕ) (held now next : List Part) → slice_get keys i ≡ Some k → number ≡ i
    → now ≡ held ++ parts_by_keys entry 0 what (take i keys) → next ≡ now ++ record { entry = entry; number = number; key = k; ask = what } ∷ []
    → next ≡ held ++ parts_by_keys entry 0 what (take (i + 1) keys)
key_added entry what keys i k number held now next got at so_far more =
    let n : suc i ≡ i + 1 = omega arith in
    more ∙ ap (λ (l : List Part). l ++ record { entry = entry; number = number; key = k; ask = what } ∷ []) so_far
    ∙ append_assoc held (parts_by_keys entry 0 what (take i keys)) (record { entry = entry; number = number; key = k; ask = what } ∷ [])
    ∙ ap (λ (l : List Part). held ++ l) (sym (keys_more entry 0 what keys i k number got (omega (arith, at))))
    ∙ ap (λ j. held ++ parts_by_keys entry 0 what (take j keys)) n

-- The key of the front at a place.
pub front_at : (number : List ℕ) (i : ℕ) → i < length number → slice_get (front_keys number) i ≡ Some (key (take (i + 1) number))
front_at number i lt =
    let front = λ (m : ℕ). key (take m number) in
    let keys = range_with_len 1 (length number) in
    let inside : i < length keys = omega (arith, lt, length-range_with_len 1 (length number)) in
    let own : get_or keys i 0 ≡ i + 1 = omega (arith, get_or-range_with_len 1 (length number) i 0 lt) in
    slice_get-map front keys i ∙ ap (option_map front) (slice_get-get_or keys i 0 inside ∙ ap Some own)

-- The parts of one more entry.
entries_more : (places : List LeafPlace) (m : ℕ) (entries : List Entry) (i : ℕ) (entry : Entry) (place : ℕ) → slice_get entries i ≡ Some entry → place ≡ m + i
    → parts_of places m (take (suc i) entries) ≡ parts_of places m (take i entries) ++ parts_of_call places place entry.call
entries_more places m [] i entry place got at = absurd cc
entries_more places m (first ∷ entries) zero entry place got at =
    let same : m ≡ place = omega (arith, at) in
    let own : first ≡ entry = cc in
    rw (same, own) (append-nil (parts_of_call places place entry.call))
entries_more places m (first ∷ entries) (suc i) entry place got at =
    ap (λ (l : List Part). parts_of_call places m first.call ++ l) (entries_more places (suc m) entries i entry place got (omega (arith, at)))
    ∙ sym (append_assoc (parts_of_call places m first.call) (parts_of places (suc m) (take i entries)) (parts_of_call places place entry.call))

pub entry_added : (places : List LeafPlace) (entries : List Entry) (i : ℕ) (entry : Entry) (now next : List Part) → slice_get entries i ≡ Some entry
    → now ≡ parts_of places 0 (take i entries) → next ≡ now ++ parts_of_call places i entry.call → next ≡ parts_of places 0 (take (i + 1) entries)
entry_added places entries i entry now next got so_far more =
    let n : suc i ≡ i + 1 = omega arith in
    more ∙ ap (λ (l : List Part). l ++ parts_of_call places i entry.call) so_far ∙ sym (entries_more places 0 entries i entry i got (omega arith)) ∙ ap (λ j. parts_of places 0 (take j entries)) n

pub fronts_length : (number : List ℕ) → length (front_keys number) ≡ length number
fronts_length number = length-map (range_with_len 1 (length number)) (λ m. key (take m number)) ∙ length-range_with_len 1 (length number)

-- What holds of the items so far and of the next holds of all up to the next.
all_suc : {X : Type 0} (P : X → Type 0) (xs : List X) (i : ℕ) (x : X) → slice_get xs i ≡ Some x → AllByRecursion P (take i xs) → P x → AllByRecursion P (take (suc i) xs)
all_suc P [] i x e all p = absurd cc
all_suc P (y ∷ ys) zero x e all p = (let same : y ≡ x = cc in subst P (sym same) p, tt)
all_suc P (y ∷ ys) (suc i) x e all p = (all.0, all_suc P ys i x e all.1 p)

pub all_next : {X : Type 0} (P : X → Type 0) (xs : List X) (i : ℕ) (x : X) → slice_get xs i ≡ Some x → AllByRecursion P (take i xs) → P x → AllByRecursion P (take (i + 1) xs)
all_next P xs i x e all p = rw (add-one i) (all_suc P xs i x e all p)
