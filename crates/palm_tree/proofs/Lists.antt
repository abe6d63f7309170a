-- Lists that grow item by item.
use Rattle.std.proofs.Common.{◌≡◌, ℕ, ◌+◌, List, [], ◌∷◌, ◌++◌, take, slice_get, Some, sym, ap, append_assoc, ◌∙◌}
use Rattle.std.specs.List.{flat_map}
use Rattle.std.proofs.lemmas.List.{flat_map_more}
use Rattle.palm_arena.proofs.ListParts.{take_found}

-- One more item stands after those so far.
pub take_next : {X : Type 0} (xs : List X) (i : ℕ) (x : X) (front old new : List X) → slice_get xs i ≡ Some x
    → old ≡ front ++ take i xs → new ≡ old ++ x ∷ [] → new ≡ front ++ take (i + 1) xs
take_next xs i x front old new found so_far more =
    more ∙ ap (λ (l : List _). l ++ x ∷ []) so_far ∙ append_assoc front (take i xs) (x ∷ [])
    ∙ ap (λ (l : List _). front ++ l) (sym (take_found xs i x found))

-- What one more item gives stands after what those so far give.
pub part_next : {X Y : Type 0} (part_at : X → List Y) (xs : List X) (i : ℕ) (x : X) (front old new : List Y) → slice_get xs i ≡ Some x
    → old ≡ front ++ flat_map part_at (take i xs) → new ≡ old ++ part_at x → new ≡ front ++ flat_map part_at (take (i + 1) xs)
part_next part_at xs i x front old new found so_far more =
    more ∙ ap (λ (l : List _). l ++ part_at x) so_far ∙ flat_map_more part_at front (take i xs) x
    ∙ ap (λ (l : List _). front ++ flat_map part_at l) (sym (take_found xs i x found))
