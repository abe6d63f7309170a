-- Text that is appended piece by piece.
use Rattle.std.proofs.Common.{◌≡◌, ℕ, ◌+◌, ◌≤◌, List, ◌∷◌, [], ◌++◌, length, take, sym, ap, ◌∙◌, append_assoc, arith}
use Rattle.std.specs.Prelude.{slice_get, Some}
use Rattle.std.specs.List.{flat_map}
use Rattle.std.proofs.Math.Seq.{take-append_seam}
use Rattle.std.proofs.lemmas.List.{length-append, take-take, take_more, flat_map_more}
use Rattle.std.proofs.lemmas.Option.{get_or_from_slice_get, slice_get_within}
use Rattle.palm_base.specs.Extends.{Extends}

-- What was there stays at the front through one more piece.
pub extends_more : {X : Type 0} (old now new more : List X) → now ≡ old ++ more → Extends now new → Extends old new
extends_more old now new more e h =
    let short : length old ≤ length now = omega (arith, ap length e, length-append old more) in
    record { front = sym (take-take (length old) (length now) new short) ∙ ap (take (length old)) (h.front ∙ e) ∙ take-append_seam old more }

-- One more item's text stands after those so far.
pub flat_map_next : {X : Type 0} (text : X → List ℕ) (xs : List X) (i : ℕ) (x : X) (front head old new : List ℕ) → slice_get xs i ≡ Some x
    → old ≡ front ++ (head ++ flat_map text (take i xs)) → new ≡ old ++ text x → new ≡ front ++ (head ++ flat_map text (take (i + 1) xs))
flat_map_next text xs i x front head old new found so_far more =
    let next : take (i + 1) xs ≡ take i xs ++ x ∷ [] = rw (get_or_from_slice_get xs i x x found) at (take_more xs i x (slice_get_within xs i x found)) in
    let joined : (head ++ flat_map text (take i xs)) ++ text x ≡ head ++ flat_map text (take (i + 1) xs) = rw next (flat_map_more text head (take i xs) x) in
    more ∙ ap (λ (l : List ℕ). l ++ text x) so_far ∙ append_assoc front (head ++ flat_map text (take i xs)) (text x) ∙ ap (λ (l : List ℕ). front ++ l) joined

-- A list with something appended begins with it.
pub extended : {X : Type 0} (old new more : List X) → new ≡ old ++ more → Extends old new
extended old new more e = record { front = ap (take (length old)) e ∙ take-append_seam old more }

-- What follows an appended piece follows what it was appended to, with the piece before it.
pub append_next : {X : Type 0} (old piece new rest : List X) → new ≡ old ++ piece → new ++ rest ≡ old ++ (piece ++ rest)
append_next old piece new rest e = ap (λ (l : List _). l ++ rest) e ∙ append_assoc old piece rest
