-- Records of three fields, and others.
use Rattle.std.proofs.Common.{◌≡◌, ◌≢◌, ℕ, zero, suc, ◌<◌, List, [], ◌∷◌, false, length, Err, refl, arith, Some, None, ◌∙◌}
use Rattle.csv.specs.Records.{field_at}
use Rattle.palm_deck.specs.declared.deck.DeckWhy.TheVariants.{Fields}
use Rattle.palm_deck.specs.Deck.{Record, is_header, call_by}

pub no_header : (fields : Record) → length fields ≢ 3 → is_header fields ≡ false
no_header [] h = refl
no_header (a ∷ []) h = refl
no_header (a ∷ b ∷ []) h = refl
no_header (a ∷ b ∷ c ∷ []) h = absurd (h refl)
no_header (a ∷ b ∷ c ∷ d ∷ rest) h = refl

pub other_fields : (fields : Record) → length fields ≢ 3 → call_by fields ≡ Err Fields
other_fields [] h = refl
other_fields (a ∷ []) h = refl
other_fields (a ∷ b ∷ []) h = refl
other_fields (a ∷ b ∷ c ∷ []) h = absurd (h refl)
other_fields (a ∷ b ∷ c ∷ d ∷ rest) h = refl

-- there is a field at each place below the number of fields
has_field : (fields : Record) (i : ℕ) → i < length fields → (field : List ℕ) × (field_at fields i ≡ Some field)
unfolding field_at
has_field [] i h = absurd (omega arith)
has_field (a ∷ rest) zero h = (a, refl)
has_field (a ∷ rest) (suc i) h = has_field rest i (omega arith)

pub no_field : (fields : Record) (i : ℕ) → None ≡ field_at fields i → i < 3 → length fields ≡ 3 → ⊥
no_field fields i none h size =
    let found = has_field fields i (omega arith) in
    let bad : None ≡ Some found.0 = none ∙ found.1 in
    cc

pub three : (fields : Record) (a b c : List ℕ) → length fields ≡ 3 → Some a ≡ field_at fields 0 → Some b ≡ field_at fields 1 → Some c ≡ field_at fields 2 → fields ≡ a ∷ b ∷ c ∷ []
unfolding field_at
three [] a b c h x y z = absurd (omega arith)
three (u ∷ []) a b c h x y z = absurd (omega arith)
three (u ∷ v ∷ []) a b c h x y z = absurd (omega arith)
three (u ∷ v ∷ w ∷ []) a b c h x y z =
    let p : u ≡ a = cc in
    let q : v ≡ b = cc in
    let r : w ≡ c = cc in
    (λ i. p i ∷ q i ∷ r i ∷ [])
three (u ∷ v ∷ w ∷ t ∷ rest) a b c h x y z = absurd (omega arith)
