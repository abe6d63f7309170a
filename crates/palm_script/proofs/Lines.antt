-- The first line of a script, and the lines after it.
use Rattle.std.proofs.Common.{◌⊎◌, inl, inr, ◌≡◌, ℕ, ◌+◌, ◌<◌, Bool, true, false, ltb, List, [], ◌∷◌, length, map, take, drop, All, Some, refl, ap, ◌∙◌, arith}
use Rattle.std.specs.List.{position, position_or_len, slice_split}
use Rattle.std.proofs.lemmas.Bool.{ltb-true, lt-ltb}
use Rattle.std.proofs.lemmas.Option.{cond_some}
use Rattle.std.proofs.lemmas.List.Splits.{slice_split_first, slice_split_none, length-slice_split}
use Rattle.palm_script.specs.Script.{is_feed, without_return, ended, lines_of}

pub ended_more : (whole : Bool) (part : List ℕ) (parts : List (List ℕ)) → 0 < length parts → ended whole (part ∷ parts) ≡ part ∷ ended whole parts
ended_more whole part [] h = absurd (omega arith)
ended_more whole part (p ∷ ps) h = refl

-- the first line ends at the first line feed
pub line_at : (whole : Bool) (text : List ℕ) (i : ℕ) → position is_feed text ≡ Some i → lines_of text whole ≡ without_return (take i text) ∷ lines_of (drop (i + 1) text) whole
line_at whole text i h =
    let found = cond_some (ltb (position_or_len is_feed text) (length text)) (position_or_len is_feed text) i h in
    let split = slice_split_first is_feed text 0 (ltb-true _ _ found.0) in
    let at : slice_split is_feed text ≡ take i text ∷ slice_split is_feed (drop (i + 1) text) = rw found.1 at split in
    ap (λ parts. map without_return (ended whole parts)) at ∙ ap (map without_return) (ended_more whole (take i text) (slice_split is_feed (drop (i + 1) text)) (omega (arith, length-slice_split is_feed (drop (i + 1) text))))

-- without a line feed the text is the last line
pub line_last : (text : List ℕ) → All (λ b. is_feed b ≡ false) text → 0 < length text → lines_of text true ≡ without_return text ∷ []
line_last text h some =
    ap (λ parts. map without_return (ended true parts)) (slice_split_none is_feed text h) ∙ rw (lt-ltb 0 (length text) some) refl

pub no_line : (whole : Bool) (text : List ℕ) → All (λ b. is_feed b ≡ false) text → (whole ≡ false) ⊎ (text ≡ []) → lines_of text whole ≡ []
no_line whole text h (inl e) = ap (λ parts. map without_return (ended whole parts)) (slice_split_none is_feed text h) ∙ rw e refl
no_line true text h (inr e) = rw e refl
no_line false text h (inr e) = rw e refl
