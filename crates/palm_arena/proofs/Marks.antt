-- Marks that are set and cleared, and entries that are added.
use Rattle.std.proofs.Common.{◌≡◌, ◌≢◌, ◌⊎◌, ℕ, zero, suc, ◌<◌, Bool, true, false, List, [], ◌∷◌, ◌++◌, length, set, refl, sym, ap, ◌∙◌, arith, inl, inr}
use Rattle.std.proofs.lemmas.List.{get_or_past, get_or-set_same, get_or-set_other, get_or_push, get_or_append_left}
use native.Mathlib.Decide.{dec_le, ℕ_discrete}
use mathlib.Core.Logic.{dite}
use Rattle.palm_arena.specs.declared.journal.Saved.{Saved}
use Rattle.palm_arena.specs.Journal.{IsMarked, IsSaved}

pub marked_within : (marks : List Bool) (i : ℕ) → IsMarked marks i → i < length marks
marked_within marks i marked = elim (dec_le (length marks) i) [
  | yes past ↦ (let e : false ≡ true = sym (get_or_past marks i false past) ∙ marked in cc)
  | no within ↦ omega arith
]

pub marked_same : (marks : List Bool) (i : ℕ) → i < length marks → IsMarked (set marks i true) i
marked_same marks i within = get_or-set_same marks i true false within

pub marked_more : (marks : List Bool) (i j : ℕ) → IsMarked marks j → IsMarked (set marks i true) j
marked_more [] i j marked = marked
marked_more (m ∷ marks) zero zero marked = refl
marked_more (m ∷ marks) zero (suc j) marked = marked
marked_more (m ∷ marks) (suc i) zero marked = marked
marked_more (m ∷ marks) (suc i) (suc j) marked = marked_more marks i j marked

pub marked_cases : (marks : List Bool) (i j : ℕ) → IsMarked (set marks i true) j → (i ≡ j) ⊎ IsMarked marks j
marked_cases marks i j marked = dite (ℕ_discrete i j) (λ same. inl same) (λ apart. inr (sym (get_or-set_other marks i j true false (λ e. apart (sym e))) ∙ marked))

pub marked_append_cases : (marks : List Bool) (j : ℕ) → IsMarked (marks ++ true ∷ []) j → (length marks ≡ j) ⊎ IsMarked marks j
marked_append_cases [] zero marked = inl refl
marked_append_cases [] (suc j) marked = inr marked
marked_append_cases (m ∷ marks) zero marked = inr marked
marked_append_cases (m ∷ marks) (suc j) marked = elim (marked_append_cases marks j marked) [
  | inl same ↦ inl (ap suc same)
  | inr before ↦ inr before
]

pub marked_append_end : (marks : List Bool) (j : ℕ) → length marks ≡ j → IsMarked (marks ++ true ∷ []) j
marked_append_end marks j same = get_or_push marks true false j same

pub marked_append_more : (marks : List Bool) (j : ℕ) → IsMarked marks j → IsMarked (marks ++ true ∷ []) j
marked_append_more marks j marked = get_or_append_left marks (true ∷ []) false j (marked_within marks j marked) ∙ marked

-- A mark that is left after one was cleared was there before, and is another.
pub unmarked_cases : (marks : List Bool) (i j : ℕ) → IsMarked (set marks i false) j → IsMarked marks j × (i ≢ j)
unmarked_cases [] i j marked = (marked, λ same. let e : false ≡ true = marked in cc)
unmarked_cases (m ∷ marks) zero zero marked = (let e : false ≡ true = marked in cc, let e : false ≡ true = marked in cc)
unmarked_cases (m ∷ marks) zero (suc j) marked = (marked, λ same. cc)
unmarked_cases (m ∷ marks) (suc i) zero marked = (marked, λ same. cc)
unmarked_cases (m ∷ marks) (suc i) (suc j) marked =
    let (before, apart) = unmarked_cases marks i j marked in
    (before, λ same. apart (omega arith))

pub saved_more : (entries : List Saved) (entry : Saved) (i : ℕ) → IsSaved entries i → IsSaved (entries ++ entry ∷ []) i
saved_more [] entry i saved = absurd saved
saved_more (e ∷ entries) entry i (inl here) = inl here
saved_more (e ∷ entries) entry i (inr later) = inr (saved_more entries entry i later)

pub saved_last : (entries : List Saved) (entry : Saved) → IsSaved (entries ++ entry ∷ []) entry.id.place
saved_last [] entry = inl refl
saved_last (e ∷ entries) entry = inr (saved_last entries entry)

pub saved_cases : (entries : List Saved) (entry : Saved) (i : ℕ) → IsSaved (entries ++ entry ∷ []) i → (entry.id.place ≡ i) ⊎ IsSaved entries i
saved_cases [] entry i (inl here) = inl here
saved_cases [] entry i (inr later) = absurd later
saved_cases (e ∷ entries) entry i (inl here) = inr (inl here)
saved_cases (e ∷ entries) entry i (inr later) = elim (saved_cases entries entry i later) [
  | inl last ↦ inl last
  | inr before ↦ inr (inr before)
]
