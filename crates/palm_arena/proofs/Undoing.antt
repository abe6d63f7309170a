-- What a journal puts back, as it grows and as places change.
use Rattle.std.proofs.Common.{◌≡◌, ◌⊎◌, ℕ, ◌<◌, ◌≤◌, Bool, false, List, [], ◌∷◌, ◌++◌, length, take, set, get_or, refl, sym, ap, ◌∙◌, subst, arith, inl, inr}
use Rattle.std.proofs.lemmas.List.{get_or-set_other, set-get_or, take-append-le}
use native.Mathlib.Decide.{ℕ_discrete}
use mathlib.Core.Logic.{dite}
use Rattle.palm_node.specs.declared.id.NodeId.{NodeId}
use Rattle.palm_arena.specs.declared.place.Place.{Place}
use Rattle.palm_arena.specs.declared.place.Place.TheVariants.{Empty}
use Rattle.palm_arena.specs.declared.journal.Saved.{Saved}
use Rattle.palm_arena.specs.declared.journal.Journal.{Journal}
use Rattle.palm_arena.specs.Journal.{undo, IsSaved, IsMarked, Covers}
use Rattle.palm_arena.proofs.Places.{set-set, set-comm, set-past, take-set_any}
use Rattle.palm_arena.proofs.Marks.{saved_more, saved_last, saved_cases, unmarked_cases}

-- The last entry is put back first.
pub undo-push : (entries : List Saved) (entry : Saved) (places : List Place) → undo (entries ++ entry ∷ []) places ≡ undo entries (set places entry.id.place entry.place)
unfolding undo
undo-push [] entry places = refl
undo-push (e ∷ entries) entry places = ap (λ l. set l e.id.place e.place) (undo-push entries entry places)

-- A place that isn't saved stays.
pub undo-beside : (entries : List Saved) (places : List Place) (i : ℕ) (d : Place) → ¬ IsSaved entries i → get_or (undo entries places) i d ≡ get_or places i d
unfolding undo
undo-beside [] places i d free = refl
undo-beside (e ∷ entries) places i d free =
    get_or-set_other (undo entries places) e.id.place i e.place d (λ same. free (inl (sym same)))
    ∙ undo-beside entries places i d (λ later. free (inr later))

-- A change at a place that isn't saved stays, and one at a saved place is lost.
undo-set_apart : (entries : List Saved) (places : List Place) (i : ℕ) (place : Place) → ¬ IsSaved entries i → undo entries (set places i place) ≡ set (undo entries places) i place
unfolding undo
undo-set_apart [] places i place free = refl
undo-set_apart (e ∷ entries) places i place free =
    ap (λ l. set l e.id.place e.place) (undo-set_apart entries places i place (λ later. free (inr later)))
    ∙ set-comm (undo entries places) i e.id.place place e.place (λ same. free (inl same))

dec_saved : (entries : List Saved) (i : ℕ) → IsSaved entries i ⊎ (¬ IsSaved entries i)
dec_saved [] i = inr (λ saved. saved)
dec_saved (e ∷ entries) i = dite (ℕ_discrete e.id.place i) (λ same. inl (inl same)) (λ apart. elim (dec_saved entries i) [
  | inl later ↦ inl (inr later)
  | inr free ↦ inr (λ saved. elim saved [ inl same ↦ apart same | inr later ↦ free later ])
])

pub undo-set : (entries : List Saved) (places : List Place) (i : ℕ) (place : Place) → IsSaved entries i → undo entries (set places i place) ≡ undo entries places
unfolding undo
undo-set [] places i place saved = absurd saved
undo-set (e ∷ entries) places i place (inr later) = ap (λ l. set l e.id.place e.place) (undo-set entries places i place later)
undo-set (e ∷ entries) places i place (inl here) = elim (dec_saved entries i) [
  | inl later ↦ ap (λ l. set l e.id.place e.place) (undo-set entries places i place later)
  | inr free ↦ ap (λ l. set l e.id.place e.place) (undo-set_apart entries places i place free)
      ∙ ap (λ k. set (set (undo entries places) k place) e.id.place e.place) (sym here)
      ∙ set-set (undo entries places) e.id.place place e.place
]

-- What stands at a place is saved: nothing changes of what is put back.
pub undo-saving : (count : ℕ) (entries : List Saved) (id : NodeId) (places : List Place) → undo (entries ++ record { id = id; place = get_or places id.place Empty } ∷ []) (take count places) ≡ undo entries (take count places)
undo-saving count entries id places =
    undo-push entries (record { id = id; place = get_or places id.place Empty }) (take count places)
    ∙ ap (undo entries) (sym (take-set_any count places id.place (get_or places id.place Empty)) ∙ ap (take count) (set-get_or places id.place Empty))

-- A place past those at the begin is saved as empty.
pub undo-appending : (count : ℕ) (entries : List Saved) (entry : Saved) (places : List Place) (place : Place) → count ≤ length places → entry.id.place ≡ length places → undo (entries ++ entry ∷ []) (take count (places ++ place ∷ [])) ≡ undo entries (take count places)
undo-appending count entries entry places place within end =
    ap (λ l. undo (entries ++ entry ∷ []) l) (take-append-le count places (place ∷ []) within)
    ∙ undo-push entries entry (take count places)
    ∙ ap (undo entries) (sym (take-set_any count places entry.id.place entry.place) ∙ ap (take count) (set-past places entry.id.place entry.place (omega arith)))

-- One entry is put back.
pub undo-pop : (count : ℕ) (entries popped : List Saved) (entry : Saved) (places : List Place) → entries ≡ popped ++ entry ∷ [] → undo popped (take count (set places entry.id.place entry.place)) ≡ undo entries (take count places)
undo-pop count entries popped entry places is =
    ap (undo popped) (take-set_any count places entry.id.place entry.place)
    ∙ sym (undo-push popped entry (take count places))
    ∙ ap (λ l. undo l (take count places)) (sym is)

pub undo-none : (places : List Place) → undo [] places ≡ places
unfolding undo
undo-none places = refl

-- One entry is taken off and its mark cleared.
pub covers_less : (end : ℕ) (before after : Journal) (entry : Saved) → before.saved.items ≡ after.saved.items ++ entry ∷ [] → after.touched.items ≡ set before.touched.items entry.id.place false → length after.touched.items ≡ end → Covers end before → Covers end after
covers_less end before after entry popped cleared len covers = record {
  marks = len;
  below = λ i saved. covers.below i (subst (λ (l : List Saved). IsSaved l i) (sym popped) (saved_more after.saved.items entry i saved));
  saved = λ i marked.
      let (was, apart) = unmarked_cases before.touched.items entry.id.place i (subst (λ (l : List Bool). IsMarked l i) cleared marked) in
      elim (saved_cases after.saved.items entry i (subst (λ (l : List Saved). IsSaved l i) popped (covers.saved i was))) [
        | inl same ↦ absurd (apart same)
        | inr before ↦ before
      ];
}

-- The entry that is taken off is of a place within.
pub popped_within : (end : ℕ) (journal : Journal) (rest : List Saved) (entry : Saved) → journal.saved.items ≡ rest ++ entry ∷ [] → Covers end journal → entry.id.place < end
popped_within end journal rest entry popped covers = covers.below entry.id.place (subst (λ (l : List Saved). IsSaved l entry.id.place) (sym popped) (saved_last rest entry))

-- Nothing is left to put back.
pub undo-all : (count : ℕ) (entries : List Saved) (places : List Place) → length entries ≡ 0 → undo entries (take count places) ≡ take count places
unfolding undo
undo-all count [] places none = refl
undo-all count (entry ∷ entries) places none = absurd (omega arith)
