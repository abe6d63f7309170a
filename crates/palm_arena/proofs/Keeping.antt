-- A batch that is under way stays one, whatever it lends, takes, gives back and drops.
use Rattle.std.proofs.Common.{◌≡◌, ◌≢◌, ◌⊎◌, ℕ, ◌+◌, ◌<◌, ◌≤◌, Bool, true, false, cond, List, [], ◌∷◌, ◌++◌, length, length-append, take, set, get_or, refl, sym, ap, ◌∙◌, subst, arith, inl, inr, Option, Some, None}
use Rattle.std.specs.Prelude.{IsSome}
use Rattle.std.specs.List.{Contains}
use Rattle.std.proofs.Math.ListN.{length-set}
use Rattle.std.proofs.lemmas.List.{get_or_past, get_or-take, get_or-set_other, get_or_append_left, length-take-le, get_or-set_same}
use Rattle.std.proofs.Math.Seq.{take-length}
use Rattle.std.proofs.lemmas.List.Elements.{Contains-push, Contains-append_left, Contains-push_cases}
use native.Mathlib.Decide.{dec_le, ℕ_discrete}
use mathlib.Core.Logic.{dite}
use Rattle.palm_node.specs.declared.id.NodeId.{NodeId}
use Rattle.palm_arena.specs.declared.place.Place.{Place}
use Rattle.palm_arena.specs.declared.place.Place.TheVariants.{Empty, Lent}
use Rattle.palm_arena.specs.declared.journal.Saved.{Saved}
use Rattle.palm_arena.specs.declared.journal.Journal.{Journal}
use Rattle.palm_arena.specs.ArenaState.{place_at, node_in, node_at, IsHeld, IsVacant, NoneLent}
use Rattle.palm_arena.specs.Journal.{undo, places_at_begin, begun_with, IsMarked, IsSaved, Saves, Appends, Keeps, IsIdle, IsKept}
use Rattle.palm_arena.proofs.Places.{live_within, neither, take-set_any}
use Rattle.palm_arena.proofs.Marks.{marked_within, marked_same, marked_more, marked_cases, marked_append_cases, marked_append_end, marked_append_more, saved_more, saved_last, saved_cases}
use Rattle.palm_arena.proofs.Undoing.{undo-saving, undo-appending, undo-set, undo-beside, undo-none}

-- Ids of one place are the same.
pub same_id : (id other : NodeId) → id.place ≡ other.place → id ≡ other
same_id id other same = ap (λ (place : ℕ). let n : NodeId = record { place = place } in n) same

-- What a journal that grew by one place says.
record Grows (count : ℕ) (places : List Place) (i : ℕ) (before after : Journal) : Type 0 where
  pub more : (j : ℕ) → IsSaved before.saved.items j → IsSaved after.saved.items j
  pub here : IsSaved after.saved.items i
  pub cases : (j : ℕ) → IsSaved after.saved.items j → (i ≡ j) ⊎ IsSaved before.saved.items j
  pub same : undo after.saved.items (take count places) ≡ undo before.saved.items (take count places)

grows_by : (count : ℕ) (places : List Place) (id : NodeId) (before after : Journal) (marked : Bool)
    → (marked ≡ true → IsSaved before.saved.items id.place)
    → after.saved.items ≡ cond marked before.saved.items (before.saved.items ++ record { id = id; place = place_at places id } ∷ [])
    → Grows count places id.place before after
grows_by count places id before after true was is = record {
  more = λ j saved. subst (λ (l : List Saved). IsSaved l j) (sym is) saved;
  here = subst (λ (l : List Saved). IsSaved l id.place) (sym is) (was refl);
  cases = λ j saved. inr (subst (λ (l : List Saved). IsSaved l j) is saved);
  same = ap (λ (l : List Saved). undo l (take count places)) is;
}
grows_by count places id before after false was is =
    let entry : Saved = record { id = id; place = place_at places id } in
    record {
      more = λ j saved. subst (λ (l : List Saved). IsSaved l j) (sym is) (saved_more before.saved.items entry j saved);
      here = subst (λ (l : List Saved). IsSaved l id.place) (sym is) (saved_last before.saved.items entry);
      cases = λ j saved. saved_cases before.saved.items entry j (subst (λ (l : List Saved). IsSaved l j) is saved);
      same = ap (λ (l : List Saved). undo l (take count places)) is ∙ undo-saving count before.saved.items id places;
    }

-- A place is saved, and its id moves.
pub saving : (count : ℕ) (base : List Place) (before after : Journal) (places : List Place) (moved : List NodeId) (id : NodeId)
    → id.place < length places → Saves id (place_at places id) before after → Keeps count base before places moved → Keeps count base after places (moved ++ id ∷ [])
saving count base before after places moved id within saves keeps =
    let grows = grows_by count places id before after (get_or before.touched.items id.place false) (λ marked. keeps.saved id.place marked) saves.saved in
    let here : id.place < length before.touched.items = omega (arith, keeps.marks) in
    let marked_then : (j : ℕ) → IsMarked before.touched.items j → IsMarked after.touched.items j = λ j marked. subst (λ (l : List Bool). IsMarked l j) (sym saves.touched) (marked_more before.touched.items id.place j marked) in
    let marked_here : IsMarked after.touched.items id.place = subst (λ (l : List Bool). IsMarked l id.place) (sym saves.touched) (marked_same before.touched.items id.place here) in
    let marked_before : (j : ℕ) → IsMarked after.touched.items j → (id.place ≡ j) ⊎ IsMarked before.touched.items j = λ j marked. marked_cases before.touched.items id.place j (subst (λ (l : List Bool). IsMarked l j) saves.touched marked) in
    record {
      marks = ap length saves.touched ∙ length-set before.touched.items id.place true ∙ keeps.marks;
      within = keeps.within;
      saved = λ j marked. elim (marked_before j marked) [
        | inl same ↦ subst (λ (k : ℕ). IsSaved after.saved.items k) same grows.here
        | inr was ↦ grows.more j (keeps.saved j was)
      ];
      marked = λ j saved. elim (grows.cases j saved) [
        | inl same ↦ subst (λ (k : ℕ). IsMarked after.touched.items k) same marked_here
        | inr was ↦ marked_then j (keeps.marked j was)
      ];
      fresh = λ j past below. marked_then j (keeps.fresh j past below);
      lent = λ other lent. marked_then other.place (keeps.lent other lent);
      listed = λ other marked. elim (marked_before other.place marked) [
        | inl same ↦ inr (subst (λ (k : NodeId). Contains (moved ++ id ∷ []) k) (same_id id other same) (Contains-push moved id))
        | inr was ↦ elim (keeps.listed other was) [
          | inl vacant ↦ inl vacant
          | inr listed ↦ inr (Contains-append_left moved (id ∷ []) other listed)
        ]
      ];
      restores = grows.same ∙ keeps.restores;
    }

-- A touched place is written. Its id has to have moved, unless the place is emptied.
pub writing : (count : ℕ) (base : List Place) (journal : Journal) (places : List Place) (moved listed : List NodeId) (id : NodeId) (place : Place)
    → IsMarked journal.touched.items id.place → (place ≡ Empty) ⊎ Contains listed id → ((other : NodeId) → id.place ≢ other.place → Contains moved other → Contains listed other)
    → Keeps count base journal places moved → Keeps count base journal (set places id.place place) listed
writing count base journal places moved listed id place marked told others keeps =
    let len = length-set places id.place place in
    let within = marked_within journal.touched.items id.place marked in
    record {
      marks = keeps.marks ∙ sym len;
      within = subst (λ (n : ℕ). count ≤ n) (sym len) keeps.within;
      saved = keeps.saved;
      marked = keeps.marked;
      fresh = λ j past below. keeps.fresh j past (subst (λ (n : ℕ). j < n) len below);
      lent = λ other lent. dite (ℕ_discrete id.place other.place)
          (λ same. subst (λ (k : ℕ). IsMarked journal.touched.items k) same marked)
          (λ apart. keeps.lent other (sym (get_or-set_other places id.place other.place place Empty (λ e. apart (sym e))) ∙ lent));
      listed = λ other touched. dite (ℕ_discrete id.place other.place)
          (λ same. elim told [
            | inl empty ↦ inl (subst (λ (k : ℕ). get_or (set places id.place place) k Empty ≡ Empty) same (get_or-set_same places id.place place Empty (omega (arith, keeps.marks)) ∙ empty))
            | inr moved ↦ inr (subst (λ (k : NodeId). Contains listed k) (same_id id other same) moved)
          ])
          (λ apart. elim (keeps.listed other touched) [
            | inl vacant ↦ inl (get_or-set_other places id.place other.place place Empty (λ e. apart (sym e)) ∙ vacant)
            | inr moved ↦ inr (others other apart moved)
          ]);
      restores = ap (undo journal.saved.items) (take-set_any count places id.place place) ∙ undo-set journal.saved.items (take count places) id.place place (keeps.saved id.place marked) ∙ keeps.restores;
    }

-- A place is appended, and its id moves.
pub appending : (count : ℕ) (base : List Place) (before after : Journal) (places : List Place) (moved : List NodeId) (id : NodeId) (place : Place)
    → id.place ≡ length places → Appends id Empty before after → Keeps count base before places moved → Keeps count base after (places ++ place ∷ []) (moved ++ id ∷ [])
appending count base before after places moved id place end appends keeps =
    let entry : Saved = record { id = id; place = Empty } in
    let len = length-append places (place ∷ []) in
    let marked_then : (j : ℕ) → IsMarked before.touched.items j → IsMarked after.touched.items j = λ j marked. subst (λ (l : List Bool). IsMarked l j) (sym appends.touched) (marked_append_more before.touched.items j marked) in
    let marked_end : (j : ℕ) → length places ≡ j → IsMarked after.touched.items j = λ j same. subst (λ (l : List Bool). IsMarked l j) (sym appends.touched) (marked_append_end before.touched.items j (keeps.marks ∙ same)) in
    let marked_before : (j : ℕ) → IsMarked after.touched.items j → (length before.touched.items ≡ j) ⊎ IsMarked before.touched.items j = λ j marked. marked_append_cases before.touched.items j (subst (λ (l : List Bool). IsMarked l j) appends.touched marked) in
    let at_before : (j : ℕ) → j < length places → get_or (places ++ place ∷ []) j Empty ≡ get_or places j Empty = λ j below. get_or_append_left places (place ∷ []) Empty j below in
    record {
      marks = ap length appends.touched ∙ length-append before.touched.items (true ∷ []) ∙ ap (λ (n : ℕ). n + 1) keeps.marks ∙ sym len;
      within = omega (arith, len, keeps.within);
      saved = λ j marked. subst (λ (l : List Saved). IsSaved l j) (sym appends.saved) (elim (marked_before j marked) [
        | inl same ↦ subst (λ (k : ℕ). IsSaved (before.saved.items ++ entry ∷ []) k) (end ∙ sym keeps.marks ∙ same) (saved_last before.saved.items entry)
        | inr was ↦ saved_more before.saved.items entry j (keeps.saved j was)
      ]);
      marked = λ j saved. elim (saved_cases before.saved.items entry j (subst (λ (l : List Saved). IsSaved l j) appends.saved saved)) [
        | inl same ↦ marked_end j (sym end ∙ same)
        | inr was ↦ marked_then j (keeps.marked j was)
      ];
      fresh = λ j past below. dite (ℕ_discrete (length places) j)
          (λ same. marked_end j same)
          (λ apart. marked_then j (keeps.fresh j past (omega (arith, len))));
      lent = λ other lent. dite (ℕ_discrete (length places) other.place)
          (λ same. marked_end other.place same)
          (λ apart.
          let below = live_within (places ++ place ∷ []) other.place (λ empty. let e : Lent ≡ Empty = sym lent ∙ empty in cc) in
          marked_then other.place (keeps.lent other (sym (at_before other.place (omega (arith, len))) ∙ lent)));
      listed = λ other marked. elim (marked_before other.place marked) [
        | inl same ↦ inr (subst (λ (k : NodeId). Contains (moved ++ id ∷ []) k) (same_id id other (end ∙ sym keeps.marks ∙ same)) (Contains-push moved id))
        | inr was ↦ elim (keeps.listed other was) [
          | inl vacant ↦ inl (at_before other.place (omega (arith, marked_within before.touched.items other.place was, keeps.marks)) ∙ vacant)
          | inr listed ↦ inr (Contains-append_left moved (id ∷ []) other listed)
        ]
      ];
      restores = ap (λ (l : List Saved). undo l (take count (places ++ place ∷ []))) appends.saved ∙ undo-appending count before.saved.items entry places place keeps.within end ∙ keeps.restores;
    }

-- A batch begins where nothing is lent.
pub beginning : (journal : Journal) (places : List Place) → NoneLent places → IsIdle journal places → Keeps (length places) places journal places []
beginning journal places home idle = record {
  marks = idle.marks;
  within = omega arith;
  saved = λ j marked. absurd (idle.marked j marked);
  marked = λ j saved. absurd (subst (λ (l : List Saved). IsSaved l j) idle.saved saved);
  fresh = λ j past below. absurd (omega arith);
  lent = λ other lent. absurd (home other lent);
  listed = λ other marked. absurd (idle.marked other.place marked);
  restores = ap (λ (l : List Saved). undo l (take (length places) places)) idle.saved ∙ undo-none (take (length places) places) ∙ take-length places;
}

-- What stands at a place that wasn't touched stood there at the begin.
before_untouched : (count : ℕ) (base : List Place) (journal : Journal) (places : List Place) (moved : List NodeId) (id : NodeId)
    → ¬ IsMarked journal.touched.items id.place → Keeps count base journal places moved → place_at base id ≡ get_or (take count places) id.place Empty
before_untouched count base journal places moved id free keeps =
    ap (λ (l : List Place). place_at l id) (sym keeps.restores) ∙ undo-beside journal.saved.items (take count places) id.place Empty (λ saved. free (keeps.marked id.place saved))

-- An id that is vacant and wasn't touched was vacant at the begin.
pub was_vacant : (count : ℕ) (base : List Place) (journal : Journal) (places : List Place) (moved : List NodeId) (id : NodeId)
    → IsVacant places id → ¬ IsMarked journal.touched.items id.place → Keeps count base journal places moved → IsVacant base id
was_vacant count base journal places moved id vacant free keeps =
    before_untouched count base journal places moved id free keeps ∙ elim (dec_le count id.place) [
      | yes past ↦ get_or_past (take count places) id.place Empty (omega (arith, length-take-le count places keeps.within))
      | no below ↦ get_or-take count places id.place Empty (omega arith) ∙ vacant
    ]

-- A live id that didn't move holds what it held at the begin.
pub stays : (count : ℕ) (base : List Place) (journal : Journal) (places : List Place) (moved : List NodeId) (id : NodeId)
    → Keeps count base journal places moved → ¬ IsVacant places id → ¬ Contains moved id → IsHeld places id × (node_at base id ≡ node_at places id)
stays count base journal places moved id keeps live unmoved =
    let free : ¬ IsMarked journal.touched.items id.place = λ marked. elim (keeps.listed id marked) [ inl vacant ↦ live vacant | inr listed ↦ unmoved listed ] in
    let within : id.place < length places = live_within places id.place live in
    let old : id.place < count = elim (dec_le count id.place) [ yes past ↦ absurd (free (keeps.fresh id.place past within)) | no below ↦ omega arith ] in (
      neither (place_at places id) live (λ lent. free (keeps.lent id lent)),
      ap node_in (before_untouched count base journal places moved id free keeps ∙ get_or-take count places id.place Empty old),
    )

-- A step that keeps every batch keeps the one under way, and what it began with.
pub onward : (begun : Option ℕ) (before after : Journal) (old new : List Place) (moved listed : List NodeId)
    → IsSome (begun_with begun before old) → ((count : ℕ) (base : List Place) → Keeps count base before old moved → Keeps count base after new listed)
    → IsKept begun before old moved → IsKept begun after new listed × (begun_with begun after new ≡ begun_with begun before old)
onward None before after old new moved listed some step kept = let e : false ≡ true = some in cc
onward (Some count) before after old new moved listed some step kept =
    let keeps = step count (places_at_begin count before old) kept in (
      record {
        marks = keeps.marks;
        within = keeps.within;
        saved = keeps.saved;
        marked = keeps.marked;
        fresh = keeps.fresh;
        lent = keeps.lent;
        listed = keeps.listed;
        restores = refl;
      },
      ap Some keeps.restores,
    )

-- A batch is kept by a journal of the same entries and marks.
pub keeps_same : (count : ℕ) (base : List Place) (before after : Journal) (places : List Place) (moved : List NodeId)
    → after.saved.items ≡ before.saved.items → after.touched.items ≡ before.touched.items → Keeps count base before places moved → Keeps count base after places moved
keeps_same count base before after places moved saved touched keeps =
    let was : (j : ℕ) → IsMarked after.touched.items j → IsMarked before.touched.items j = λ j marked. subst (λ (l : List Bool). IsMarked l j) touched marked in
    let then_ : (j : ℕ) → IsMarked before.touched.items j → IsMarked after.touched.items j = λ j marked. subst (λ (l : List Bool). IsMarked l j) (sym touched) marked in
    record {
      marks = ap length touched ∙ keeps.marks;
      within = keeps.within;
      saved = λ j marked. subst (λ (l : List Saved). IsSaved l j) (sym saved) (keeps.saved j (was j marked));
      marked = λ j is. then_ j (keeps.marked j (subst (λ (l : List Saved). IsSaved l j) saved is));
      fresh = λ j past below. then_ j (keeps.fresh j past below);
      lent = λ other lent. then_ other.place (keeps.lent other lent);
      listed = λ other marked. keeps.listed other (was other.place marked);
      restores = ap (λ (l : List Saved). undo l (take count places)) saved ∙ keeps.restores;
    }

-- A place is saved and written.
pub placing : (count : ℕ) (base : List Place) (before after : Journal) (places : List Place) (moved listed : List NodeId) (id : NodeId) (place : Place)
    → id.place < length places → Saves id (place_at places id) before after → (place ≡ Empty) ⊎ Contains listed id
    → ((other : NodeId) → id.place ≢ other.place → Contains (moved ++ id ∷ []) other → Contains listed other)
    → Keeps count base before places moved → Keeps count base after (set places id.place place) listed
placing count base before after places moved listed id place within saves told others keeps =
    let marked = subst (λ (l : List Bool). IsMarked l id.place) (sym saves.touched) (marked_same before.touched.items id.place (omega (arith, keeps.marks))) in
    writing count base after places (moved ++ id ∷ []) listed id place marked told others (saving count base before after places moved id within saves keeps)

-- An id whose place was emptied need not be listed.
pub unlisted : (moved : List NodeId) (id other : NodeId) → id.place ≢ other.place → Contains (moved ++ id ∷ []) other → Contains moved other
unlisted moved id other apart listed = elim (Contains-push_cases moved id other listed) [
  | inl before ↦ before
  | inr same ↦ absurd (apart (ap (λ (n : NodeId). n.place) same))
]
