-- Lanes under way: one that is done, one that goes down once more, and entries that are taken.
use Rattle.std.proofs.Common.{◌≡◌, ℕ, zero, suc, ◌+◌, ◌<◌, ◌≤◌, List, [], ◌∷◌, ◌++◌, length, map, drop, get_or, set, Option, Some, None, slice_get, refl, sym, ap, subst, arith, ◌∙◌, ◌⊎◌, inl, inr, length-set, length-append, get_or-set_same}
use Rattle.std.specs.Option.{option_map}
use Rattle.std.specs.List.{AllByRecursion}
use Rattle.std.proofs.lemmas.Bool.{cases_lt, cases_order}
use Rattle.std.proofs.lemmas.Option.{slice_get-get_or, slice_get-map, slice_get_within}
use Rattle.std.proofs.lemmas.List.{append_assoc, append-nil, ext_get_or, length-map}
use Rattle.std.proofs.Math.Seq.{drop-cons}
use Rattle.palm_base.specs.LookUps.{looked}
use Rattle.palm_base.specs.declared.row.Row.{Row}
use Rattle.palm_base.specs.declared.call.Reply.{Reply}
use Rattle.palm_base.specs.declared.call.Entry.{Entry}
use Rattle.palm_base.proofs.Every.{every_weaker, every_append}
use Rattle.palm_tree.specs.LookLanes.{GoesBy, IsLane, HasLane, IsAnswered, AreUnderWay, way_left}
use Rattle.palm_tree.specs.declared.look_ups.Lane.{Lane}

-- ---- one lane among others

has_middle : (i : ℕ) (left : List Lane) (lane : Lane) (rest : List Lane) → HasLane i (left ++ lane ∷ rest) → (lane.place ≡ i) ⊎ HasLane i (left ++ rest)
has_middle i [] lane rest has = has
has_middle i (first ∷ left) lane rest (inl own) = inr (inl own)
has_middle i (first ∷ left) lane rest (inr has) = by (has_middle i left lane rest has)
  where
    by : (lane.place ≡ i) ⊎ HasLane i (left ++ rest) → (lane.place ≡ i) ⊎ HasLane i (first ∷ left ++ rest)
    by (inl own) = inl own
    by (inr other) = inr (inr other)

has_put : (i : ℕ) (left : List Lane) (lane : Lane) (rest : List Lane) → (lane.place ≡ i) ⊎ HasLane i (left ++ rest) → HasLane i (left ++ lane ∷ rest)
has_put i [] lane rest has = has
has_put i (first ∷ left) lane rest (inl own) = inr (has_put i left lane rest (inl own))
has_put i (first ∷ left) lane rest (inr (inl own)) = inl own
has_put i (first ∷ left) lane rest (inr (inr has)) = inr (has_put i left lane rest (inr has))

every_middle : (P : Lane → Type 0) (left : List Lane) (lane : Lane) (rest : List Lane) → AllByRecursion P (left ++ lane ∷ rest) → P lane × AllByRecursion P (left ++ rest)
every_middle P [] lane rest all = all
every_middle P (first ∷ left) lane rest all = let more = every_middle P left lane rest all.1 in (more.0, (all.0, more.1))

every_put : (P : Lane → Type 0) (left : List Lane) (lane : Lane) (rest : List Lane) → P lane → AllByRecursion P (left ++ rest) → AllByRecursion P (left ++ lane ∷ rest)
every_put P [] lane rest own all = (own, all)
every_put P (first ∷ left) lane rest own all = (all.0, every_put P left lane rest own all.1)

pub way_middle : (left : List Lane) (lane : Lane) (rest : List Lane) → way_left (left ++ lane ∷ rest) ≡ suc lane.key + way_left (left ++ rest)
way_middle [] lane rest = refl
way_middle (first ∷ left) lane rest = let more = way_middle left lane rest in omega arith

-- ---- items at places

get_set_other : {X : Type 0} (xs : List X) (i k : ℕ) (x : X) → (i ≡ k → ⊥) → slice_get (set xs i x) k ≡ slice_get xs k
get_set_other [] i k x apart = refl
get_set_other (y ∷ xs) zero zero x apart = absurd (apart refl)
get_set_other (y ∷ xs) zero (suc k) x apart = refl
get_set_other (y ∷ xs) (suc i) zero x apart = refl
get_set_other (y ∷ xs) (suc i) (suc k) x apart = get_set_other xs i k x (λ e. apart (ap suc e))

get_set_same : {X : Type 0} (xs : List X) (i : ℕ) (x : X) → i < length xs → slice_get (set xs i x) i ≡ Some x
get_set_same xs i x inside =
    let long : length (set xs i x) ≡ length xs = length-set xs i x in
    slice_get-get_or (set xs i x) i x (omega arith) ∙ ap Some (get_or-set_same xs i x x inside)

get_push_other : {X : Type 0} (xs ys : List X) (i : ℕ) → i < length xs → slice_get (xs ++ ys) i ≡ slice_get xs i
get_push_other [] ys i inside = absurd (omega arith)
get_push_other (x ∷ xs) ys zero inside = refl
get_push_other (x ∷ xs) ys (suc i) inside = get_push_other xs ys i (omega arith)

get_push_last : {X : Type 0} (xs : List X) (x : X) → slice_get (xs ++ x ∷ []) (length xs) ≡ Some x
get_push_last [] x = refl
get_push_last (y ∷ xs) x = get_push_last xs x

-- What is looked up for an entry stands in its place.
looked_at : (rows : List Row) (entries : List Entry) (i : ℕ) (entry : Entry) → slice_get entries i ≡ Some entry
    → slice_get (map (looked rows) entries) i ≡ Some (looked rows entry)
looked_at rows entries i entry here = slice_get-map (looked rows) entries i ∙ ap (option_map (looked rows)) here

-- ---- lanes that come to a leaf

-- The lane is done: its entry has its answer.
pub settled : (rows : List Row) (entries : List Entry) (left : List Lane) (lane : Lane) (rest : List Lane) (answers : List (Option Reply)) (entry : Entry) (found : Option Reply)
    → AreUnderWay rows entries (left ++ lane ∷ rest) answers → slice_get entries lane.place ≡ Some entry → found ≡ looked rows entry
    → AreUnderWay rows entries (left ++ rest) (set answers lane.place found)
settled rows entries left lane rest answers entry found under here is =
    let carried = every_middle (IsLane rows entries (length answers)) left lane rest under.carried in
    record {
      few = omega (arith, long, under.few);
      carried = rw long carried.1;
      answered = λ i inside. by i carried.0.inside (under.answered i (omega (arith, long, inside))) (cases_order lane.place i);
    }
  where
    long : length (set answers lane.place found) ≡ length answers
    long = length-set answers lane.place found

    keep : (i : ℕ) → (lane.place ≡ i → ⊥) → (lane.place ≡ i) ⊎ HasLane i (left ++ rest) → HasLane i (left ++ rest) ⊎ IsAnswered rows entries (set answers lane.place found) i
    keep i apart (inl own) = absurd (apart own)
    keep i apart (inr other) = inl other

    other_at : (i : ℕ) → (lane.place ≡ i → ⊥) → HasLane i (left ++ lane ∷ rest) ⊎ IsAnswered rows entries answers i
        → HasLane i (left ++ rest) ⊎ IsAnswered rows entries (set answers lane.place found) i
    other_at i apart (inl has) = keep i apart (has_middle i left lane rest has)
    other_at i apart (inr at) = inr (get_set_other answers lane.place i found apart ∙ at)

    by : (i : ℕ) → lane.place < length answers → HasLane i (left ++ lane ∷ rest) ⊎ IsAnswered rows entries answers i
        → (lane.place ≡ i) ⊎ ((lane.place < i) ⊎ (i < lane.place)) → HasLane i (left ++ rest) ⊎ IsAnswered rows entries (set answers lane.place found) i
    by i inside before (inl own) =
        inr
        (subst (λ (j : ℕ). IsAnswered rows entries (set answers lane.place found) j) own
        (get_set_same answers lane.place found inside ∙ ap Some is ∙ sym (looked_at rows entries lane.place entry here)))
    by i inside before (inr apart) = other_at i (λ e. omega arith) before

-- The lane goes down once more, by another key.
pub goes_on : (rows : List Row) (entries : List Entry) (left : List Lane) (lane : Lane) (rest : List Lane) (answers : List (Option Reply)) (entry : Entry) (k : ℕ)
    → AreUnderWay rows entries (left ++ lane ∷ rest) answers → slice_get entries lane.place ≡ Some entry → GoesBy rows entry.call k
    → AreUnderWay rows entries (left ++ record { place = lane.place; key = k } ∷ rest) answers
goes_on rows entries left lane rest answers entry k under here goes =
    let new : Lane = record { place = lane.place; key = k } in
    let carried = every_middle (IsLane rows entries (length answers)) left lane rest under.carried in
    record {
      few = under.few;
      carried = every_put (IsLane rows entries (length answers)) left new rest (record { inside = carried.0.inside; entry = entry; here = here; goes = goes }) carried.1;
      answered = λ i inside. by i (under.answered i inside);
    }
  where
    by : (i : ℕ) → HasLane i (left ++ lane ∷ rest) ⊎ IsAnswered rows entries answers i
        → HasLane i (left ++ record { place = lane.place; key = k } ∷ rest) ⊎ IsAnswered rows entries answers i
    by i (inl has) = inl (has_put i left (record { place = lane.place; key = k }) rest (has_middle i left lane rest has))
    by i (inr at) = inr at

-- The lanes before this one were settled: those that are left go down once more.
pub record SettledTo (rows : List Row) (entries : List Entry) (lanes : List Lane) (taken i : ℕ) (left : List Lane) (answers : List (Option Reply)) : Type 0 where
  pub under_way : AreUnderWay rows entries (left ++ drop i lanes) answers
  pub same : length answers ≡ taken
  pub few : length left ≤ i
  pub less : way_left (left ++ drop i lanes) + i ≤ way_left lanes

pub lane_done : (rows : List Row) (entries : List Entry) (lanes : List Lane) (taken i : ℕ) (left : List Lane) (answers : List (Option Reply)) (lane : Lane) (entry : Entry) (found : Option Reply)
    → SettledTo rows entries lanes taken i left answers → i < length lanes → slice_get entries (get_or lanes i lane).place ≡ Some entry → found ≡ looked rows entry
    → SettledTo rows entries lanes taken (i + 1) left (set answers (get_or lanes i lane).place found)
lane_done rows entries lanes taken i left answers lane entry found before inside here is =
    let this : Lane = get_or lanes i lane in
    let next : suc i ≡ i + 1 = omega arith in
    let cut : drop i lanes ≡ get_or lanes i lane ∷ drop (suc i) lanes = drop-cons lanes i lane inside in
    let way = ap (λ (l : List Lane). way_left (left ++ l)) cut ∙ way_middle left this (drop (suc i) lanes) in
    let under : AreUnderWay rows entries (left ++ get_or lanes i lane ∷ drop (suc i) lanes) answers =
    subst (λ (l : List Lane). AreUnderWay rows entries (left ++ l) answers) cut before.under_way in
    subst (λ (j : ℕ). SettledTo rows entries lanes taken j left (set answers (get_or lanes i lane).place found)) next
    (record {
      under_way = settled rows entries left this (drop (suc i) lanes) answers entry found under here is;
      same = length-set answers this.place found ∙ before.same;
      few = omega (arith, before.few);
      less = omega (arith, before.less, way);
    })

pub lane_again : (rows : List Row) (entries : List Entry) (lanes : List Lane) (taken i : ℕ) (left : List Lane) (answers : List (Option Reply)) (lane : Lane) (entry : Entry) (k : ℕ)
    → SettledTo rows entries lanes taken i left answers → i < length lanes → slice_get entries (get_or lanes i lane).place ≡ Some entry → GoesBy rows entry.call k → k < (get_or lanes i lane).key
    → SettledTo rows entries lanes taken (i + 1) (left ++ record { place = (get_or lanes i lane).place; key = k } ∷ []) answers
lane_again rows entries lanes taken i left answers lane entry k before inside here goes less =
    let this : Lane = get_or lanes i lane in
    let new : Lane = record { place = (get_or lanes i lane).place; key = k } in
    let next : suc i ≡ i + 1 = omega arith in
    let rest : List Lane = drop (suc i) lanes in
    let cut : drop i lanes ≡ get_or lanes i lane ∷ drop (suc i) lanes = drop-cons lanes i lane inside in
    let way = ap (λ (l : List Lane). way_left (left ++ l)) cut ∙ way_middle left this (drop (suc i) lanes) in
    let shorter = ap way_left (append_assoc left (new ∷ []) rest) ∙ way_middle left new rest in
    let under : AreUnderWay rows entries (left ++ get_or lanes i lane ∷ drop (suc i) lanes) answers =
    subst (λ (l : List Lane). AreUnderWay rows entries (left ++ l) answers) cut before.under_way in
    subst (λ (j : ℕ). SettledTo rows entries lanes taken j (left ++ record { place = (get_or lanes i lane).place; key = k } ∷ []) answers) next
    (record {
      under_way = subst (λ (l : List Lane). AreUnderWay rows entries l answers) (sym (append_assoc left (new ∷ []) rest)) (goes_on rows entries left this rest answers entry k under here goes);
      same = before.same;
      few = omega (arith, before.few, length-append left (new ∷ []));
      less = omega (arith, before.less, way, shorter, less);
    })

every_get : (P : Lane → Type 0) (i : ℕ) (lanes : List Lane) (lane : Lane) → AllByRecursion P lanes → i < length lanes → P (get_or lanes i lane)
every_get P i [] lane all inside = absurd (omega arith)
every_get P zero (first ∷ lanes) lane all inside = all.0
every_get P (suc i) (first ∷ lanes) lane all inside = every_get P i lanes lane all.1 (omega arith)

-- An item that was read stands at its place.
pub read_at : (entries : List Entry) (i place : ℕ) (entry d : Entry) → place ≡ i → i < length entries → entry ≡ get_or entries place d → slice_get entries i ≡ Some entry
read_at entries i place entry d same inside is =
    slice_get-get_or entries i d inside ∙ ap (λ (j : ℕ). Some (get_or entries j d)) (sym same) ∙ ap Some (sym is)

-- A lane's entry was read.
pub lane_entry : (rows : List Row) (entries : List Entry) (lanes : List Lane) (answers : List (Option Reply)) (i : ℕ) (lane : Lane) (entry d : Entry)
    → AreUnderWay rows entries lanes answers → i < length lanes → entry ≡ get_or entries (get_or lanes i lane).place d → slice_get entries (get_or lanes i lane).place ≡ Some entry
lane_entry rows entries lanes answers i lane entry d under inside is =
    let own = every_get (IsLane rows entries (length answers)) i lanes lane under.carried inside in
    read_at entries (get_or lanes i lane).place (get_or lanes i lane).place entry d refl (slice_get_within entries (get_or lanes i lane).place own.entry own.here) is

-- ---- entries that are taken

lane_later : (rows : List Row) (entries : List Entry) (taken more : ℕ) → taken ≤ more → (lane : Lane) → IsLane rows entries taken lane → IsLane rows entries more lane
lane_later rows entries taken more le lane is = record { inside = omega (arith, is.inside); entry = is.entry; here = is.here; goes = is.goes }

-- The entry is answered at once.
pub taken_answered : (rows : List Row) (entries : List Entry) (lanes : List Lane) (answers : List (Option Reply)) (entry : Entry) (found : Option Reply)
    → AreUnderWay rows entries lanes answers → slice_get entries (length answers) ≡ Some entry → found ≡ looked rows entry
    → AreUnderWay rows entries lanes (answers ++ found ∷ [])
taken_answered rows entries lanes answers entry found under here is = record {
  few = omega (arith, long, slice_get_within entries (length answers) entry here);
  carried = every_weaker (IsLane rows entries (length answers)) (IsLane rows entries (length (answers ++ found ∷ [])))
      (lane_later rows entries (length answers) (length (answers ++ found ∷ [])) (omega (arith, long))) lanes under.carried;
  answered = λ i inside. by i (under.answered i) (omega (arith, long, inside)) (cases_lt i (length answers));
}
  where
    long : length (answers ++ found ∷ []) ≡ suc (length answers)
    long = length-append answers (found ∷ []) ∙ omega arith

    keep : (i : ℕ) → i < length answers → HasLane i lanes ⊎ IsAnswered rows entries answers i
        → HasLane i lanes ⊎ IsAnswered rows entries (answers ++ found ∷ []) i
    keep i less (inl has) = inl has
    keep i less (inr at) = inr (get_push_other answers (found ∷ []) i less ∙ at)

    by : (i : ℕ) → (i < length answers → HasLane i lanes ⊎ IsAnswered rows entries answers i) → i < suc (length answers)
        → (i < length answers) ⊎ (length answers ≤ i) → HasLane i lanes ⊎ IsAnswered rows entries (answers ++ found ∷ []) i
    by i before inside (inl less) = keep i less (before less)
    by i before inside (inr past) =
        let own : length answers ≡ i = omega arith in
        inr
        (subst (λ (j : ℕ). IsAnswered rows entries (answers ++ found ∷ []) j) own
        (get_push_last answers found ∙ ap Some is ∙ sym (looked_at rows entries (length answers) entry here)))

-- The entry takes a lane.
pub taken_down : (rows : List Row) (entries : List Entry) (lanes : List Lane) (answers : List (Option Reply)) (entry : Entry) (k : ℕ)
    → AreUnderWay rows entries lanes answers → slice_get entries (length answers) ≡ Some entry → GoesBy rows entry.call k
    → AreUnderWay rows entries (lanes ++ record { place = length answers; key = k } ∷ []) (answers ++ None ∷ [])
taken_down rows entries lanes answers entry k under here goes = record {
  few = omega (arith, long, slice_get_within entries (length answers) entry here);
  carried = every_append (IsLane rows entries (length (answers ++ None ∷ []))) lanes (record { place = length answers; key = k } ∷ [])
      (every_weaker (IsLane rows entries (length answers)) (IsLane rows entries (length (answers ++ None ∷ [])))
      (lane_later rows entries (length answers) (length (answers ++ None ∷ [])) (omega (arith, long))) lanes under.carried)
      (record { inside = omega (arith, long); entry = entry; here = here; goes = goes }, tt);
  answered = λ i inside. by i (under.answered i) (omega (arith, long, inside)) (cases_lt i (length answers));
}
  where
    long : length (answers ++ None ∷ []) ≡ suc (length answers)
    long = length-append answers (None ∷ []) ∙ omega arith

    keep : (i : ℕ) → i < length answers → HasLane i lanes ⊎ IsAnswered rows entries answers i
        → HasLane i (lanes ++ record { place = length answers; key = k } ∷ []) ⊎ IsAnswered rows entries (answers ++ None ∷ []) i
    keep i less (inl has) = inl (has_put i lanes (record { place = length answers; key = k }) [] (inr (subst (HasLane i) (sym (append-nil lanes)) has)))
    keep i less (inr at) = inr (get_push_other answers (None ∷ []) i less ∙ at)

    by : (i : ℕ) → (i < length answers → HasLane i lanes ⊎ IsAnswered rows entries answers i) → i < suc (length answers)
        → (i < length answers) ⊎ (length answers ≤ i)
        → HasLane i (lanes ++ record { place = length answers; key = k } ∷ []) ⊎ IsAnswered rows entries (answers ++ None ∷ []) i
    by i before inside (inl less) = keep i less (before less)
    by i before inside (inr past) = inl (has_put i lanes (record { place = length answers; key = k }) [] (inl (omega arith)))

pub way_taken : (lanes : List Lane) (lane : Lane) → way_left (lanes ++ lane ∷ []) ≡ suc lane.key + way_left lanes
way_taken lanes lane = way_middle lanes lane [] ∙ ap (λ (l : List Lane). suc lane.key + way_left l) (append-nil lanes)

-- ---- none is under way any more

all_answered : (rows : List Row) (entries : List Entry) (answers : List (Option Reply)) → AreUnderWay rows entries [] answers → length answers ≡ length entries
    → answers ≡ map (looked rows) entries
all_answered rows entries answers under whole =
    ext_get_or None answers (map (looked rows) entries) (whole ∙ sym (length-map entries (looked rows))) (λ i inside. by i inside (under.answered i inside))
  where
    by : (i : ℕ) → i < length answers → HasLane i [] ⊎ IsAnswered rows entries answers i → get_or answers i None ≡ get_or (map (looked rows) entries) i None
    by i inside (inl has) = absurd has
    by i inside (inr at) =
        let long : length (map (looked rows) entries) ≡ length entries = length-map entries (looked rows) in
        let one = slice_get-get_or answers i None inside in
        let two = slice_get-get_or (map (looked rows) entries) i None (omega arith) in
        cc

-- Where no lane is left that could have been filled, all entries have their answers.
pub none_left : (rows : List Row) (entries : List Entry) (lanes : List Lane) (answers : List (Option Reply)) (most : ℕ) → AreUnderWay rows entries lanes answers → 0 < most
    → (length lanes ≡ most) ⊎ (length answers ≡ length entries) → length lanes ≡ 0 → answers ≡ map (looked rows) entries
none_left rows entries [] answers most under some (inl full) none = absurd (omega arith)
none_left rows entries [] answers most under some (inr whole) none = all_answered rows entries answers under whole
none_left rows entries (lane ∷ lanes) answers most under some full none = absurd (omega arith)
