-- What a stable sort of the marks of parts by low leaves: lows that don't fall, and at each low the same parts in the same order.
use Rattle.std.proofs.Common.{◌≡◌, ℕ, zero, suc, ◌+◌, ◌<◌, ◌≤◌, Bool, true, false, ltb, eqb, cond, not, ◌&&◌, List, [], ◌∷◌, ◌++◌, length, map, get_or, slice_get, take, drop, filter, Some, refl, sym, ap, subst, arith, ◌∙◌, ◌⊎◌, inl, inr}
use Rattle.std.specs.List.{AllByRecursion}
use Rattle.std.specs.List.Sorted.{IsPermutation, IsNonDecreasingBy, IsSortedByKey, IsStableByKey, ties}
use Rattle.std.specs.Ordering.{nat_cmp, is_lt}
use Rattle.std.specs.declared.cmp.Ordering.TheVariants.{Less, Equal, Greater}
use Rattle.std.proofs.lemmas.Bool.{cases_lt, lt-ltb, le-ltb, eq-eqb, ne_eqb}
use Rattle.std.proofs.lemmas.List.{append-nil, take_all, drop_all}
use Rattle.std.proofs.lemmas.List.Elements.{filter_agree, All-from_recursion, recursion_from_All}
use Rattle.std.proofs.lemmas.List.Sorted.{IsNonDecreasingBy-from_sort, All-permutation}
use Rattle.palm_arena.specs.Leaves.{LeafPlace}
use Rattle.palm_route.specs.declared.part.Routed.{Routed}
use Rattle.palm_route.specs.Groups.{IsRoutedTo, LowsRise, groups_of}
use Rattle.palm_route.specs.Runs.{runs_of}
use Rattle.palm_route.specs.declared.grouping.Mark.{Mark}
use Rattle.palm_route.specs.Marks.{marks_from, marked, at_low}
use Rattle.palm_base.proofs.Every.{every_weaker}
use Rattle.palm_route.proofs.Routings.{filter_on, filter_map}
use Rattle.palm_route.proofs.GroupedParts.{parts_in, SameAtEach, same_groups, NoneFalls, sorted_groups}

abbrev pub low_of : Mark → ℕ
low_of mark = mark.low

-- ---- the marks of all parts

-- The parts from a place on are those that their marks mark.
all_marked : (all : List Routed) (place : ℕ) (rest : List Routed) → ((i : ℕ) (d : Routed) → i < length rest → get_or all (place + i) d ≡ get_or rest i d) → map (marked all) (marks_from place rest) ≡ rest
all_marked all place [] at = refl
all_marked all place (one ∷ rest) at =
    let here : place + 0 ≡ place = omega arith in
    let own : get_or all place (at_low one.low) ≡ one = rw here at (at 0 (at_low one.low) (omega arith)) in
    rw (own, all_marked all (suc place) rest (λ i d lt. let next : suc place + i ≡ place + suc i = omega arith in ap (λ j. get_or all j d) next ∙ at (suc i) d (omega (arith, lt)))) refl

-- A mark is within the parts, and the part that it marks has its low.
abbrev pub IsMark : List Routed → Mark → Type 0
IsMark all mark = (mark.place < length all) × ((marked all mark).low ≡ mark.low)

marks_fit : (all : List Routed) (place : ℕ) (rest : List Routed) → place + length rest ≤ length all → ((i : ℕ) (d : Routed) → i < length rest → get_or all (place + i) d ≡ get_or rest i d)
    → AllByRecursion (IsMark all) (marks_from place rest)
marks_fit all place [] fits at = tt
marks_fit all place (one ∷ rest) fits at =
    let here : place + 0 ≡ place = omega arith in
    let own : get_or all place (at_low one.low) ≡ one = rw here at (at 0 (at_low one.low) (omega arith)) in (
      (omega (arith, fits), ap (λ (r : Routed). r.low) own),
      marks_fit all (suc place) rest (omega (arith, fits)) (λ i d lt. let next : suc place + i ≡ place + suc i = omega arith in ap (λ j. get_or all j d) next ∙ at (suc i) d (omega (arith, lt))),
    )

from_start : (all : List Routed) (i : ℕ) (d : Routed) → i < length all → get_or all (0 + i) d ≡ get_or all i d
from_start all i d lt = let same : 0 + i ≡ i = omega arith in ap (λ j. get_or all j d) same

-- So it is after they were moved.
pub marks_stay : (all : List Routed) (marks : List Mark) → IsPermutation (marks_from 0 all) marks → AllByRecursion (IsMark all) marks
marks_stay all marks moved =
    recursion_from_All (IsMark all) marks (All-permutation (IsMark all) (marks_from 0 all) marks moved
    (All-from_recursion (IsMark all) (marks_from 0 all) (marks_fit all 0 all (omega arith) (from_start all))))

-- ---- their order

none_falls : (all : List Routed) (low : ℕ) (marks : List Mark) → IsNonDecreasingBy low_of marks → AllByRecursion (IsMark all) marks
    → ((i : ℕ) (d : Mark) → i < length marks → low ≤ low_of (get_or marks i d)) → NoneFalls low (map (marked all) marks)
none_falls all low [] up fit least = tt
none_falls all low (mark ∷ marks) up fit least =
    let own = fit.0.1 in (
      omega (arith, own, least 0 mark (omega arith)),
      rw own (none_falls all mark.low marks (λ i j d le lt. up (suc i) (suc j) d (omega (arith, le)) (omega (arith, lt))) fit.1 (λ i d lt. up 0 (suc i) d (omega arith) (omega (arith, lt)))),
    )

cmp_less : (a b : ℕ) → is_lt (nat_cmp a b) ≡ ltb a b
cmp_less a b = by (ltb a b) (eqb a b)
  where
    by : (p q : Bool) → is_lt (cond p Less (cond q Equal Greater)) ≡ p
    by true q = refl
    by false true = refl
    by false false = refl

tie_same : (a b : ℕ) → (not (ltb a b) && not (ltb b a)) ≡ eqb b a
tie_same a b = by (cases_lt a b) (cases_lt b a)
  where
    by : (a < b) ⊎ (b ≤ a) → (b < a) ⊎ (a ≤ b) → (not (ltb a b) && not (ltb b a)) ≡ eqb b a
    by (inl less) other = rw (lt-ltb a b less) (sym (ne_eqb b a (λ e. omega (arith, e, less))))
    by (inr least) (inl less) = rw (le-ltb a b least, lt-ltb b a less) (sym (ne_eqb b a (λ e. omega (arith, e, less))))
    by (inr least) (inr most) = rw (le-ltb a b least, le-ltb b a most) (sym (eq-eqb b a (omega arith)))

at_mark : ℕ → Mark
at_mark l = record { low = l; place = 0 }

same_marks : (old new : List Mark) → IsStableByKey low_of nat_cmp old new → (l : ℕ) → filter (λ (mark : Mark). eqb mark.low l) new ≡ filter (λ (mark : Mark). eqb mark.low l) old
unfolding at_mark
same_marks old new stable l =
    let tied : (mark : Mark) → ties (λ (x y : Mark). is_lt (nat_cmp x.low y.low)) (at_mark l) mark ≡ eqb mark.low l = λ mark. rw (cmp_less l mark.low, cmp_less mark.low l) (tie_same l mark.low) in
    sym (filter_agree (ties (λ (x y : Mark). is_lt (nat_cmp x.low y.low)) (at_mark l)) (λ (mark : Mark). eqb mark.low l) tied new)
    ∙ stable (at_mark l)
    ∙ filter_agree (ties (λ (x y : Mark). is_lt (nat_cmp x.low y.low)) (at_mark l)) (λ (mark : Mark). eqb mark.low l) tied old

-- The marked parts at a low are those of the marks at that low.
at_each : (all : List Routed) (marks : List Mark) (l : ℕ) → AllByRecursion (IsMark all) marks
    → filter (λ (one : Routed). eqb one.low l) (map (marked all) marks) ≡ map (marked all) (filter (λ (mark : Mark). eqb mark.low l) marks)
at_each all marks l fit =
    filter_map (marked all) (λ (one : Routed). eqb one.low l) marks
    ∙ ap (map (marked all)) (filter_on (λ (mark : Mark). eqb (marked all mark).low l) (λ (mark : Mark). eqb mark.low l) marks
    (every_weaker (IsMark all) (λ (mark : Mark). eqb (marked all mark).low l ≡ eqb mark.low l) (λ mark is. ap (λ k. eqb k l) is.1) marks fit))

same_at_each : (all : List Routed) (marks : List Mark) → IsPermutation (marks_from 0 all) marks → IsStableByKey low_of nat_cmp (marks_from 0 all) marks → SameAtEach (map (marked all) (marks_from 0 all)) (map (marked all) marks)
unfolding SameAtEach
same_at_each all marks moved stable l =
    at_each all (marks_from 0 all) l (marks_fit all 0 all (omega arith) (from_start all))
    ∙ ap (map (marked all)) (sym (same_marks (marks_from 0 all) marks stable l))
    ∙ sym (at_each all marks l (marks_stay all marks moved))

all_routed : (places : List LeafPlace) (all : List Routed) (marks : List Mark) → AllByRecursion (λ (mark : Mark). IsRoutedTo places (marked all mark)) marks → AllByRecursion (IsRoutedTo places) (map (marked all) marks)
all_routed places all [] at = tt
all_routed places all (mark ∷ marks) at = (at.0, all_routed places all marks at.1)

routed_all : (places : List LeafPlace) (all : List Routed) (marks : List Mark) → AllByRecursion (IsRoutedTo places) (map (marked all) marks) → AllByRecursion (λ (mark : Mark). IsRoutedTo places (marked all mark)) marks
routed_all places all [] at = tt
routed_all places all (mark ∷ marks) at = (at.0, routed_all places all marks at.1)

-- So the groups that the marked parts make one after another are those of the parts as they arrived.
pub grouped : (all : List Routed) (marks : List Mark) → IsPermutation (marks_from 0 all) marks → IsSortedByKey low_of nat_cmp marks → IsStableByKey low_of nat_cmp (marks_from 0 all) marks
    → (places : List LeafPlace) → LowsRise places → AllByRecursion (IsRoutedTo places) all → runs_of (map (marked all) marks) ≡ groups_of places (parts_in all)
grouped all marks moved sorted stable places up routed =
    let whole : map (marked all) (marks_from 0 all) ≡ all = all_marked all 0 all (from_start all) in
    let P = λ (mark : Mark). IsRoutedTo places (marked all mark) in
    let before : AllByRecursion (IsRoutedTo places) (map (marked all) (marks_from 0 all)) = subst (AllByRecursion (IsRoutedTo places)) (sym whole) routed in
    let every : AllByRecursion (IsRoutedTo places) (map (marked all) marks) =
    all_routed places all marks (recursion_from_All P marks (All-permutation P (marks_from 0 all) marks moved (All-from_recursion P (marks_from 0 all) (routed_all places all (marks_from 0 all) before)))) in
    let falls = none_falls all 0 marks (IsNonDecreasingBy-from_sort low_of marks sorted) (marks_stay all marks moved) (λ i d lt. omega arith) in
    sorted_groups places (map (marked all) marks) up every falls
    ∙ sym (same_groups places (map (marked all) (marks_from 0 all)) (map (marked all) marks) up before every (same_at_each all marks moved stable))
    ∙ ap (λ (l : List Routed). groups_of places (parts_in l)) whole

-- The marks of one more part.
marks_more : (place : ℕ) (routed : List Routed) (i : ℕ) (one : Routed) (at : ℕ) → slice_get routed i ≡ Some one → at ≡ place + i
    → marks_from place (take (suc i) routed) ≡ marks_from place (take i routed) ++ record { low = one.low; place = at } ∷ []
marks_more place [] i one at got is = absurd cc
marks_more place (first ∷ routed) zero one at got is =
    let same : place ≡ at = omega (arith, is) in
    let own : first ≡ one = cc in
    rw (same, own) refl
marks_more place (first ∷ routed) (suc i) one at got is =
    ap (λ (l : List Mark). record { low = first.low; place = place } ∷ l) (marks_more (suc place) routed i one at got (omega (arith, is)))

pub mark_added : (routed : List Routed) (i : ℕ) (one : Routed) (now next : List Mark) → slice_get routed i ≡ Some one → now ≡ marks_from 0 (take i routed)
    → next ≡ now ++ record { low = one.low; place = i } ∷ [] → next ≡ marks_from 0 (take (i + 1) routed)
mark_added routed i one now next got so_far more =
    let n : suc i ≡ i + 1 = omega arith in
    more ∙ ap (λ (l : List Mark). l ++ record { low = one.low; place = i } ∷ []) so_far ∙ sym (marks_more 0 routed i one i got (omega arith)) ∙ ap (λ j. marks_from 0 (take j routed)) n
