-- Groups of routed parts: the same parts in another order make the same groups where those of each leaf keep their order, and
-- parts in the order of their leaves make them one after another.
use Rattle.std.proofs.Common.{◌≡◌, ℕ, ◌<◌, ◌≤◌, Bool, true, false, ltb, leb, eqb, List, [], ◌∷◌, ◌++◌, map, filter, refl, sym, ap, subst, arith, append_assoc, ◌∙◌, ◌⊎◌, inl, inr}
use Rattle.std.specs.List.{AllByRecursion, fold}
use Rattle.std.proofs.lemmas.Bool.{cases_lt, lt-ltb, le-ltb, lt-leb, le-leb, eq-eqb, ne_eqb}
use Rattle.std.proofs.lemmas.Option.{same_Some}
use Rattle.std.proofs.lemmas.List.{append-nil, map-append}
use Rattle.std.proofs.lemmas.List.Elements.{filter-append}
use Rattle.palm_arena.specs.Leaves.{LeafPlace}
use Rattle.palm_base.proofs.Every.{every_weaker, every_append, every_filter}
use Rattle.palm_route.specs.declared.part.Part.{Part}
use Rattle.palm_route.specs.declared.part.Routed.{Routed}
use Rattle.palm_route.specs.declared.part.Group.{Group}
use Rattle.palm_route.specs.Groups.{place_of, IsRoutedTo, LowsRise, group_at, groups_of}
use Rattle.palm_route.specs.Runs.{with_routed, runs_of}
use Rattle.palm_route.proofs.Routings.{at_first, at_later, above_first, left_test, all_later, filter_on, filter_map, filter_twice, filter_all, filter_none}

-- The parts without their leaves.
abbrev pub parts_in : List Routed → List Part
parts_in parts = map (λ (one : Routed). one.part) parts

-- At each low stand the same parts in the same order.
unfoldable pub SameAtEach : List Routed → List Routed → Type 0
SameAtEach xs ys = (l : ℕ) → filter (λ (one : Routed). eqb one.low l) xs ≡ filter (λ (one : Routed). eqb one.low l) ys

every_both : {X : Type 0} (P Q R : X → Type 0) → ((x : X) → P x → Q x → R x) → (xs : List X) → AllByRecursion P xs → AllByRecursion Q xs → AllByRecursion R xs
every_both P Q R gives [] p q = tt
every_both P Q R gives (x ∷ xs) p q = (gives x p.0 q.0, every_both P Q R gives xs p.1 q.1)

-- ---- the same groups

at_alone : (place : LeafPlace) (xs : List Routed) → AllByRecursion (IsRoutedTo (place ∷ [])) xs → filter (λ (one : Routed). eqb one.low place.low) xs ≡ xs
at_alone place xs all =
    filter_all (λ (one : Routed). eqb one.low place.low) xs
    (every_weaker (IsRoutedTo (place ∷ [])) (λ (one : Routed). eqb one.low place.low ≡ true)
    (λ one is. eq-eqb one.low place.low (sym (ap (λ (p : LeafPlace). p.low) (same_Some place (place_of one) is)))) xs all)

left_parts : (first next : LeafPlace) (places : List LeafPlace) (xs : List Routed) → LowsRise (first ∷ next ∷ places) → AllByRecursion (IsRoutedTo (first ∷ next ∷ places)) xs
    → filter (λ (part : Part). ltb part.key next.low) (parts_in xs) ≡ parts_in (filter (λ (one : Routed). eqb one.low first.low) xs)
left_parts first next places xs up all =
    filter_map (λ (one : Routed). one.part) (λ (part : Part). ltb part.key next.low) xs
    ∙ ap parts_in (filter_on (λ (one : Routed). ltb one.part.key next.low) (λ (one : Routed). eqb one.low first.low) xs
    (every_weaker (IsRoutedTo (first ∷ next ∷ places)) (λ (one : Routed). ltb one.part.key next.low ≡ eqb one.low first.low) (left_test first next places up) xs all))

same_later : (low : ℕ) (xs ys : List Routed) → SameAtEach xs ys
    → SameAtEach (filter (λ (one : Routed). leb low one.part.key) xs) (filter (λ (one : Routed). leb low one.part.key) ys)
unfolding SameAtEach
same_later low xs ys same l =
    let right = λ (one : Routed). leb low one.part.key in
    let here = λ (one : Routed). eqb one.low l in
    filter_twice here right xs ∙ ap (filter right) (same l) ∙ filter_twice right here ys

pub same_groups : (places : List LeafPlace) (xs ys : List Routed) → LowsRise places → AllByRecursion (IsRoutedTo places) xs → AllByRecursion (IsRoutedTo places) ys
    → SameAtEach xs ys → groups_of places (parts_in xs) ≡ groups_of places (parts_in ys)
unfolding SameAtEach
same_groups [] xs ys up all every same = refl
same_groups (place ∷ []) xs ys up all every same =
    ap (λ (l : List Routed). group_at place (parts_in l)) (sym (at_alone place xs all) ∙ same place.low ∙ at_alone place ys every)
same_groups (first ∷ next ∷ places) xs ys up all every same =
    let right = λ (one : Routed). leb next.low one.part.key in
    let left = left_parts first next places xs up all ∙ ap parts_in (same first.low) ∙ sym (left_parts first next places ys up every) in
    let later = same_groups (next ∷ places) (filter right xs) (filter right ys) up.1 (all_later first next places xs all) (all_later first next places ys every) (same_later next.low xs ys same) in
    let more : (zs : List Routed) → filter (λ (part : Part). leb next.low part.key) (parts_in zs) ≡ parts_in (filter right zs) = filter_map (λ (one : Routed). one.part) (λ (part : Part). leb next.low part.key) in
    rw (left, more xs, more ys, later) refl

-- ---- one more part

none_grouped : (places : List LeafPlace) → groups_of places [] ≡ []
none_grouped [] = refl
none_grouped (place ∷ []) = refl
none_grouped (first ∷ next ∷ places) = none_grouped (next ∷ places)

one_more : (routed : Routed) (parts : List Part) → group_at (place_of routed) (parts ++ routed.part ∷ []) ≡ with_routed (group_at (place_of routed) parts) routed
one_more routed [] = refl
one_more routed (part ∷ parts) = rw (eq-eqb routed.low routed.low refl) refl

at_place : (place : LeafPlace) (routed : Routed) (parts : List Part) → place ≡ place_of routed → group_at place (parts ++ routed.part ∷ []) ≡ with_routed (group_at place parts) routed
at_place place routed parts is =
    subst (λ (p : LeafPlace). group_at p (parts ++ routed.part ∷ []) ≡ with_routed (group_at p parts) routed) (sym is) (one_more routed parts)

past_first : (place : LeafPlace) (routed : Routed) (parts : List Part) (groups : List Group) → place.low < routed.low
    → group_at place parts ++ with_routed groups routed ≡ with_routed (group_at place parts ++ groups) routed
past_first place routed [] groups less = refl
past_first place routed (part ∷ parts) [] less = rw (ne_eqb place.low routed.low (λ e. omega (arith, less))) refl
past_first place routed (part ∷ parts) (group ∷ groups) less = refl

-- The parts left and right of a low, where one more stands behind them.
module _ (first next : LeafPlace) (places : List LeafPlace) (xs : List Routed) (routed : Routed) where
  abbrev is_left : Part → Bool
  is_left part = ltb part.key next.low

  abbrev is_right : Part → Bool
  is_right part = leb next.low part.key

  abbrev right_ones : List Routed
  right_ones = filter (λ (one : Routed). leb next.low one.part.key) xs

  right_are : filter is_right (parts_in xs) ≡ parts_in right_ones
  right_are = filter_map (λ (one : Routed). one.part) is_right xs

  none_right : LowsRise (first ∷ next ∷ places) → AllByRecursion (IsRoutedTo (first ∷ next ∷ places)) xs → AllByRecursion (λ (one : Routed). one.low ≤ first.low) xs
      → filter is_right (parts_in xs) ≡ []
  none_right up all low =
      right_are ∙ ap parts_in (filter_none (λ (one : Routed). leb next.low one.part.key) xs (every_both (IsRoutedTo (first ∷ next ∷ places)) (λ (one : Routed). one.low ≤ first.low) (λ (one : Routed). leb next.low one.part.key ≡ false)
      (λ one is at_most. by one is at_most (cases_lt one.part.key next.low)) xs all low))
    where
      by : (one : Routed) → IsRoutedTo (first ∷ next ∷ places) one → one.low ≤ first.low → (one.part.key < next.low) ⊎ (next.low ≤ one.part.key) → leb next.low one.part.key ≡ false
      by one is at_most (inl less) = lt-leb next.low one.part.key less
      by one is at_most (inr least) = absurd (omega (arith, at_most, above_first first next places one up is least))

  more_left : routed.part.key < next.low → filter is_left (parts_in xs ++ routed.part ∷ []) ≡ filter is_left (parts_in xs) ++ routed.part ∷ []
  more_left less = filter-append is_left (parts_in xs) (routed.part ∷ []) ∙ rw (lt-ltb routed.part.key next.low less) refl

  same_right : routed.part.key < next.low → filter is_right (parts_in xs ++ routed.part ∷ []) ≡ filter is_right (parts_in xs)
  same_right less = filter-append is_right (parts_in xs) (routed.part ∷ []) ∙ rw (lt-leb next.low routed.part.key less) (append-nil (filter is_right (parts_in xs)))

  same_left : next.low ≤ routed.part.key → filter is_left (parts_in xs ++ routed.part ∷ []) ≡ filter is_left (parts_in xs)
  same_left least = filter-append is_left (parts_in xs) (routed.part ∷ []) ∙ rw (le-ltb routed.part.key next.low least) (append-nil (filter is_left (parts_in xs)))

  more_right : next.low ≤ routed.part.key → filter is_right (parts_in xs ++ routed.part ∷ []) ≡ parts_in right_ones ++ routed.part ∷ []
  more_right least =
      filter-append is_right (parts_in xs) (routed.part ∷ [])
      ∙ rw (le-leb next.low routed.part.key least) (ap (λ (l : List Part). l ++ routed.part ∷ []) right_are)

pub with_more : (places : List LeafPlace) (xs : List Routed) (routed : Routed) → LowsRise places → AllByRecursion (IsRoutedTo places) xs → IsRoutedTo places routed
    → AllByRecursion (λ (one : Routed). one.low ≤ routed.low) xs → groups_of places (parts_in xs ++ routed.part ∷ []) ≡ with_routed (groups_of places (parts_in xs)) routed
with_more [] xs routed up all is low = absurd cc
with_more (place ∷ []) xs routed up all is low = at_place place routed (parts_in xs) (same_Some place (place_of routed) is)
with_more (first ∷ next ∷ places) xs routed up all is low = by (cases_lt routed.part.key next.low) (with_more (next ∷ places) (right_ones first next places xs routed) routed up.1 (all_later first next places xs all))
  where
    by : (routed.part.key < next.low) ⊎ (next.low ≤ routed.part.key)
        → (IsRoutedTo (next ∷ places) routed → AllByRecursion (λ (one : Routed). one.low ≤ routed.low) (right_ones first next places xs routed)
        → groups_of (next ∷ places) (parts_in (right_ones first next places xs routed) ++ routed.part ∷ []) ≡ with_routed (groups_of (next ∷ places) (parts_in (right_ones first next places xs routed))) routed)
        → groups_of (first ∷ next ∷ places) (parts_in xs ++ routed.part ∷ []) ≡ with_routed (groups_of (first ∷ next ∷ places) (parts_in xs)) routed
    by (inl less) further =
        let own : first ≡ place_of routed = at_first first next places routed is less in
        let begins : first.low ≡ routed.low = ap (λ (p : LeafPlace). p.low) own in
        let at_most = every_weaker (λ (one : Routed). one.low ≤ routed.low) (λ (one : Routed). one.low ≤ first.low) (λ one le. omega (arith, le, begins)) xs low in
        let none = none_right first next places xs routed up all at_most in
        let nothing = none_grouped (next ∷ places) in
        rw (more_left first next places xs routed less, same_right first next places xs routed less, none, nothing)
        (rw (append-nil (group_at first (filter (λ (part : Part). ltb part.key next.low) (parts_in xs) ++ routed.part ∷ [])), append-nil (group_at first (filter (λ (part : Part). ltb part.key next.low) (parts_in xs))))
        (at_place first routed (filter (λ (part : Part). ltb part.key next.low) (parts_in xs)) own))
    by (inr least) further =
        let right = right_ones first next places xs routed in
        let above = above_first first next places routed up is least in
        let later = further (at_later first next places routed is least)
        (every_filter (λ (one : Routed). one.low ≤ routed.low) (λ (one : Routed). one.low ≤ routed.low) (λ (one : Routed). leb next.low one.part.key) (λ one le passes. le) xs low) in
        rw (same_left first next places xs routed least, more_right first next places xs routed least, right_are first next places xs routed, later)
        (past_first first routed (filter (λ (part : Part). ltb part.key next.low) (parts_in xs)) (groups_of (next ∷ places) (parts_in right)) above)

-- ---- parts in the order of their leaves

-- The lows don't fall, from this one on.
abbrev pub NoneFalls : ℕ → List Routed → Type 0
NoneFalls low [] = Unit {0}
NoneFalls low (one ∷ parts) = (low ≤ one.low) × NoneFalls one.low parts

grouped_on : (places : List LeafPlace) (low : ℕ) (xs ys : List Routed) → LowsRise places → AllByRecursion (IsRoutedTo places) xs → AllByRecursion (IsRoutedTo places) ys
    → AllByRecursion (λ (one : Routed). one.low ≤ low) xs → NoneFalls low ys → fold with_routed (groups_of places (parts_in xs)) ys ≡ groups_of places (parts_in (xs ++ ys))
grouped_on places low xs [] up all every at_most sorted = ap (λ (l : List Routed). groups_of places (parts_in l)) (sym (append-nil xs))
grouped_on places low xs (one ∷ ys) up all every at_most sorted =
    let at_one = every_weaker (λ (other : Routed). other.low ≤ low) (λ (other : Routed). other.low ≤ one.low) (λ other le. omega (arith, le, sorted.0)) xs at_most in
    let next : groups_of places (parts_in (xs ++ one ∷ [])) ≡ with_routed (groups_of places (parts_in xs)) one =
    ap (groups_of places) (map-append (λ (r : Routed). r.part) xs (one ∷ [])) ∙ with_more places xs one up all every.0 at_one in
    ap (λ (gs : List Group). fold with_routed gs ys) (sym next)
    ∙ grouped_on places one.low (xs ++ one ∷ []) ys up (every_append (IsRoutedTo places) xs (one ∷ []) all (every.0, tt)) every.1
    (every_append (λ (other : Routed). other.low ≤ one.low) xs (one ∷ []) at_one (omega arith, tt)) sorted.1
    ∙ ap (λ (l : List Routed). groups_of places (parts_in l)) (append_assoc xs (one ∷ []) ys)

-- So they make the groups one after another.
pub sorted_groups : (places : List LeafPlace) (ys : List Routed) → LowsRise places → AllByRecursion (IsRoutedTo places) ys → NoneFalls 0 ys → runs_of ys ≡ groups_of places (parts_in ys)
sorted_groups places ys up every sorted =
    ap (λ (gs : List Group). fold with_routed gs ys) (sym (none_grouped places)) ∙ grouped_on places 0 [] ys up tt every tt sorted
