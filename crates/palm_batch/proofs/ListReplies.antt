-- The answers of the leaves that a List meets make the table's reply.
use Rattle.std.proofs.Common.{◌≡◌, ℕ, suc, ◌<◌, ◌≤◌, Bool, true, false, cond, ltb, leb, eqb, ◌&&◌, List, [], ◌∷◌, ◌++◌, take, refl, sym, ap, ◌∙◌, append_assoc, arith, ◌⊎◌, inl, inr}
use Rattle.std.specs.List.{fold, filter, flat_map, AllByRecursion}
use Rattle.std.proofs.Math.Bool.{and-false}
use Rattle.std.proofs.lemmas.Bool.{cases_lt, lt-ltb, le-ltb, lt-leb, le-leb, ne_eqb, ltb-true, leb-true}
use Rattle.std.proofs.lemmas.Bool.Decides.{nat_tests}
use Rattle.std.proofs.lemmas.List.{append-nil, take_all}
use Rattle.std.proofs.lemmas.List.Elements.{filter-append}
use Rattle.palm_base.specs.Key.{key}
use Rattle.palm_base.specs.Table.{row_key, lies_within, IsTable, answer}
use Rattle.palm_base.specs.declared.row.Row.{Row}
use Rattle.palm_base.specs.declared.call.Call.TheVariants.{List as Listing}
use Rattle.palm_base.specs.declared.call.Reply.TheVariants.{Rows}
use Rattle.palm_base.proofs.Every.{every_weaker, every_filter}
use Rattle.palm_base.proofs.Filters.{filter_both}
use Rattle.palm_base.proofs.TableSplits.{From}
use Rattle.palm_base.proofs.Tables.{filter_keeps}
use Rattle.palm_tree.proofs.Limits.{one_more}
use Rattle.palm_tree.proofs.Ranges.{within-from}
use Rattle.palm_arena.specs.Leaves.{LeafPlace}
use Rattle.palm_arena.proofs.ListParts.{flat_each}
use Rattle.palm_route.specs.Parts.{lows_of, is_later, list_keys, parts_by_keys, parts_of_call}
use Rattle.palm_route.specs.declared.part.Ask.TheVariants as ask
use Rattle.palm_route.proofs.Routings.{filter_on, filter_none}
use Rattle.palm_leaf.specs.Ranged.{range_of, rows_in_range, ranged_answers}
use Rattle.palm_leaf.specs.Spread.{spread}
use Rattle.palm_leaf.proofs.KeptOrder.{NeverFall, filter_spread}
use Rattle.palm_leaf.proofs.Spreads.{all_spread}
use Rattle.palm_batch.specs.Replies.{joined, reply_joined}
use Rattle.palm_batch.proofs.LimitedRows.{behind_cut}

-- ---- the reply

-- A List's rows in the leaf of a key.
abbrev listed_by : (from to : ℕ) → List ℕ → List Row → ℕ → List Row
listed_by from to lows rows k = filter (lies_within from to) (rows_in_range lows k rows)

-- The rows so far, with those of one leaf more, whatever was cut off.
leaf_more : (limit : ℕ) (held found : List Row) → take limit (take limit held ++ take limit found) ≡ take limit (held ++ found)
leaf_more limit held found = behind_cut limit limit (take limit held) found (omega arith) ∙ one_more limit [] held found (take limit held) (take limit (take limit held ++ found)) refl refl

lists_joined : (from to : List ℕ) (limit : ℕ) (lows : List ℕ) (rows : List Row) (entry i : ℕ) (keys : List ℕ) (held : List Row)
    → fold (joined (Listing from to limit)) (Rows (take limit held)) (ranged_answers lows rows (parts_by_keys entry i (ask.List from to limit) keys))
    ≡ Rows (take limit (held ++ flat_map (listed_by (key from) (key to) lows rows) keys))
lists_joined from to limit lows rows entry i [] held = ap (λ l. Rows (take limit l)) (sym (append-nil held))
lists_joined from to limit lows rows entry i (k ∷ keys) held =
    let found = listed_by (key from) (key to) lows rows k in
    ap (λ l. fold (joined (Listing from to limit)) (Rows l) (ranged_answers lows rows (parts_by_keys entry (suc i) (ask.List from to limit) keys))) (leaf_more limit held found)
    ∙ lists_joined from to limit lows rows entry (suc i) keys (held ++ found)
    ∙ ap (λ l. Rows (take limit l)) (append_assoc held found (flat_map (listed_by (key from) (key to) lows rows) keys))

-- ---- the ranges on the two sides of a low

-- What a test lets through has what the test tells.
passing : {X : Type 0} (test : X → Bool) (P : X → Type 0) → ((x : X) → test x ≡ true → P x) → (xs : List X) → AllByRecursion P (filter test xs)
passing test P tells [] = tt
passing {X} test P tells (x ∷ xs) = by (test x) refl (passing test P tells xs)
  where
    by : (b : Bool) → test x ≡ b → AllByRecursion P (filter test xs) → AllByRecursion P (cond b (x ∷ filter test xs) (filter test xs))
    by true is rest = (tells x is, rest)
    by false is rest = rest

-- The rows below a low, and those from it on.
abbrev below : ℕ → List Row → List Row
below low rows = filter (λ row. ltb (row_key row) low) rows

abbrev from_low : ℕ → List Row → List Row
from_low low rows = filter (λ row. leb low (row_key row)) rows

-- In the range of a key below the first low stand the rows below it.
first_range : (low k : ℕ) (lows : List ℕ) (rows : List Row) → k < low → rows_in_range (low ∷ lows) k rows ≡ below low rows
first_range low k lows rows less = rw (lt-ltb k low less) (filter_on _ (λ row. ltb (row_key row) low) rows (each rows))
  where
    same : (b : Bool) (n : ℕ) → eqb (cond b 0 (suc n)) 0 ≡ b
    same true n = refl
    same false n = ne_eqb (suc n) 0 (λ e. omega (arith, e))

    each : (rows : List Row) → AllByRecursion (λ row. eqb (range_of (low ∷ lows) (row_key row)) 0 ≡ ltb (row_key row) low) rows
    each [] = tt
    each (row ∷ rows) = (same (ltb (row_key row) low) (range_of lows (row_key row)), each rows)

-- The test of the rows in the range of a key.
abbrev in_range : List ℕ → ℕ → Row → Bool
in_range lows k row = eqb (range_of lows (row_key row)) (range_of lows k)

-- In the range of a key from the first low on stand rows from it on, by the later lows.
later_range : (low k : ℕ) (lows : List ℕ) (rows : List Row) → low ≤ k → rows_in_range (low ∷ lows) k rows ≡ rows_in_range lows k (from_low low rows)
later_range low k lows rows least = filter_both (in_range (low ∷ lows) k) (λ row. leb low (row_key row)) (in_range lows k) both rows
  where
    both : (row : Row) → in_range (low ∷ lows) k row ≡ (leb low (row_key row) && in_range lows k row)
    both row = elim (cases_lt (row_key row) low) [
      | inl less ↦ rw (lt-ltb (row_key row) low less, le-ltb k low least, lt-leb low (row_key row) less) (ne_eqb 0 (suc (range_of lows k)) (λ e. omega (arith, e)))
      | inr from ↦ rw (le-ltb (row_key row) low from, le-ltb k low least, le-leb low (row_key row) from) (grind (arith, nat_tests))
    ]

-- ---- the leaves that a List meets

-- Each low lies below all later ones.
abbrev pub Rise : List ℕ → Type 0
Rise [] = Unit {0}
Rise (low ∷ lows) = AllByRecursion (λ later. low < later) lows × Rise lows

within_keys : (from to : ℕ) (row : Row) → lies_within from to row ≡ true → (from ≤ row_key row) × (row_key row ≤ to)
within_keys from to row is = by (leb from (row_key row)) refl (leb (row_key row) to) refl is
  where
    by : (b : Bool) → leb from (row_key row) ≡ b → (c : Bool) → leb (row_key row) to ≡ c → (b && c) ≡ true → (from ≤ row_key row) × (row_key row ≤ to)
    by true f true g e = (leb-true from (row_key row) f, leb-true (row_key row) to g)
    by true f false g e = absurd cc
    by false f c g e = absurd cc

-- The rows of the list have keys from `first` on.
abbrev BeginAt : (from to first : ℕ) → List Row → Type 0
BeginAt from to first = AllByRecursion (λ row. lies_within from to row ≡ true → first ≤ row_key row)

-- A leaf whose range ends at or below that has none of them.
none_before : (from to first low : ℕ) (rows : List Row) → low ≤ first → BeginAt from to first rows → filter (lies_within from to) (below low rows) ≡ []
none_before from to first low rows less begin =
    filter_none (lies_within from to) (below low rows)
    (every_filter (λ row. lies_within from to row ≡ true → first ≤ row_key row) (λ row. lies_within from to row ≡ false) (λ row. ltb (row_key row) low) (λ row at under. not row (lies_within from to row) at (ltb-true (row_key row) low under)) rows begin)
  where
    not : (row : Row) (b : Bool) → (b ≡ true → first ≤ row_key row) → row_key row < low → b ≡ false
    not row true at under = absurd (omega (arith, at refl, less, under))
    not row false at under = refl

-- The lows that are later than a key are those later than a low above it, where all are above that low.
same_later : (from low to : ℕ) (lows : List ℕ) → from < low → AllByRecursion (λ later. low < later) lows → filter (is_later from to) lows ≡ filter (is_later low to) lows
same_later from low to lows less above =
    filter_on (is_later from to) (is_later low to) lows
    (every_weaker (λ later. low < later) (λ later. is_later from to later ≡ is_later low to later) (λ later is. rw (lt-ltb low later is, lt-ltb from later (omega (arith, is, less))) refl) lows above)

none_later : (from low to : ℕ) (lows : List ℕ) → to < low → AllByRecursion (λ later. low < later) lows → filter (is_later from to) lows ≡ []
none_later from low to lows past above =
    filter_none (is_later from to) lows (every_weaker (λ later. low < later) (λ later. is_later from to later ≡ false) (λ later is. rw (lt-leb later to (omega (arith, is, past))) (and-false (ltb from later))) lows above)

-- The later keys lie from the first on.
all_later : (first to low : ℕ) (lows : List ℕ) → low ≤ first → AllByRecursion (λ k. low ≤ k) (first ∷ filter (is_later first to) lows)
all_later first to low lows least = (least, passing (is_later first to) (λ k. low ≤ k) (λ k is. later k (ltb first k) refl is) lows)
  where
    later : (k : ℕ) (b : Bool) → ltb first k ≡ b → (b && leb k to) ≡ true → low ≤ k
    later k true f e = omega (arith, least, ltb-true first k f)
    later k false f e = absurd cc

-- By keys from a low on, the rows are those from it on.
by_later : (from to low : ℕ) (lows : List ℕ) (rows : List Row) (keys : List ℕ) → AllByRecursion (λ k. low ≤ k) keys
    → flat_map (listed_by from to (low ∷ lows) rows) keys ≡ flat_map (listed_by from to lows (from_low low rows)) keys
by_later from to low lows rows keys above =
    flat_each (λ k. low ≤ k) (listed_by from to (low ∷ lows) rows) (listed_by from to lows (from_low low rows)) (λ k least. ap (filter (lies_within from to)) (later_range low k lows rows least)) keys above

-- The leaves list by the keys that a List has from `first` on what all leaves have of it.
abbrev Listed : (from to : ℕ) → List ℕ → List Row → ℕ → Type 0
Listed from to lows rows first = flat_map (listed_by from to lows rows) (first ∷ filter (is_later first to) lows) ≡ filter (lies_within from to) (spread row_key lows rows)

-- It ends below a low.
ends_below : (from to low first : ℕ) (lows : List ℕ) (rows : List Row) → Rise (low ∷ lows) → first < low → to < low → Listed from to (low ∷ lows) rows first
ends_below from to low first lows rows rise less past =
    let later = spread row_key lows (from_low low rows) in
    let keys : filter (is_later first to) (low ∷ lows) ≡ [] = rw (lt-ltb first low less, lt-leb low to past) (none_later first low to lows past rise.0) in
    let right : From (suc to) later =
    all_spread (λ row. suc to ≤ row_key row) row_key lows (from_low low rows) (passing (λ row. leb low (row_key row)) (λ row. suc to ≤ row_key row) (λ row from. omega (arith, past, leb-true low (row_key row) from)) rows) in
    ap (λ ks. flat_map (listed_by from to (low ∷ lows) rows) (first ∷ ks)) keys ∙ ap (λ l. filter (lies_within from to) l ++ []) (first_range low first lows rows less)
    ∙ ap (λ l. filter (lies_within from to) (below low rows) ++ l) (sym (within-from from to later right)) ∙ sym (filter-append (lies_within from to) (below low rows) later)

-- It begins below a low and goes on from it.
goes_on : (from to low first : ℕ) (lows : List ℕ) (rows : List Row) → Rise (low ∷ lows) → first < low → low ≤ to → Listed from to lows (from_low low rows) low → Listed from to (low ∷ lows) rows first
goes_on from to low first lows rows rise less within rest =
    let later = spread row_key lows (from_low low rows) in
    let keys : filter (is_later first to) (low ∷ lows) ≡ low ∷ filter (is_later low to) lows =
    rw (lt-ltb first low less, le-leb low to within) (ap (λ (ks : List ℕ). low ∷ ks) (same_later first low to lows less rise.0)) in
    ap (λ ks. flat_map (listed_by from to (low ∷ lows) rows) (first ∷ ks)) keys
    ∙ ap (λ l. filter (lies_within from to) l ++ flat_map (listed_by from to (low ∷ lows) rows) (low ∷ filter (is_later low to) lows)) (first_range low first lows rows less)
    ∙ ap (λ l. filter (lies_within from to) (below low rows) ++ l) (by_later from to low lows rows (low ∷ filter (is_later low to) lows) (all_later low to low lows (omega arith)) ∙ rest)
    ∙ sym (filter-append (lies_within from to) (below low rows) later)

-- It begins at the low or above it.
begins_past : (from to low first : ℕ) (lows : List ℕ) (rows : List Row) → low ≤ first → BeginAt from to first rows → Listed from to lows (from_low low rows) first → Listed from to (low ∷ lows) rows first
begins_past from to low first lows rows least begin rest =
    let later = spread row_key lows (from_low low rows) in
    let keys : filter (is_later first to) (low ∷ lows) ≡ filter (is_later first to) lows = rw (le-ltb first low least) refl in
    ap (λ ks. flat_map (listed_by from to (low ∷ lows) rows) (first ∷ ks)) keys
    ∙ by_later from to low lows rows (first ∷ filter (is_later first to) lows) (all_later first to low lows least) ∙ rest
    ∙ ap (λ l. l ++ filter (lies_within from to) later) (sym (none_before from to first low rows least begin)) ∙ sym (filter-append (lies_within from to) (below low rows) later)

leaves_listed : (from to : ℕ) (lows : List ℕ) (first : ℕ) (rows : List Row) → Rise lows → BeginAt from to first rows → Listed from to lows rows first
leaves_listed from to [] first rows rise begin = append-nil _ ∙ ap (filter (lies_within from to)) (whole rows)
  where
    whole : (rows : List Row) → rows_in_range [] first rows ≡ rows
    whole [] = refl
    whole (row ∷ rows) = ap (λ (l : List Row). row ∷ l) (whole rows)
leaves_listed from to (low ∷ lows) first rows rise begin = by (cases_lt first low) (cases_lt to low) (λ first begin. leaves_listed from to lows first (from_low low rows) rise.1 begin)
  where
    by : (first < low) ⊎ (low ≤ first) → (to < low) ⊎ (low ≤ to) → ((first : ℕ) → BeginAt from to first (from_low low rows) → Listed from to lows (from_low low rows) first) → Listed from to (low ∷ lows) rows first
    by (inl less) (inl past) rest = ends_below from to low first lows rows rise less past
    by (inl less) (inr within) rest =
        goes_on from to low first lows rows rise less within
        (rest low (passing (λ row. leb low (row_key row)) (λ row. lies_within from to row ≡ true → low ≤ row_key row) (λ row is inside. leb-true low (row_key row) is) rows))
    by (inr least) end rest =
        begins_past from to low first lows rows least begin
        (rest first (every_filter (λ row. lies_within from to row ≡ true → first ≤ row_key row) (λ row. lies_within from to row ≡ true → first ≤ row_key row) (λ row. leb low (row_key row)) (λ row at is. at) rows begin))

-- ---- all rows of a List

table_rises : (rows : List Row) → IsTable rows → NeverFall row_key rows
table_rises [] table = tt
table_rises (row ∷ rows) table = (every_weaker (λ later. row_key row < row_key later) (λ later. row_key row ≤ row_key later) (λ later less. omega (arith, less)) rows table.0, table_rises rows table.1)

each : {X : Type 0} (P : X → Type 0) → ((x : X) → P x) → (xs : List X) → AllByRecursion P xs
each P holds [] = tt
each P holds (x ∷ xs) = (holds x, each P holds xs)

all_listed : (from to : ℕ) (lows : List ℕ) (rows : List Row) → Rise lows → IsTable rows → flat_map (listed_by from to lows rows) (list_keys from to (0 ∷ lows)) ≡ filter (lies_within from to) rows
all_listed from to lows rows rise table = by (cases_lt to from)
  where
    no_row : to < from → (row : Row) (b : Bool) → lies_within from to row ≡ b → b ≡ false
    no_row past row true is = let keys = within_keys from to row is in absurd (omega (arith, keys.0, keys.1, past))
    no_row past row false is = refl

    by : (to < from) ⊎ (from ≤ to) → flat_map (listed_by from to lows rows) (list_keys from to (0 ∷ lows)) ≡ filter (lies_within from to) rows
    by (inl past) = rw (lt-leb from to past) (sym (filter_none (lies_within from to) rows (each _ (λ row. no_row past row (lies_within from to row) refl) rows)))
    by (inr within) =
        rw (le-leb from to within, le-ltb from 0 (omega arith))
        (leaves_listed from to lows from rows rise (each _ (λ row is. (within_keys from to row is).0) rows)
        ∙ filter_spread (lies_within from to) row_key lows rows (table_rises (filter (lies_within from to) rows) (filter_keeps (lies_within from to) rows table)))

pub list_joined : (places : List LeafPlace) (lows : List ℕ) (rows : List Row) (entry : ℕ) (from to : List ℕ) (limit : ℕ) → lows_of places ≡ 0 ∷ lows → Rise lows → IsTable rows
    → reply_joined (Listing from to limit) (ranged_answers lows rows (parts_of_call places entry (Listing from to limit))) ≡ answer rows (Listing from to limit)
list_joined places lows rows entry from to limit begin rise table =
    let keys = list_keys (key from) (key to) (lows_of places) in
    ap (λ held. fold (joined (Listing from to limit)) (Rows held) (ranged_answers lows rows (parts_by_keys entry 0 (ask.List from to limit) keys))) (sym (take_all limit [] (omega arith)))
    ∙ lists_joined from to limit lows rows entry 0 keys []
    ∙ ap (λ lows'. Rows (take limit (flat_map (listed_by (key from) (key to) lows rows) (list_keys (key from) (key to) lows')))) begin
    ∙ ap (λ l. Rows (take limit l)) (all_listed (key from) (key to) lows rows rise table)

-- ---- the keys

keys_from : (from to : ℕ) (lows : List ℕ) → Rise lows → NeverFall (λ k. k) (filter (is_later from to) lows)
keys_from from to [] rise = tt
keys_from from to (low ∷ lows) rise = by (is_later from to low) (keys_from from to lows rise.1)
  where
    by : (b : Bool) → NeverFall (λ k. k) (filter (is_later from to) lows) → NeverFall (λ k. k) (cond b (low ∷ filter (is_later from to) lows) (filter (is_later from to) lows))
    by true rest = (every_filter (λ later. low < later) (λ later. low ≤ later) (is_later from to) (λ later less is. omega (arith, less)) lows rise.0, rest)
    by false rest = rest

pub list_keys_rise : (from to : ℕ) (lows : List ℕ) → Rise lows → NeverFall (λ k. k) (list_keys from to lows)
list_keys_rise from to lows rise = by (leb from to)
  where
    by : (b : Bool) → NeverFall (λ k. k) (cond b (from ∷ filter (is_later from to) lows) [])
    by true = ((all_later from to from lows (omega arith)).1, keys_from from to lows rise)
    by false = tt
