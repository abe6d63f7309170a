-- What the leaves answer goes by the rows of the whole table: each part is answered on those in the range of its key.
use Rattle.std.proofs.Common.{◌≡◌, ℕ, zero, suc, ◌<◌, ◌≤◌, Bool, true, false, cond, ltb, leb, eqb, ◌+◌, List, [], ◌∷◌, ◌++◌, length, map, refl, sym, ap, ◌∙◌, append_assoc, subst, arith, ◌⊎◌, inl, inr}
use Rattle.std.specs.Prelude.{Option}
use Rattle.std.specs.List.{filter, flat_map, AllByRecursion}
use Rattle.std.proofs.lemmas.Bool.{ltb-true, leb-true, lt-ltb, le-ltb, lt-leb, le-leb, eq-eqb, ne_eqb, cases_lt, cases_eq}
use Rattle.std.proofs.lemmas.Bool.Decides.{nat_tests}
use Rattle.std.proofs.lemmas.List.{append-nil}
use Rattle.std.proofs.lemmas.List.Concat.{flat_map-append}
use Rattle.std.proofs.lemmas.List.Elements.{filter-append}
use Rattle.palm_base.specs.Table.{row_key, rate_at, after_all}
use Rattle.palm_base.specs.Tree.{rows_in}
use Rattle.palm_base.specs.Pass.{goes_left, goes_right, rows_under}
use Rattle.palm_base.specs.Lawful.{Sound, InOrder}
use Rattle.palm_base.specs.declared.row.Row.{Row}
use Rattle.palm_base.specs.declared.call.Call.{Call}
use Rattle.palm_base.proofs.TableSplits.{Under, From, Adds, all_add, all_split}
use Rattle.palm_route.specs.Edits.{edit_before}
use Rattle.palm_route.specs.declared.part.Ask.{Ask}
use Rattle.palm_route.specs.declared.part.Ask.TheVariants as ask
use Rattle.palm_route.specs.declared.part.Part.{Part}
use Rattle.palm_base.specs.declared.bounds.TheConstants.{LEAST_CHILDREN}
use Rattle.palm_base.proofs.Every.{every_append, every_filter, every_weaker}
use Rattle.palm_base.proofs.SoundNodes.{in_order_proper, sound_rises, in_order_rises}
use Rattle.palm_base.proofs.RisingRows.{rising_range, under_range, from_range}
use mathlib.Core.List.{map-append}
use Rattle.palm_node.specs.declared.id.NodeId.{NodeId}
use Rattle.palm_arena.specs.Placed.{Placed, value_in, values}
use Rattle.palm_arena.specs.Sites.{Site}
use Rattle.palm_route.proofs.Routings.{filter_none, filter_on, filter_twice}
use Rattle.palm_leaf.specs.Loads.{LeafLoad}
use Rattle.palm_leaf.proofs.Filtered.{filter-wider}
use Rattle.palm_leaf.proofs.Loads.{loads_of_children, loads_under}
use Rattle.palm_leaf.specs.Routed.{GoesByKey, HasKey}
use Rattle.palm_leaf.specs.Spread.{spread}
use Rattle.palm_leaf.specs.Laws.{AsksRate, IsForRate}
use Rattle.palm_leaf.specs.Answers.{answer_by, answer_of, after_part, answers_in}
use Rattle.palm_leaf.specs.Ranged.{range_of, rows_in_range, ranged_answers}
use Rattle.palm_leaf.specs.declared.answer.LeafAnswer.{LeafAnswer}
use Rattle.palm_leaf.specs.declared.answer.LeafAnswer.TheVariants.{Old}
use Rattle.palm_leaf.specs.declared.answer.PartAnswer.{PartAnswer}

-- ---- ranges on the two sides of a low

-- Below a low the ranges are those of the lows left of it.
range_below : (lows : List ℕ) (mid : ℕ) (later : List ℕ) (k : ℕ) → k < mid → range_of (lows ++ mid ∷ later) k ≡ range_of lows k
range_below [] mid later k less = rw (lt-ltb k mid less) refl
range_below (low ∷ lows) mid later k less = ap (λ (n : ℕ). cond (ltb k low) 0 (suc n)) (range_below lows mid later k less)

-- From it on they are counted on from those.
range_from : (lows : List ℕ) (mid : ℕ) (later : List ℕ) (k : ℕ) → AllByRecursion (λ low. low < mid) lows → mid ≤ k → range_of (lows ++ mid ∷ later) k ≡ suc (length lows + range_of later k)
range_from [] mid later k below least = rw (le-ltb k mid least) (omega arith)
range_from (low ∷ lows) mid later k below least = rw (le-ltb k low (omega (arith, below.0))) (omega (arith, range_from lows mid later k below.1 least))

-- There are as many ranges past the first as lows.
range_most : (lows : List ℕ) (k : ℕ) → range_of lows k ≤ length lows
range_most [] k = omega arith
range_most (low ∷ lows) k = by (ltb k low) (range_most lows k)
  where
    by : (b : Bool) → range_of lows k ≤ length lows → cond b 0 (suc (range_of lows k)) ≤ suc (length lows)
    by true rest = omega arith
    by false rest = omega (arith, rest)

-- The test of the rows in the range of a key.
abbrev in_range : List ℕ → ℕ → Row → Bool
in_range lows k row = eqb (range_of lows (row_key row)) (range_of lows k)

-- Of rows on two sides a test keeps those of the left that another keeps, where it agrees with that there, and none of the right.
kept_left : (p q : Row → Bool) (mid : ℕ) (left right : List Row) → ((row : Row) → row_key row < mid → p row ≡ q row) → ((row : Row) → mid ≤ row_key row → p row ≡ false) → Under mid left → From mid right
    → filter p (left ++ right) ≡ filter q left
kept_left p q mid left right same other under from =
    filter-append p left right
    ∙ ap (λ rows. filter p left ++ rows) (filter_none p right (every_weaker (λ row. mid ≤ row_key row) (λ row. p row ≡ false) other right from))
    ∙ append-nil (filter p left)
    ∙ filter_on p q left (every_weaker (λ row. row_key row < mid) (λ row. p row ≡ q row) same left under)

-- And the other way round.
kept_right : (p q : Row → Bool) (mid : ℕ) (left right : List Row) → ((row : Row) → mid ≤ row_key row → p row ≡ q row) → ((row : Row) → row_key row < mid → p row ≡ false) → Under mid left → From mid right
    → filter p (left ++ right) ≡ filter q right
kept_right p q mid left right same other under from =
    filter-append p left right
    ∙ ap (λ rows. rows ++ filter p right) (filter_none p left (every_weaker (λ row. row_key row < mid) (λ row. p row ≡ false) other left under))
    ∙ filter_on p q right (every_weaker (λ row. mid ≤ row_key row) (λ row. p row ≡ q row) same right from)

-- In the range of a key left of a low are rows left of it alone, and in that of a key from it on, right of it.
rows_left : (lows : List ℕ) (mid : ℕ) (later : List ℕ) (k : ℕ) (left right : List Row) → AllByRecursion (λ low. low < mid) lows → k < mid → Under mid left → From mid right
    → rows_in_range (lows ++ mid ∷ later) k (left ++ right) ≡ rows_in_range lows k left
rows_left lows mid later k left right below less = kept_left (in_range (lows ++ mid ∷ later) k) (in_range lows k) mid left right same other
  where
    same : (row : Row) → row_key row < mid → in_range (lows ++ mid ∷ later) k row ≡ in_range lows k row
    same row under-mid = rw (range_below lows mid later (row_key row) under-mid, range_below lows mid later k less) refl

    other : (row : Row) → mid ≤ row_key row → in_range (lows ++ mid ∷ later) k row ≡ false
    other row least = ne_eqb (range_of (lows ++ mid ∷ later) (row_key row)) (range_of (lows ++ mid ∷ later) k)
        (λ e. omega (arith, e, range_from lows mid later (row_key row) below least, range_below lows mid later k less, range_most lows k))

rows_right : (lows : List ℕ) (mid : ℕ) (later : List ℕ) (k : ℕ) (left right : List Row) → AllByRecursion (λ low. low < mid) lows → mid ≤ k → Under mid left → From mid right
    → rows_in_range (lows ++ mid ∷ later) k (left ++ right) ≡ rows_in_range later k right
rows_right lows mid later k left right below least = kept_right (in_range (lows ++ mid ∷ later) k) (in_range later k) mid left right same other
  where
    same : (row : Row) → mid ≤ row_key row → in_range (lows ++ mid ∷ later) k row ≡ in_range later k row
    same row from-mid = rw (range_from lows mid later (row_key row) below from-mid, range_from lows mid later k below least) (grind (arith, nat_tests))

    other : (row : Row) → row_key row < mid → in_range (lows ++ mid ∷ later) k row ≡ false
    other row under-mid = ne_eqb (range_of (lows ++ mid ∷ later) (row_key row)) (range_of (lows ++ mid ∷ later) k)
        (λ e. omega (arith, e, range_below lows mid later (row_key row) under-mid, range_from lows mid later k below least, range_most lows (row_key row)))

-- ---- one part

-- The edit of a part below a separator goes to the left, and one from it on to the right.
edit_left : (h k : ℕ) (what : Ask) → GoesByKey k what → k < h → (filter (goes_left h) (edit_before k what []) ≡ edit_before k what []) × (filter (goes_right h) (edit_before k what []) ≡ [])
edit_left h k (ask.Set rate) is less = (rw (is.whole, lt-ltb k h less) refl, rw (is.whole, lt-leb h k less) refl)
edit_left h k ask.Del is less = (rw (is.whole, lt-ltb k h less) refl, rw (is.whole, lt-leb h k less) refl)
edit_left h k ask.Look is less = (refl, refl)
edit_left h k (ask.List from to limit) is less = (refl, refl)

edit_right : (h k : ℕ) (what : Ask) → GoesByKey k what → h ≤ k → (filter (goes_left h) (edit_before k what []) ≡ []) × (filter (goes_right h) (edit_before k what []) ≡ edit_before k what [])
edit_right h k (ask.Set rate) is least = (rw (is.whole, le-ltb k h least) refl, rw (is.whole, le-leb h k least) refl)
edit_right h k ask.Del is least = (rw (is.whole, le-ltb k h least) refl, rw (is.whole, le-leb h k least) refl)
edit_right h k ask.Look is least = (refl, refl)
edit_right h k (ask.List from to limit) is least = (refl, refl)

-- The row that a part's edit puts in has the part's key.
edit_adds : (P : ℕ → Type 0) (k : ℕ) (what : Ask) → GoesByKey k what → P k → AllByRecursion (Adds P) (edit_before k what [])
edit_adds P k (ask.Set rate) is p = ((λ set. subst P (sym is.whole) p), tt)
edit_adds P k ask.Del is p = ((λ set. absurd cc), tt)
edit_adds P k ask.Look is p = tt
edit_adds P k (ask.List from to limit) is p = tt

after_left : (h : ℕ) (left right : List Row) (part : Part) → HasKey part → part.key < h → Under h left → From h right → (after_part (left ++ right) part ≡ after_part left part ++ right) × Under h (after_part left part)
after_left h left right part is less under from =
    let edits = edit_before part.key part.ask [] in
    let split = edit_left h part.key part.ask is less in (
      all_split h left right edits under from ∙ ap (λ es. after_all left es ++ after_all right (filter (goes_right h) edits)) split.0 ∙ ap (λ es. after_all left edits ++ after_all right es) split.1,
      all_add (λ i. i < h) left edits under (edit_adds (λ i. i < h) part.key part.ask is less),
    )

after_right : (h : ℕ) (left right : List Row) (part : Part) → HasKey part → h ≤ part.key → Under h left → From h right → (after_part (left ++ right) part ≡ left ++ after_part right part) × From h (after_part right part)
after_right h left right part is least under from =
    let edits = edit_before part.key part.ask [] in
    let split = edit_right h part.key part.ask is least in (
      all_split h left right edits under from ∙ ap (λ es. after_all left es ++ after_all right (filter (goes_right h) edits)) split.0 ∙ ap (λ es. left ++ after_all right es) split.1,
      all_add (λ i. h ≤ i) right edits from (edit_adds (λ i. h ≤ i) part.key part.ask is least),
    )

-- ---- all parts, on the two sides of a low

-- What a part is answered on rows, as it stands in the list.
abbrev answered : List Row → Part → PartAnswer
answered rows part = record { part = part; answer = answer_of rows part }

-- The parts below a low are answered on the rows left of it, and those from it on right of it, as among all on all rows.
abbrev AreSplit : List ℕ → ℕ → List ℕ → List Row → List Row → List Row → List Part → Type 0
AreSplit lows mid later left right rows parts =
    let all = ranged_answers (lows ++ mid ∷ later) rows parts in
    (ranged_answers lows left (filter (λ p. ltb p.key mid) parts) ≡ filter (λ a. ltb a.part.key mid) all) × (ranged_answers later right (filter (λ p. leb mid p.key) parts) ≡ filter (λ a. leb mid a.part.key) all)

answers_split : (lows : List ℕ) (mid : ℕ) (later : List ℕ) (left right : List Row) (parts : List Part) → AllByRecursion (λ low. low < mid) lows → AllByRecursion HasKey parts → Under mid left → From mid right
    → AreSplit lows mid later left right (left ++ right) parts
answers_split lows mid later left right [] below keys under from = (refl, refl)
answers_split lows mid later left right (part ∷ parts) below keys under from =
    by (cases_lt part.key mid) (λ left right under from. answers_split lows mid later left right parts below keys.1 under from)
  where
    by : (part.key < mid) ⊎ (mid ≤ part.key) → ((left right : List Row) → Under mid left → From mid right → AreSplit lows mid later left right (left ++ right) parts)
        → AreSplit lows mid later left right (left ++ right) (part ∷ parts)
    by (inl less) ih =
        let next = after_left mid left right part keys.0 less under from in
        let rest = subst (λ rows. AreSplit lows mid later (after_part left part) right rows parts) (sym next.0) (ih (after_part left part) right next.1 from) in
        rw (lt-ltb part.key mid less, lt-leb mid part.key less, rows_left lows mid later part.key left right below less under from)
        (ap (λ list. answered (rows_in_range lows part.key left) part ∷ list) rest.0, rest.1)
    by (inr least) ih =
        let next = after_right mid left right part keys.0 least under from in
        let rest = subst (λ rows. AreSplit lows mid later left (after_part right part) rows parts) (sym next.0) (ih left (after_part right part) under next.1) in
        rw (le-ltb part.key mid least, le-leb mid part.key least, rows_right lows mid later part.key left right below least under from)
        (rest.0, ap (λ list. answered (rows_in_range later part.key right) part ∷ list) rest.1)

-- ---- the leaves side by side

-- Left of a separator it is spread by the lows below it, and right of it by those above.
pub spread_join : {X : Type 0} (k : X → ℕ) (lows : List ℕ) (mid : ℕ) (later : List ℕ) (xs : List X) → AllByRecursion (λ low. low < mid) lows
    → spread k (lows ++ mid ∷ later) xs ≡ spread k lows (filter (λ x. ltb (k x) mid) xs) ++ spread k later (filter (λ x. leb mid (k x)) xs)
spread_join k [] mid later xs below = refl
spread_join k (low ∷ lows) mid later xs below =
    ap (λ ys. filter (λ x. ltb (k x) low) xs ++ ys) (spread_join k lows mid later (filter (λ x. leb low (k x)) xs) below.1)
    ∙ ap (λ ys. filter (λ x. ltb (k x) low) xs ++ (spread k lows ys ++ spread k later (filter (λ x. leb mid (k x)) (filter (λ x. leb low (k x)) xs)))) (filter_twice (λ x. ltb (k x) mid) (λ x. leb low (k x)) xs)
    ∙ ap (λ ys. filter (λ x. ltb (k x) low) xs ++ (spread k lows (filter (λ x. leb low (k x)) (filter (λ x. ltb (k x) mid) xs)) ++ spread k later ys))
    (filter-wider (λ x. leb mid (k x)) (λ x. leb low (k x)) xs (λ x e. le-leb low (k x) (let h = leb-true mid (k x) e in let b = below.0 in omega arith)))
    ∙ ap (λ ys. ys ++ (spread k lows (filter (λ x. leb low (k x)) (filter (λ x. ltb (k x) mid) xs)) ++ spread k later (filter (λ x. leb mid (k x)) xs)))
    (sym (filter-wider (λ x. ltb (k x) low) (λ x. ltb (k x) mid) xs (λ x e. lt-ltb (k x) mid (let h = ltb-true (k x) low e in let b = below.0 in omega arith))))
    ∙ sym (append_assoc (filter (λ x. ltb (k x) low) (filter (λ x. ltb (k x) mid) xs)) _ _)

-- The answers of leaves to parts, leaf by leaf, where the ranges of those past the first begin at these lows.
abbrev pub spread_answers : List ℕ → List Row → List Part → List PartAnswer
spread_answers lows rows parts = spread (λ a. a.part.key) lows (ranged_answers lows rows parts)

-- Those of leaves left and right of a low are those of all.
leaves_join : (lows : List ℕ) (mid : ℕ) (later : List ℕ) (left right : List Row) (parts : List Part) → AllByRecursion (λ low. low < mid) lows → AllByRecursion HasKey parts → Under mid left → From mid right
    → spread_answers lows left (filter (λ p. ltb p.key mid) parts) ++ spread_answers later right (filter (λ p. leb mid p.key) parts) ≡ spread_answers (lows ++ mid ∷ later) (left ++ right) parts
leaves_join lows mid later left right parts below keys under from =
    let all = ranged_answers (lows ++ mid ∷ later) (left ++ right) parts in
    let split = answers_split lows mid later left right parts below keys under from in
    ap (λ list. spread (λ a. a.part.key) lows list ++ spread_answers later right (filter (λ p. leb mid p.key) parts)) split.0
    ∙ ap (λ list. spread (λ a. a.part.key) lows (filter (λ a. ltb a.part.key mid) all) ++ spread (λ a. a.part.key) later list) split.1
    ∙ sym (spread_join (λ a. a.part.key) lows mid later all below)

-- Where there is one leaf, all rows are in its range.
pub whole_range : (rows : List Row) (parts : List Part) → ranged_answers [] rows parts ≡ answers_in rows parts
whole_range rows [] = refl
whole_range rows (part ∷ parts) =
    ap (λ found. answered found part ∷ ranged_answers [] (after_part rows part) parts) (all rows) ∙ ap (λ list. answered rows part ∷ list) (whole_range (after_part rows part) parts)
  where
    all : (rows : List Row) → filter (λ row. true) rows ≡ rows
    all [] = refl
    all (row ∷ rows) = ap (λ list. row ∷ list) (all rows)

-- The answers of loads, each on the rows of its leaf.
abbrev pub load_answers : LeafLoad → List PartAnswer
load_answers load = answers_in load.site.place.1 load.parts

-- The lows of loads.
abbrev pub loads_lows : List LeafLoad → List ℕ
loads_lows loads = map (λ load. load.low) loads

-- Loads from one key up to another, whose answers are those of leaves with their lows, on these rows.
pub record Answers (low high : ℕ) (rows : List Row) (parts : List Part) (loads : List LeafLoad) : Type 0 where
  pub later : List ℕ
  pub lows-are : loads_lows loads ≡ low ∷ later
  pub below : AllByRecursion (λ k. k < high) (low ∷ later)
  pub answers : flat_map load_answers loads ≡ spread_answers later rows parts

answers_join : (low mid high : ℕ) (left right : List Row) (parts : List Part) (loads loads' : List LeafLoad) → mid ≤ high → AllByRecursion HasKey parts → Under mid left → From mid right
    → Answers low mid left (filter (λ p. ltb p.key mid) parts) loads → Answers mid high right (filter (λ p. leb mid p.key) parts) loads'
    → Answers low high (left ++ right) parts (loads ++ loads')
answers_join low mid high left right parts loads loads' h keys under from l r = record {
  later = l.later ++ mid ∷ r.later;
  lows-are = map-append (λ (load : LeafLoad). load.low) loads loads' ∙ ap (λ lows. lows ++ loads_lows loads') l.lows-are ∙ ap (λ lows. (low ∷ l.later) ++ lows) r.lows-are;
  below = every_append (λ k. k < high) (low ∷ l.later) (mid ∷ r.later) (every_weaker (λ k. k < mid) (λ k. k < high) (λ k less. omega (arith, less, h)) (low ∷ l.later) l.below) r.below;
  answers =
      flat_map-append load_answers loads loads' ∙ ap (λ list. list ++ flat_map load_answers loads') l.answers
      ∙ ap (λ list. spread_answers l.later left (filter (λ p. ltb p.key mid) parts) ++ list) r.answers
      ∙ leaves_join l.later mid r.later left right parts l.below.1 keys under from;
}

abbrev NodesAnswer : ℕ → Type 0
NodesAnswer n =
    (site : Site n) (low high : ℕ) (parts : List Part) → AllByRecursion HasKey parts → low < high → Sound n low high (value_in n site.place.1)
    → Answers low high (rows_in n (value_in n site.place.1)) parts (loads_under n site low parts)

pub children_answer : (n : ℕ) → NodesAnswer n → (path : List (NodeId × ℕ)) (id : NodeId) (i low high : ℕ) (child : ℕ × Placed n) (children : List (ℕ × Placed n)) (edits : List Call) (parts : List Part) → AllByRecursion HasKey parts
    → InOrder n low high (values n (child ∷ children))
    → Answers low high (rows_under n (values n (child ∷ children))) parts (loads_of_children n (loads_under n) path id i low (child ∷ children) edits parts)
children_answer n ih path id i low high child [] edits parts keys order =
    let site : Site n = record { path = path ++ (id, i) ∷ []; low = child.0; place = child.1; edits = edits } in
    subst (λ rows. Answers low high rows parts (loads_under n site low parts)) (sym (append-nil (rows_in n (value_in n child.1.1)))) (ih site low high parts keys order.0.0 order.0.1)
children_answer n ih path id i low high child (next ∷ children) edits parts keys order =
    let site : Site n = record { path = path ++ (id, i) ∷ []; low = child.0; place = child.1; edits = filter (goes_left next.0) edits } in
    let proper = in_order_proper n next.0 high (next.0, value_in n next.1.1) (values n children) order.1 in
    let left = rows_in n (value_in n child.1.1) in
    let right = rows_under n (values n (next ∷ children)) in
    let under : Under next.0 left = under_range low next.0 left (rising_range low next.0 left (sound_rises n low next.0 (value_in n child.1.1) order.0.1)) in
    let from : From next.0 right = from_range next.0 high right (rising_range next.0 high right (in_order_rises n next.0 high (values n (next ∷ children)) order.1)) in
    answers_join low next.0 high left right parts (loads_under n site low (filter (λ p. ltb p.key next.0) parts)) _ (omega (arith, proper)) keys under from
    (ih site low next.0 (filter (λ p. ltb p.key next.0) parts) (every_filter HasKey HasKey (λ p. ltb p.key next.0) (λ p is passes. is) parts keys) order.0.0 order.0.1)
    (children_answer n ih path id (suc i) next.0 high next children (filter (goes_right next.0) edits) (filter (λ p. leb next.0 p.key) parts) (every_filter HasKey HasKey (λ p. leb next.0 p.key) (λ p is passes. is) parts keys) order.1)

pub nodes_answer : (n : ℕ) → NodesAnswer n
nodes_answer zero site low high parts keys less sound = record {
  later = [];
  lows-are = refl;
  below = (less, tt);
  answers = append-nil (answers_in site.place.1 parts) ∙ sym (whole_range site.place.1 parts);
}
nodes_answer (suc n) site low high parts keys less sound = some (nodes_answer n) site.place.1 sound.0.0 sound.2
  where
    some : NodesAnswer n → (children : List (ℕ × Placed n)) → LEAST_CHILDREN ≤ length (values n children) → InOrder n low high (values n children)
        → Answers low high (rows_in (suc n) (value_in (suc n) children)) parts (loads_of_children n (loads_under n) site.path site.place.0 0 low children site.edits parts)
    some ih [] many order = absurd (omega arith)
    some ih (child ∷ children) many order = children_answer n ih site.path site.place.0 0 low high child children site.edits parts keys order

-- ---- parts that ask for a rate

-- The row of a key stands in the key's own range.
rate_in_range : (lows : List ℕ) (k : ℕ) (rows : List Row) → rate_at k (rows_in_range lows k rows) ≡ rate_at k rows
rate_in_range lows k [] = refl
rate_in_range lows k (row ∷ rows) = by (cases_eq (row_key row) k) (rate_in_range lows k rows)
  where
    by : (row_key row ≡ k) ⊎ (row_key row ≡ k → ⊥) → rate_at k (rows_in_range lows k rows) ≡ rate_at k rows → rate_at k (rows_in_range lows k (row ∷ rows)) ≡ rate_at k (row ∷ rows)
    by (inl same) rest = rw (eq-eqb (range_of lows (row_key row)) (range_of lows k) (ap (range_of lows) same), eq-eqb (row_key row) k same) refl
    by (inr other) rest = rw (ne_eqb (row_key row) k other) (either (in_range lows k row))
      where
        either : (b : Bool) → rate_at k (cond b (row ∷ rows_in_range lows k rows) (rows_in_range lows k rows)) ≡ rate_at k rows
        either true = rw (ne_eqb (row_key row) k other) rest
        either false = rest

rate_answer : (lows : List ℕ) (k : ℕ) (what : Ask) (rows : List Row) → AsksRate what → answer_by k what (rows_in_range lows k rows) ≡ answer_by k what rows
rate_answer lows k (ask.Set rate) rows asks = ap (λ (r : Option ℕ). Old r) (rate_in_range lows k rows)
rate_answer lows k ask.Del rows asks = ap (λ (r : Option ℕ). Old r) (rate_in_range lows k rows)
rate_answer lows k ask.Look rows asks = ap (λ (r : Option ℕ). Old r) (rate_in_range lows k rows)
rate_answer lows k (ask.List from to limit) rows asks = absurd asks

-- So the whole table answers them as their ranges do.
pub rates_in_range : (lows : List ℕ) (rows : List Row) (parts : List Part) → AllByRecursion IsForRate parts → ranged_answers lows rows parts ≡ answers_in rows parts
rates_in_range lows rows [] rates = refl
rates_in_range lows rows (part ∷ parts) rates =
    ap (λ (a : LeafAnswer). record { part = part; answer = a } ∷ ranged_answers lows (after_part rows part) parts) (rate_answer lows part.key part.ask rows rates.0)
    ∙ ap (λ list. answered rows part ∷ list) (rates_in_range lows (after_part rows part) parts rates.1)
