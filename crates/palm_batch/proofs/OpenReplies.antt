-- A batch of which some look-ups are answered beforehand: the others leave the same table and tree, and their replies fill the rest.
use Rattle.std.proofs.Common.{◌≡◌, ℕ, zero, suc, ◌+◌, ◌*◌, ◌≤◌, true, false, List, [], ◌∷◌, ◌<◌, length, map, drop, get_or, refl, sym, ap, ◌∙◌, arith, subst}
use Rattle.std.specs.Prelude.{max, Option, None, Some}
use Rattle.std.specs.List.{AllZip}
use Rattle.std.proofs.Math.Nat.{mul-le-mul_right}
use Rattle.std.specs.Option.{is_none}
use Rattle.std.proofs.lemmas.Bool.{false≢true}
use Rattle.std.proofs.lemmas.List.Sums.{sum_by-cons}
use Rattle.palm_base.specs.Table.{answer, after}
use Rattle.palm_base.specs.History.{calls_of, table_after, replies_to}
use Rattle.palm_base.specs.Pass.{is_edit, set_of, passed_tree, batch_tree, orphans_of}
use Rattle.palm_base.specs.Tree.{Tree, rows_of, levels_of}
use Rattle.palm_base.specs.declared.row.Row.{Row}
use Rattle.palm_base.specs.declared.call.Call.{Call}
use Rattle.palm_base.specs.declared.call.Call.TheVariants.{Set, Del, Get, Rate, List as Listing}
use Rattle.palm_base.specs.declared.call.Entry.{Entry}
use Rattle.palm_base.specs.declared.call.Reply.{Reply}
use Rattle.palm_look.specs.Unmet.{IsKnown, IsKnownUnlessMet}
use Rattle.palm_route.specs.Counts.{lows_in, part_count, parts_on}
use Rattle.palm_batch.specs.Costs.{cost_of, cost_on, levels_over}
use Rattle.palm_batch.specs.OpenCalls.{open_entries, filled}
use Rattle.palm_batch.specs.Passing.{edits_in}

-- What is known is of look-ups.
abbrev OfLookUp : Option Reply → Entry → Type 0
OfLookUp None entry = Unit {0}
OfLookUp (Some known) entry = is_edit entry.call ≡ false

of_look_ups : (rows : List Row) (batch : List Entry) (all : List (Option Reply)) (entries : List Entry) → AllZip (IsKnownUnlessMet rows batch) all entries → AllZip OfLookUp all entries
of_look_ups rows batch [] [] zip = tt
of_look_ups rows batch [] (entry ∷ entries) zip = absurd zip
of_look_ups rows batch (known ∷ all) [] zip = absurd zip
of_look_ups rows batch (None ∷ all) (entry ∷ entries) zip = (tt, of_look_ups rows batch all entries zip.1)
of_look_ups rows batch (Some known ∷ all) (entry ∷ entries) zip = (zip.0, of_look_ups rows batch all entries zip.1)

look_up_leaves : (rows : List Row) (call : Call) → is_edit call ≡ false → after rows call ≡ rows
look_up_leaves rows (Set prefix rate) not = cc
look_up_leaves rows (Del prefix) not = cc
look_up_leaves rows (Get prefix) not = refl
look_up_leaves rows (Rate number) not = refl
look_up_leaves rows (Listing from to limit) not = refl

-- The replies to the open calls fill those that are known up to all.
filled_up : (rows : List Row) (all : List (Option Reply)) (batch : List Entry) → AllZip OfLookUp all batch → AllZip IsKnown all (replies_to rows batch)
    → filled all (replies_to rows (open_entries all batch)) ≡ replies_to rows batch
filled_up rows [] [] of known = refl
filled_up rows [] (entry ∷ batch) of known = absurd of
filled_up rows (item ∷ all) [] of known = absurd of
filled_up rows (None ∷ all) (entry ∷ batch) of known = ap (λ l. answer rows entry.call ∷ l) (filled_up (after rows entry.call) all batch of.1 known.1)
filled_up rows (Some reply ∷ all) (entry ∷ batch) of known =
    let still : after rows entry.call ≡ rows = look_up_leaves rows entry.call of.0 in
    let rest : AllZip IsKnown all (replies_to rows batch) = subst (λ r. AllZip IsKnown all (replies_to r batch)) still known.1 in
    rw (still, filled_up rows all batch of.1 rest, known.0) refl

table_open : (rows : List Row) (all : List (Option Reply)) (batch : List Entry) → AllZip OfLookUp all batch → table_after rows (open_entries all batch) ≡ table_after rows batch
table_open rows [] [] of = refl
table_open rows [] (entry ∷ batch) of = absurd of
table_open rows (item ∷ all) [] of = absurd of
table_open rows (None ∷ all) (entry ∷ batch) of = table_open (after rows entry.call) all batch of.1
table_open rows (Some reply ∷ all) (entry ∷ batch) of = rw (look_up_leaves rows entry.call of.0) (table_open rows all batch of.1)

pub edits_open : (all : List (Option Reply)) (batch : List Entry) → AllZip OfLookUp all batch → edits_in (open_entries all batch) ≡ edits_in batch
edits_open [] [] of = refl
edits_open [] (entry ∷ batch) of = absurd of
edits_open (item ∷ all) [] of = absurd of
edits_open (None ∷ all) (entry ∷ batch) of = rw (edits_open all batch of.1) refl
edits_open (Some reply ∷ all) (entry ∷ batch) of = rw (of.0) (edits_open all batch of.1)

-- So they leave the tree of the batch,
tree_open : (tree : Tree) (all : List (Option Reply)) (batch : List Entry) → AllZip OfLookUp all batch → batch_tree tree (calls_of (open_entries all batch)) ≡ batch_tree tree (calls_of batch)
tree_open tree all batch of = ap (λ (edits : List Call). passed_tree (passed_tree tree edits) (map set_of (orphans_of tree edits))) (edits_open all batch of)

-- and cost no more.
parts_open : (tree : Tree) (all : List (Option Reply)) (batch : List Entry) → parts_on tree (open_entries all batch) ≤ parts_on tree batch
parts_open tree [] batch = omega arith
parts_open tree (item ∷ all) [] = omega arith
parts_open tree (None ∷ all) (entry ∷ batch) =
    let left = sum_by-cons (λ (e : Entry). part_count (lows_in tree) e.call) entry (open_entries all batch) in
    let right = sum_by-cons (λ (e : Entry). part_count (lows_in tree) e.call) entry batch in
    omega (arith, left, right, parts_open tree all batch)
parts_open tree (Some reply ∷ all) (entry ∷ batch) =
    let right = sum_by-cons (λ (e : Entry). part_count (lows_in tree) e.call) entry batch in
    omega (arith, right, parts_open tree all batch)

cost_open : (tree : Tree) (all : List (Option Reply)) (batch : List Entry) → AllZip OfLookUp all batch → cost_on tree (open_entries all batch) ≤ cost_on tree batch
cost_open tree all batch of =
    let left = open_entries all batch in
    let orphans : length (orphans_of tree (edits_in left)) ≡ length (orphans_of tree (edits_in batch)) = ap (λ (edits : List Call). length (orphans_of tree edits)) (edits_open all batch of) in
    let levels : levels_over tree left ≡ levels_over tree batch = ap (λ (t : Tree). max (levels_of tree) (levels_of t)) (tree_open tree all batch of) in
    let same : cost_on tree left ≡ cost_of (parts_on tree left) (length (orphans_of tree (edits_in batch))) (levels_over tree batch) =
    ap (λ n. cost_of (parts_on tree left) n (levels_over tree left)) orphans ∙ ap (λ n. cost_of (parts_on tree left) (length (orphans_of tree (edits_in batch))) n) levels in
    let less : 2 * (parts_on tree left + length (orphans_of tree (edits_in batch))) ≤ 2 * (parts_on tree batch + length (orphans_of tree (edits_in batch))) =
    omega (arith, parts_open tree all batch) in
    rw same (mul-le-mul_right (levels_over tree batch + 2) less)

-- There are no more of them.
pub few_open : (all : List (Option Reply)) (batch : List Entry) → length (open_entries all batch) ≤ length batch
few_open [] batch = omega arith
few_open (item ∷ all) [] = omega arith
few_open (None ∷ all) (entry ∷ batch) = omega (arith, few_open all batch)
few_open (Some reply ∷ all) (entry ∷ batch) = omega (arith, few_open all batch)

-- What the open calls are to their batch, where its look-ups are known of a tree that is the one of before: they leave the same tree and
-- table, cost no more, and their replies fill the known ones up.
pub record StandFor (now before : Tree) (known : List (Option Reply)) (batch left : List Entry) : Type 0 where
  pub tree : batch_tree now (calls_of left) ≡ batch_tree before (calls_of batch)
  pub rows : table_after (rows_of now) left ≡ table_after (rows_of before) batch
  pub cost : cost_on now left ≤ cost_on before batch
  pub replies : AllZip IsKnown known (replies_to (rows_of now) batch) → filled known (replies_to (rows_of now) left) ≡ replies_to (rows_of before) batch

pub stand_for : {now before : Tree} {known seen : List (Option Reply)} {batch left : List Entry} → now ≡ before → seen ≡ known → left ≡ open_entries seen batch
    → AllZip (IsKnownUnlessMet (rows_of now) batch) known batch → StandFor now before known batch left
stand_for {now} {before} {known} {seen} {batch} {left} same read is unmet =
    let of : AllZip OfLookUp known batch = of_look_ups (rows_of now) batch known batch unmet in
    let all : left ≡ open_entries known batch = is ∙ ap (λ l. open_entries l batch) read in
    record {
      tree = ap (λ (b : List Entry). batch_tree now (calls_of b)) all ∙ tree_open now known batch of ∙ ap (λ (t : Tree). batch_tree t (calls_of batch)) same;
      rows = ap (table_after (rows_of now)) all ∙ table_open (rows_of now) known batch of ∙ ap (λ (t : Tree). table_after (rows_of t) batch) same;
      cost = omega (arith, ap (cost_on now) all, cost_open now known batch of, ap (λ (t : Tree). cost_on t batch) same);
      replies = λ told. ap (λ (b : List Entry). filled known (replies_to (rows_of now) b)) all ∙ filled_up (rows_of now) known batch of told ∙ ap (λ (t : Tree). replies_to (rows_of t) batch) same;
    }

-- ---- one after another

-- One item more of which nothing is known.
pub next_open : (known : List (Option Reply)) (batch : List Entry) (i : ℕ) (item : Option Reply) (entry : Entry) → i < length known → i < length batch → item ≡ get_or known i item → is_none item ≡ true
    → entry ≡ get_or batch i entry → open_entries (drop i known) (drop i batch) ≡ entry ∷ open_entries (drop (suc i) known) (drop (suc i) batch)
next_open [] batch i item entry inside within is none at = absurd (omega arith)
next_open (first ∷ known) [] i item entry inside within is none at = absurd (omega arith)
next_open (None ∷ known) (second ∷ batch) zero item entry inside within is none at = rw at refl
next_open (Some reply ∷ known) (second ∷ batch) zero item entry inside within is none at = absurd (false≢true (sym (ap is_none is) ∙ none))
next_open (first ∷ known) (second ∷ batch) (suc i) item entry inside within is none at = next_open known batch i item entry (omega arith) (omega arith) is none at

-- One item more that is known.
pub next_known : (known : List (Option Reply)) (batch : List Entry) (i : ℕ) (item : Option Reply) → i < length known → i < length batch → item ≡ get_or known i item → is_none item ≡ false
    → open_entries (drop i known) (drop i batch) ≡ open_entries (drop (suc i) known) (drop (suc i) batch)
next_known [] batch i item inside within is some = absurd (omega arith)
next_known (first ∷ known) [] i item inside within is some = absurd (omega arith)
next_known (None ∷ known) (second ∷ batch) zero item inside within is some = absurd (false≢true (sym some ∙ ap is_none is))
next_known (Some reply ∷ known) (second ∷ batch) zero item inside within is some = refl
next_known (first ∷ known) (second ∷ batch) (suc i) item inside within is some = next_known known batch i item (omega arith) (omega arith) is some
