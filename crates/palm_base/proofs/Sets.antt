-- A pass of Sets alone leaves nothing loose, since no node gets smaller.
use Rattle.std.proofs.Common.{◌≡◌, ℕ, zero, suc, ◌<◌, ◌≤◌, Bool, true, List, [], ◌∷◌, length, map, filter, refl, ap, arith, inl, inr}
use Rattle.std.specs.List.{flat_map, AllByRecursion}
use Rattle.std.proofs.lemmas.Bool.{cases_order}
use Rattle.std.proofs.lemmas.List.{length-append}
use Rattle.palm_base.specs.Table.{row_key, put, after, after_all}
use Rattle.palm_base.specs.Cut.{cut}
use Rattle.palm_base.specs.Tree.{Subtree}
use Rattle.palm_base.specs.Pass.{set_of, goes_left, goes_right, with_lows, node_over, below, pass, base_pass}
use Rattle.palm_base.specs.Lawful.{Sound, InOrder, Root}
use Rattle.palm_base.specs.declared.bounds.TheConstants.{LEAST_LEAF_ROWS, MOST_LEAF_ROWS, LEAST_CHILDREN, MOST_CHILDREN}
use Rattle.palm_base.proofs.Every.{every_filter}
use Rattle.palm_base.proofs.Tables.{Order, put_before, put_at, put_past}
use Rattle.palm_base.proofs.TableSplits.{is_set}
use Rattle.palm_base.proofs.Cuts.{pieces_join}
use Rattle.palm_base.proofs.CutParts.{large}
use Rattle.palm_base.proofs.SoundNodes.{low_of}
use Rattle.palm_base.specs.declared.row.Row.{Row}
use Rattle.palm_base.specs.declared.call.Call.{Call}
use Rattle.palm_base.specs.declared.call.Call.TheVariants.{Set, Del, Get, Rate, List as Listing}

abbrev pub IsSet : Call → Type 0
IsSet call = is_set call ≡ true

pub sets_are : (rows : List Row) → AllByRecursion IsSet (map set_of rows)
sets_are [] = tt
sets_are (row ∷ rows) = (refl, sets_are rows)

-- ---- rows and pieces get no fewer

pub put_grows : (new : Row) (rows : List Row) → length rows ≤ length (put new rows)
put_grows new [] = omega arith
put_grows new (row ∷ rows) = by (put_grows new rows) (cases_order (row_key new) (row_key row))
  where
    by : length rows ≤ length (put new rows) → Order new row → length (row ∷ rows) ≤ length (put new (row ∷ rows))
    by rest (inl e) = rw (put_at new row rows e) (omega arith)
    by rest (inr (inl l)) = rw (put_before new row rows l) (omega arith)
    by rest (inr (inr g)) = rw (put_past new row rows g) (omega arith)

set_grows : (rows : List Row) (call : Call) → IsSet call → length rows ≤ length (after rows call)
set_grows rows (Set prefix rate) set = put_grows (record { prefix = prefix; rate = rate }) rows
set_grows rows (Del prefix) set = cc
set_grows rows (Get prefix) set = cc
set_grows rows (Rate number) set = cc
set_grows rows (Listing from to limit) set = cc

sets_grow : (rows : List Row) (calls : List Call) → AllByRecursion IsSet calls → length rows ≤ length (after_all rows calls)
sets_grow rows [] sets = omega arith
sets_grow rows (call ∷ calls) sets =
    let one = set_grows rows call sets.0 in
    let rest = sets_grow (after rows call) calls sets.1 in
    omega arith

pub some_pieces : {X Y : Type 0} (width : ℕ) (low : X → ℕ) (node : List X → Y) (first : ℕ) (items : List X) → 0 < width → 0 < length items
    → 0 < length (with_lows low node first (cut width items))
some_pieces width low node first items wide some = by (cut width items) (pieces_join width items wide)
  where
    by : (parts : List (List _)) → flat_map (λ part. part) parts ≡ items → 0 < length (with_lows low node first parts)
    by [] join = let none = ap length join in absurd (omega arith)
    by (part ∷ parts) join = omega arith

-- ---- the pass

-- Sets leave of a sound node some pieces, and nothing loose.
abbrev SetsHold : ℕ → Type 0
SetsHold n = (l h low : ℕ) (node : Subtree n) (edits : List Call) → Sound n l h node → AllByRecursion IsSet edits
    → ((pass n low node edits).loose ≡ []) × (0 < length (pass n low node edits).pieces)

filter_sets : (test : Call → Bool) (edits : List Call) → AllByRecursion IsSet edits → AllByRecursion IsSet (filter test edits)
filter_sets test = every_filter IsSet IsSet test (λ edit set passes. set)

pub below_sets : (n : ℕ) → SetsHold n → (l h : ℕ) (children : List (ℕ × Subtree n)) (edits : List Call) → InOrder n l h children
    → AllByRecursion IsSet edits
    → ((below n (pass n) children edits).loose ≡ []) × (length children ≤ length (below n (pass n) children edits).pieces)
below_sets n law l h [] edits chain sets = (refl, omega arith)
below_sets n law l h (child ∷ []) edits chain sets = let one = law l h child.0 child.1 edits chain.0.1 sets in (one.0, omega arith)
below_sets n law l h (child ∷ next ∷ children) edits chain sets =
    let one = law l next.0 child.0 child.1 (filter (goes_left next.0) edits) chain.0.1 (filter_sets (goes_left next.0) edits sets) in
    let rest = below_sets n law next.0 h (next ∷ children) (filter (goes_right next.0) edits) chain.1 (filter_sets (goes_right next.0) edits sets) in
    (rw (one.0, rest.0), rw length-append (omega arith))

pub pass_sets : (n : ℕ) → SetsHold n
unfolding pass
pass_sets zero l h low rows edits sound sets =
    let more = sets_grow rows edits sets in
    let least : LEAST_LEAF_ROWS ≤ length (after_all rows edits) = omega arith in
    let some = some_pieces MOST_LEAF_ROWS row_key (λ part. part) low (after_all rows edits) (omega arith) (omega arith) in
    rw (large LEAST_LEAF_ROWS (after_all rows edits) least) (refl, some)
pass_sets (suc n) l h low children edits sound sets =
    let under = below_sets n (pass_sets n) l h children edits sound.2 sets in
    let left = (below n (pass n) children edits).pieces in
    let least : LEAST_CHILDREN ≤ length left = let sizes = sound.0 in omega arith in
    rw (large LEAST_CHILDREN left least) (under.0, some_pieces MOST_CHILDREN low_of node_over low left (omega arith) (omega arith))

pub base_sets : (n h : ℕ) (node : Subtree n) (edits : List Call) → Root n h node → AllByRecursion IsSet edits → (base_pass n node edits).loose ≡ []
base_sets zero h rows edits root sets = refl
base_sets (suc n) h children edits root sets = (below_sets n (pass_sets n) 0 h children edits root.2 sets).0
