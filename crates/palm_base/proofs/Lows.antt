-- Batches keep lows keys: each low that a pass makes is one that its node had, or the key of a row.
use Rattle.std.proofs.Common.{ℕ, zero, suc, Bool, true, false, cond, nat_le, List, [], ◌∷◌, ◌++◌, length, map, take, drop, filter, refl, arith}
use Rattle.std.specs.List.{flat_map, AllByRecursion}
use Rattle.std.proofs.lemmas.List.{take-append-drop}
use Rattle.palm_base.specs.Prefix.{IsPrefix}
use Rattle.palm_base.specs.Key.{IsKey}
use Rattle.palm_base.specs.Table.{row_key, after_all}
use Rattle.palm_base.specs.Cut.{cut}
use Rattle.palm_base.specs.Tree.{Subtree, Tree, rows_in}
use Rattle.palm_base.specs.Pass.{is_edit, goes_left, goes_right, set_of, rows_under, first_low, with_lows, node_over, leaves_of, nodes_over, Outcome, joined, is_small, below, leaf_outcome, inner_outcome, pass, top, top_in, base_level, base_pass, orphans_of, passed_tree, batch_tree}
use Rattle.palm_base.specs.History.{calls_of}
use Rattle.palm_base.specs.Lows.{PrefixesHold, SetsPrefix, EachLowIsKey, LowsAreKeysIn, LowsAreKeys}
use Rattle.palm_base.specs.FurtherLaws.{BatchesKeepLows, CuttingsKeepLows}
use Rattle.palm_base.proofs.Keys.{is_key}
use Rattle.palm_base.proofs.Cuts.{pieces_join}
use Rattle.palm_base.proofs.Pieces.{every_split, every_part, HasSome, pieces_have_some}
use Rattle.palm_base.proofs.PrefixRows.{prefixes_all, sets_prefixes, some_calls}
use Rattle.palm_base.proofs.Every.{every_append}
use Rattle.palm_base.specs.declared.bounds.TheConstants.{LEAST_LEAF_ROWS, MOST_LEAF_ROWS, LEAST_CHILDREN, MOST_CHILDREN}
use Rattle.palm_base.specs.declared.row.Row.{Row}
use Rattle.palm_base.specs.declared.call.Call.{Call}
use Rattle.palm_base.specs.declared.call.Entry.{Entry}

-- ---- nodes made of parts

abbrev Under : (n : ℕ) → List (ℕ × Subtree n) → Type 0
Under n = AllByRecursion (λ child. LowsAreKeysIn n child.1)

-- The pieces of a node with the low `low`, and its loose rows: lows but the first are keys, and the first too where `low` is.
record Fair (n low : ℕ) (left : Outcome n) : Type 0 where
  later : EachLowIsKey (drop 1 left.pieces)
  each : IsKey low → EachLowIsKey left.pieces
  under : Under n left.pieces
  loose : PrefixesHold left.loose

later_lows : {X Y : Type 0} (P : X → Type 0) (low : X → ℕ) (node : List X → Y) → ((x : X) → P x → IsKey (low x))
    → (parts : List (List X)) → AllByRecursion HasSome parts → AllByRecursion (AllByRecursion P) parts
    → EachLowIsKey (map (λ later. (first_low low later, node later)) parts)
later_lows P low node gives [] some all = tt
later_lows P low node gives ([] ∷ parts) some all = absurd (omega (arith, some.0))
later_lows P low node gives ((x ∷ xs) ∷ parts) some all = (gives x all.0.0, later_lows P low node gives parts some.1 all.1)

rows_under_keys : (n : ℕ) → ((node : Subtree n) → LowsAreKeysIn n node → PrefixesHold (rows_in n node))
    → (children : List (ℕ × Subtree n)) → Under n children → PrefixesHold (rows_under n children)
rows_under_keys n of_child [] under = tt
rows_under_keys n of_child (child ∷ children) under =
    every_append (λ row. IsPrefix row.prefix) (rows_in n child.1) (rows_under n children) (of_child child.1 under.0)
    (rows_under_keys n of_child children under.1)

-- Where lows are keys, each row goes by a prefix.
pub prefixes_in : (n : ℕ) (node : Subtree n) → LowsAreKeysIn n node → PrefixesHold (rows_in n node)
prefixes_in zero rows all = all
prefixes_in (suc n) children all = rows_under_keys n (prefixes_in n) children all.1

leaves_fair : (low : ℕ) (rows : List Row) → PrefixesHold rows → Fair zero low (record { pieces = leaves_of low rows; loose = [] })
leaves_fair low rows all =
    by (cut MOST_LEAF_ROWS rows) (pieces_have_some LEAST_LEAF_ROWS rows (omega arith))
    (every_part (λ row. IsPrefix row.prefix) (cut MOST_LEAF_ROWS rows) (rw (pieces_join MOST_LEAF_ROWS rows (omega arith)) all))
  where
    leaves : (parts : List (List Row)) → AllByRecursion PrefixesHold parts → Under zero (map (λ later. (first_low row_key later, later)) parts)
    leaves [] all = tt
    leaves (part ∷ parts) all = (all.0, leaves parts all.1)

    by : (parts : List (List Row)) → AllByRecursion HasSome parts → AllByRecursion PrefixesHold parts
        → Fair zero low (record { pieces = with_lows row_key (λ part. part) low parts; loose = [] })
    by [] some all = record { later = tt; each = λ own. tt; under = tt; loose = tt }
    by (part ∷ parts) some all =
        let lows =
        later_lows (λ row. IsPrefix row.prefix) row_key (λ part. part) (λ row own. is_key (row_key row) row.prefix own refl) parts some.1 all.1 in
        record { later = lows; each = λ own. (own, lows); under = (all.0, leaves parts all.1); loose = tt }

-- The node over children is fair, whatever the low of the first was.
node_over_keys : (n : ℕ) (children : List (ℕ × Subtree n)) → EachLowIsKey (drop 1 children) → Under n children
    → LowsAreKeysIn (suc n) (node_over children)
node_over_keys n [] later under = (tt, tt)
node_over_keys n (child ∷ children) later under = (later, (under.0, under.1))

nodes_fair : (n low : ℕ) (children : List (ℕ × Subtree n)) (loose : List Row) → EachLowIsKey (drop 1 children) → Under n children → PrefixesHold loose
    → Fair (suc n) low (record { pieces = nodes_over low children; loose = loose })
nodes_fair n low children loose later under held =
    by (cut MOST_CHILDREN children) (pieces_have_some LEAST_CHILDREN children (omega arith))
    (rw (pieces_join MOST_CHILDREN children (omega arith)) later)
    (every_part (λ child. LowsAreKeysIn n child.1) (cut MOST_CHILDREN children) (rw (pieces_join MOST_CHILDREN children (omega arith)) under))
  where
    all_later : (xs : List (ℕ × Subtree n)) → EachLowIsKey xs → EachLowIsKey (drop 1 xs)
    all_later [] each = tt
    all_later (x ∷ xs) each = each.1

    nodes : (parts : List (List (ℕ × Subtree n))) → AllByRecursion EachLowIsKey parts → AllByRecursion (Under n) parts
        → Under (suc n) (map (λ later. (first_low (λ child. child.0) later, node_over later)) parts)
    nodes [] each under = tt
    nodes (part ∷ parts) each under = (node_over_keys n part (all_later part each.0) under.0, nodes parts each.1 under.1)

    by : (parts : List (List (ℕ × Subtree n))) → AllByRecursion HasSome parts
        → EachLowIsKey (drop 1 (flat_map (λ part. part) parts)) → AllByRecursion (Under n) parts
        → Fair (suc n) low (record { pieces = with_lows (λ child. child.0) node_over low parts; loose = loose })
    by [] some later under = record { later = tt; each = λ own. tt; under = tt; loose = held }
    by ([] ∷ parts) some later under = absurd (omega (arith, some.0))
    by ((child ∷ children) ∷ parts) some later under =
        let both = every_split (λ child. IsKey child.0) children (flat_map (λ part. part) parts) later in
        let each = every_part (λ child. IsKey child.0) parts both.1 in
        let lows = later_lows (λ child. IsKey child.0) (λ child. child.0) node_over (λ child own. own) parts some.1 each in
        record {
          later = lows;
          each = λ own. (own, lows);
          under = (node_over_keys n (child ∷ children) both.0 under.0, nodes parts each under.1);
          loose = held;
        }

-- ---- the pass

leaf_fair : (low : ℕ) (rows : List Row) → PrefixesHold rows → Fair zero low (leaf_outcome low rows)
leaf_fair low rows all = by (is_small LEAST_LEAF_ROWS rows)
  where
    by : (small : Bool) → Fair zero low (cond small (record { pieces = []; loose = rows }) (record { pieces = leaves_of low rows; loose = [] }))
    by true = record { later = tt; each = λ own. tt; under = tt; loose = all }
    by false = leaves_fair low rows all

inner_fair : (n low first : ℕ) (left : Outcome n) → Fair n first left → Fair (suc n) low (inner_outcome n low left)
inner_fair n low first left fair = by (is_small LEAST_CHILDREN left.pieces)
  where
    by : (small : Bool)
        → Fair (suc n) low (cond small (record { pieces = []; loose = rows_under n left.pieces ++ left.loose }) (record { pieces = nodes_over low left.pieces; loose = left.loose }))
    by true = record {
      later = tt;
      each = λ own. tt;
      under = tt;
      loose = every_append (λ row. IsPrefix row.prefix) (rows_under n left.pieces) left.loose (rows_under_keys n (prefixes_in n) left.pieces fair.under) fair.loose;
    }
    by false = nodes_fair n low left.pieces left.loose fair.later fair.under fair.loose

-- Two outcomes side by side, where the second's low is a key.
joined_fair : (n low next : ℕ) (left right : Outcome n) → IsKey next → Fair n low left → Fair n next right → Fair n low (joined left right)
joined_fair n low next left right key_next fair more = record {
  later = by left.pieces fair.later;
  each = λ own. every_append (λ child. IsKey child.0) left.pieces right.pieces (fair.each own) (more.each key_next);
  under = every_append (λ child. LowsAreKeysIn n child.1) left.pieces right.pieces fair.under more.under;
  loose = every_append (λ row. IsPrefix row.prefix) left.loose right.loose fair.loose more.loose;
}
  where
    by : (pieces : List (ℕ × Subtree n)) → EachLowIsKey (drop 1 pieces) → EachLowIsKey (drop 1 (pieces ++ right.pieces))
    by [] later = more.later
    by (piece ∷ pieces) later = every_append (λ child. IsKey child.0) pieces right.pieces later (more.each key_next)

abbrev FairPass : ℕ → Type 0
FairPass n =
    (low : ℕ) (node : Subtree n) (edits : List Call) → LowsAreKeysIn n node → AllByRecursion SetsPrefix edits → Fair n low (pass n low node edits)

below_fair : (n : ℕ) → FairPass n → (children : List (ℕ × Subtree n)) (edits : List Call) → EachLowIsKey (drop 1 children)
    → Under n children → AllByRecursion SetsPrefix edits
    → Fair n (first_low (λ child. child.0) children) (below n (pass n) children edits)
below_fair n law [] edits later under sets = record { later = tt; each = λ own. tt; under = tt; loose = tt }
below_fair n law (child ∷ []) edits later under sets = law child.0 child.1 edits under.0 sets
below_fair n law (child ∷ next ∷ children) edits later under sets =
    joined_fair n child.0 next.0 _ _ later.0
    (law child.0 child.1 (filter (goes_left next.0) edits) under.0 (some_calls (goes_left next.0) edits sets))
    (below_fair n law (next ∷ children) (filter (goes_right next.0) edits) later.1 under.1 (some_calls (goes_right next.0) edits sets))

pass_fair : (n : ℕ) → FairPass n
unfolding pass
pass_fair zero low rows edits all sets = leaf_fair low (after_all rows edits) (prefixes_all rows edits all sets)
pass_fair (suc n) low children edits all sets =
    inner_fair n low (first_low (λ child. child.0) children) (below n (pass n) children edits)
    (below_fair n (pass_fair n) children edits all.0 all.1 sets)

-- ---- the root

abbrev base_low : (n : ℕ) → Subtree n → ℕ
base_low zero rows = 0
base_low (suc n) children = first_low (λ child. child.0) children

base_fair : (n : ℕ) (node : Subtree n) (edits : List Call) → LowsAreKeysIn n node → AllByRecursion SetsPrefix edits
    → Fair (base_level n) (base_low n node) (base_pass n node edits)
base_fair zero rows edits all sets = leaves_fair 0 (after_all rows edits) (prefixes_all rows edits all sets)
base_fair (suc n) children edits all sets = below_fair n (pass_fair n) children edits all.0 all.1 sets

top_in_keys : (levels n : ℕ) (pieces : List (ℕ × Subtree n)) → EachLowIsKey (drop 1 pieces) → Under n pieces → LowsAreKeys (top_in levels n pieces)
unfolding top_in
top_in_keys levels n [] later under = tt
top_in_keys levels n (piece ∷ []) later under = under.0
top_in_keys zero n (piece ∷ next ∷ more) later under = node_over_keys n (piece ∷ next ∷ more) later under
top_in_keys (suc levels) n (piece ∷ next ∷ more) later under =
    let nodes = nodes_fair n 0 (piece ∷ next ∷ more) [] later under tt in
    by (nat_le (length (piece ∷ next ∷ more)) MOST_CHILDREN) _
    (top_in_keys levels (suc n) (nodes_over 0 (piece ∷ next ∷ more)) nodes.later nodes.under)
  where
    by : (few : Bool) (higher : Tree) → LowsAreKeys higher → LowsAreKeys (cond few (suc n, node_over (piece ∷ next ∷ more)) higher)
    by true higher keys = node_over_keys n (piece ∷ next ∷ more) later under
    by false higher keys = keys

pub passed_keys : (tree : Tree) (edits : List Call) → LowsAreKeys tree → AllByRecursion SetsPrefix edits → LowsAreKeys (passed_tree tree edits)
unfolding top
passed_keys tree edits keys sets =
    let fair = base_fair tree.0 tree.1 edits keys sets in
    top_in_keys _ (base_level tree.0) (base_pass tree.0 tree.1 edits).pieces fair.later fair.under

pub batches_keep_lows : BatchesKeepLows
batches_keep_lows tree calls keys sets =
    let edits = filter is_edit calls in
    let own = some_calls is_edit calls sets in
    let fair = base_fair tree.0 tree.1 edits keys own in
    let orphans =
    prefixes_all [] (map set_of (base_pass tree.0 tree.1 edits).loose) tt (sets_prefixes (base_pass tree.0 tree.1 edits).loose fair.loose) in
    passed_keys (passed_tree tree edits) (map set_of (orphans_of tree edits)) (passed_keys tree edits keys own)
    (sets_prefixes (orphans_of tree edits) orphans)

calls_prefix : (entries : List Entry) → AllByRecursion (λ entry. SetsPrefix entry.call) entries → AllByRecursion SetsPrefix (calls_of entries)
calls_prefix [] sets = tt
calls_prefix (entry ∷ entries) sets = (sets.0, calls_prefix entries sets.1)

pub cuttings_keep_lows : CuttingsKeepLows
cuttings_keep_lows tree entries [] keys sets = keys
cuttings_keep_lows tree entries (n ∷ lengths) keys sets =
    let both = every_split (λ entry. SetsPrefix entry.call) (take n entries) (drop n entries) (rw take-append-drop sets) in
    let batch = calls_of (take n entries) in
    cuttings_keep_lows (batch_tree tree batch) (drop n entries) lengths
    (batches_keep_lows tree batch keys (calls_prefix (take n entries) both.0)) both.1
