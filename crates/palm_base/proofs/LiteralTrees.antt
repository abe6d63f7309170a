-- A tree is lawful exactly where it is so literally.
use Rattle.std.proofs.Common.{◌≡◌, ℕ, zero, suc, ◌<◌, ◌≤◌, List, [], ◌∷◌, ◌++◌, length, refl, arith}
use Rattle.std.specs.List.{AllByRecursion}
use Rattle.std.proofs.lemmas.List.{append-nil, length-append}
use Rattle.palm_base.specs.Table.{row_key, IsTable}
use Rattle.palm_base.specs.Tree.{Subtree, Tree, rows_in, rows_of}
use Rattle.palm_base.specs.Pass.{rows_under}
use Rattle.palm_base.specs.Lawful.{RowIsIn, Rising, Sound, next_low, InOrder, Root, IsLawful}
use Rattle.palm_base.specs.Literal.{LowsRise, RowsArePlaced, AreSeparated, IsNode, IsRoot, IsLawfulLiterally}
use Rattle.palm_base.specs.FurtherLaws.{LawIsLiteral}
use Rattle.palm_base.proofs.Every.{every_weaker, every_append}
use Rattle.palm_base.proofs.TableSplits.{Under, From}
use Rattle.palm_base.proofs.RisingRows.{rising_head, rising_rest, rising_cons, rising_range, under_range}
use Rattle.palm_base.proofs.RisingTables.{rising_is_table, key_bound, table_rises}
use Rattle.palm_base.proofs.SoundNodes.{sound_rises, in_order_rises}
use Rattle.palm_base.specs.declared.row.Row.{Row}

-- ---- from the literal form

-- Rising rows apart at a key between them.
rising_parts : (l m h : ℕ) (left right : List Row) → Rising l h (left ++ right) → l ≤ m → Under m left → From m right
    → Rising l m left × Rising m h right
rising_parts l m h [] [] rise lm under from = (tt, tt)
rising_parts l m h [] (row ∷ right) rise lm under from =
    let inside = rising_head l h row right rise in
    (tt, rising_cons m h row right (from.0, inside.1) (rising_rest l h row right rise))
rising_parts l m h (row ∷ left) right rise lm under from =
    let inside = rising_head l h row (left ++ right) rise in
    let parts = rising_parts (suc (row_key row)) m h left right (rising_rest l h row (left ++ right) rise) under.0 under.1 from in
    (rising_cons l m row left (inside.0, under.0) parts.0, parts.1)

has_rows : (n : ℕ) (node : Subtree n) → IsNode n node → 0 < length (rows_in n node)
has_rows zero rows filled = omega arith
has_rows (suc n) [] filled = absurd (omega arith)
has_rows (suc n) (child ∷ children) filled =
    let first = has_rows n child.1 filled.2.0 in
    simp length-append (omega arith)

-- The rows under children lie from the first one's low on.
rows_from : (n m : ℕ) (child : ℕ × Subtree n) (children : List (ℕ × Subtree n)) → LowsRise (child ∷ children)
    → RowsArePlaced n (child ∷ children) → m ≤ child.0 → From m (rows_under n (child ∷ children))
rows_from n m child [] lows placed least =
    rw append-nil (every_weaker (λ row. child.0 ≤ row_key row) (λ row. m ≤ row_key row) (λ row from. omega arith) (rows_in n child.1) placed.0)
rows_from n m child (next ∷ children) lows placed least =
    every_append (λ row. m ≤ row_key row) (rows_in n child.1) (rows_under n (next ∷ children))
    (every_weaker (λ row. child.0 ≤ row_key row) (λ row. m ≤ row_key row) (λ row from. omega arith) (rows_in n child.1) placed.0)
    (rows_from n m next children lows.1 placed.2 (let more = lows.0.0 in omega arith))

-- Where there are rows, and they lie below m, the bound before them does.
bound_below : (l h m : ℕ) (left right : List Row) → Rising l h (left ++ right) → 0 < length left → Under m left → l < m
bound_below l h m [] right rise some under = absurd (omega arith)
bound_below l h m (row ∷ left) right rise some under = let inside = rising_head l h row (left ++ right) rise in omega arith

children_in_order : (n : ℕ) → ((l h : ℕ) (node : Subtree n) → IsNode n node → Rising l h (rows_in n node) → Sound n l h node)
    → (l h : ℕ) (children : List (ℕ × Subtree n)) → LowsRise children → RowsArePlaced n children
    → AllByRecursion (λ child. IsNode n child.1) children → Rising l h (rows_under n children)
    → InOrder n l h children
children_in_order n sound l h [] lows placed nodes rise = tt
children_in_order n sound l h (child ∷ []) lows placed nodes rise =
    let own : Rising l h (rows_in n child.1) = rw append-nil at rise in
    let proper =
    bound_below l h h (rows_in n child.1) [] rise (has_rows n child.1 nodes.0)
    (under_range l h (rows_in n child.1) (rising_range l h (rows_in n child.1) own)) in
    ((proper, sound l h child.1 nodes.0 own), tt)
children_in_order n sound l h (child ∷ next ∷ children) lows placed nodes rise =
    let proper = bound_below l h next.0 (rows_in n child.1) (rows_under n (next ∷ children)) rise (has_rows n child.1 nodes.0) placed.1 in
    let parts =
    rising_parts l next.0 h (rows_in n child.1) (rows_under n (next ∷ children)) rise (omega arith) placed.1
    (rows_from n next.0 next children lows.1 placed.2 (omega arith)) in
    ((proper, sound l next.0 child.1 nodes.0 parts.0), children_in_order n sound next.0 h (next ∷ children) lows.1 placed.2 nodes.1 parts.1)

first_is_next : (n : ℕ) (children : List (ℕ × Subtree n)) → AreSeparated n children → next_low (λ child. child.0) 0 children ≡ 0
first_is_next n [] separated = refl
first_is_next n (child ∷ children) separated = separated.first

node_sound : (n l h : ℕ) (node : Subtree n) → IsNode n node → Rising l h (rows_in n node) → Sound n l h node
node_sound zero l h rows filled rise = (filled, rise)
node_sound (suc n) l h children node rise =
    (node.0, first_is_next n children node.1, children_in_order n (node_sound n) l h children node.1.lows node.1.rows node.2 rise)

root_from : (n h : ℕ) (node : Subtree n) → IsRoot n node → Rising 0 h (rows_in n node) → Root n h node
root_from zero h rows few rise = (few, rise)
root_from (suc n) h children root rise =
    (root.0, first_is_next n children root.1, children_in_order n (node_sound n) 0 h children root.1.lows root.1.rows root.2 rise)

-- ---- to the literal form

rows_placed : (n l h : ℕ) (child : ℕ × Subtree n) (children : List (ℕ × Subtree n)) → InOrder n l h (child ∷ children)
    → child.0 ≤ l → RowsArePlaced n (child ∷ children)
rows_placed n l h child [] chain least =
    let inside = rising_range l h (rows_in n child.1) (sound_rises n l h child.1 chain.0.1) in (
      every_weaker (RowIsIn l h) (λ row. child.0 ≤ row_key row) (λ row lies. let from = lies.0 in omega arith) (rows_in n child.1) inside,
      every_weaker (RowIsIn l h) (λ row. Unit {0}) (λ row lies. tt) (rows_in n child.1) inside,
      tt,
    )
rows_placed n l h child (next ∷ children) chain least =
    let inside = rising_range l next.0 (rows_in n child.1) (sound_rises n l next.0 child.1 chain.0.1) in (
      every_weaker (RowIsIn l next.0) (λ row. child.0 ≤ row_key row) (λ row lies. let from = lies.0 in omega arith) (rows_in n child.1) inside,
      under_range l next.0 (rows_in n child.1) inside,
      rows_placed n next.0 h next children chain.1 (omega arith),
    )

lows_above : (n h k : ℕ) (child : ℕ × Subtree n) (children : List (ℕ × Subtree n)) → InOrder n child.0 h (child ∷ children)
    → k < child.0 → AllByRecursion (λ later. k < later.0) (child ∷ children)
lows_above n h k child [] chain less = (less, tt)
lows_above n h k child (next ∷ children) chain less = (less, lows_above n h k next children chain.1 (let more = chain.0.0 in omega arith))

lows_rise : (n l h : ℕ) (child : ℕ × Subtree n) (children : List (ℕ × Subtree n)) → InOrder n l h (child ∷ children) → child.0 ≤ l
    → LowsRise (child ∷ children)
lows_rise n l h child [] chain least = (tt, tt)
lows_rise n l h child (next ∷ children) chain least =
    (lows_above n h child.0 next children chain.1 (let more = chain.0.0 in omega arith), lows_rise n next.0 h next children chain.1 (omega arith))

separated : (n l h : ℕ) (children : List (ℕ × Subtree n)) → next_low (λ child. child.0) 0 children ≡ 0 → InOrder n l h children
    → AreSeparated n children
separated n l h [] first chain = record { first = refl; lows = tt; rows = tt }
separated n l h (child ∷ children) first chain = record {
  first = first;
  lows = lows_rise n l h child children chain (let zero_low = first in omega arith);
  rows = rows_placed n l h child children chain (let zero_low = first in omega arith);
}

each_node : (n : ℕ) → ((l h : ℕ) (node : Subtree n) → Sound n l h node → IsNode n node)
    → (l h : ℕ) (children : List (ℕ × Subtree n)) → InOrder n l h children
    → AllByRecursion (λ child. IsNode n child.1) children
each_node n node l h [] chain = tt
each_node n node l h (child ∷ children) chain = (node l _ child.1 chain.0.1, each_node n node _ h children chain.1)

sound_node : (n l h : ℕ) (node : Subtree n) → Sound n l h node → IsNode n node
sound_node zero l h rows sound = sound.0
sound_node (suc n) l h children sound = (sound.0, separated n l h children sound.1 sound.2, each_node n (sound_node n) l h children sound.2)

pub root_to : (n h : ℕ) (node : Subtree n) → Root n h node → IsRoot n node × Rising 0 h (rows_in n node)
root_to zero h rows root = root
root_to (suc n) h children root =
    ((root.0, separated n 0 h children root.1 root.2, each_node n (sound_node n) 0 h children root.2), in_order_rises n 0 h children root.2)

-- The rows of a lawful tree are a table.
pub lawful_table : (tree : Tree) → IsLawful tree → IsTable (rows_of tree)
lawful_table tree lawful = rising_is_table 0 lawful.0 (rows_of tree) (root_to tree.0 lawful.0 tree.1 lawful.1).1

pub law_is_literal : LawIsLiteral
law_is_literal tree = (to, from)
  where
    to : IsLawful tree → IsLawfulLiterally tree
    to lawful = record { rows = lawful_table tree lawful; nodes = (root_to tree.0 lawful.0 tree.1 lawful.1).0 }

    from : IsLawfulLiterally tree → IsLawful tree
    from lawful = (key_bound (rows_of tree), root_from tree.0 (key_bound (rows_of tree)) tree.1 lawful.nodes (table_rises (rows_of tree) lawful.rows))
