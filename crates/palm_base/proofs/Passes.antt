-- One pass below the root: what becomes of children in order holds what the edits leave of their rows.
use Rattle.std.proofs.Common.{◌≡◌, ℕ, zero, suc, ◌<◌, ◌≤◌, List, [], ◌∷◌, ◌++◌, length, filter, ap, arith, ◌∙◌}
use Rattle.std.specs.List.{AllByRecursion}
use Rattle.std.proofs.lemmas.Bool.{ltb-true, leb-true}
use Rattle.std.proofs.lemmas.List.{length-append, append-nil}
use Rattle.palm_base.specs.Table.{row_key, after_all}
use Rattle.palm_base.specs.Tree.{Subtree, rows_in}
use Rattle.palm_base.specs.Pass.{Outcome, edit_key, goes_left, goes_right, rows_under, joined, below, pass}
use Rattle.palm_base.specs.Lawful.{RowIsIn, IsIn, Rising, next_low, Sound, InOrder}
use Rattle.palm_base.proofs.Every.{every_weaker, every_append, every_filter}
use Rattle.palm_base.proofs.TableSplits.{Under, From, Adds, all_split}
use Rattle.palm_base.proofs.RisingRows.{rising_range, rising_all, under_range, from_range, put_all, put_all_append, put_all_left, put_all_right}
use Rattle.palm_base.proofs.SoundNodes.{low_of, in_order_proper, in_order_join, rows_join, sound_rises, in_order_rises}
use Rattle.palm_base.proofs.Outcomes.{Holds, KeepsLow, leaf_keeps_low, inner_keeps_low}
use Rattle.palm_base.specs.declared.row.Row.{Row}
use Rattle.palm_base.specs.declared.call.Call.{Call}

-- ---- edits on the two sides of a separator

pub left_edits : (l m h : ℕ) (edits : List Call) → AllByRecursion (Adds (IsIn l h)) edits → AllByRecursion (Adds (IsIn l m)) (filter (goes_left m) edits)
left_edits l m h = every_filter (Adds (IsIn l h)) (Adds (IsIn l m)) (goes_left m) (λ edit adds goes set. ((adds set).0, ltb-true (edit_key edit) m goes))

pub right_edits : (l m h : ℕ) (edits : List Call) → AllByRecursion (Adds (IsIn l h)) edits
    → AllByRecursion (Adds (IsIn m h)) (filter (goes_right m) edits)
right_edits l m h = every_filter (Adds (IsIn l h)) (Adds (IsIn m h)) (goes_right m) (λ edit adds goes set. (leb-true m (edit_key edit) goes, (adds set).1))

-- ---- two outcomes side by side

-- Loose rows put back on their own side of a separator m make the tables of both sides.
put_back_both : (m : ℕ) (kept loose kept_right loose_right table table_right : List Row) → put_all kept loose ≡ table
    → put_all kept_right loose_right ≡ table_right
    → Under m table → Under m loose → From m kept_right → From m loose_right
    → put_all (kept ++ kept_right) (loose ++ loose_right) ≡ table ++ table_right
put_back_both m kept loose kept_right loose_right table table_right left right table_under loose_under kept_from loose_from =
    put_all_append (kept ++ kept_right) loose loose_right
    ∙ ap (λ rows. put_all rows loose_right) (put_all_left m kept kept_right loose kept_from loose_under ∙ ap (λ rows. rows ++ kept_right) left)
    ∙ put_all_right m table kept_right loose_right table_under loose_from
    ∙ ap (λ rows. table ++ rows) right

-- The outcome of children of which the first has the bound as its low: its pieces are in order from their own first low.
record HoldsFrom (n l h : ℕ) (table : List Row) (outcome : Outcome n) : Type 0 where
  holds : Holds n l h table outcome
  own : InOrder n (next_low low_of h outcome.pieces) h outcome.pieces
  least : l ≤ next_low low_of h outcome.pieces
  most : next_low low_of h outcome.pieces ≤ h

joined_holds : (n l m h low : ℕ) (table more : List Row) (left right : Outcome n) → l ≤ m → m ≤ h → Rising l m table
    → KeepsLow n l m low table left → HoldsFrom n m h more right
    → Holds n l h (table ++ more) (joined left right)
joined_holds n l m h low table more left right lm mh rise first rest =
    let later = in_order_rises n (next_low low_of h right.pieces) h right.pieces rest.own in
    let one = first.holds in
    record {
      pieces = in_order_join n l m h left.pieces right.pieces one.pieces rest.own lm rest.least;
      loose = every_append (RowIsIn l h) left.loose right.loose
          (every_weaker (RowIsIn l m) (RowIsIn l h) (λ row inside. (inside.0, omega arith)) left.loose one.loose)
          (every_weaker (RowIsIn m h) (RowIsIn l h) (λ row inside. (omega arith, inside.1)) right.loose rest.holds.loose);
      rows = rw (rows_join n left.pieces right.pieces)
          (put_back_both m (rows_under n left.pieces) left.loose (rows_under n right.pieces) right.loose table more one.rows rest.holds.rows
          (under_range l m table (rising_range l m table rise)) (under_range l m left.loose one.loose)
          (every_weaker (RowIsIn (next_low low_of h right.pieces) h) (λ row. m ≤ row_key row) (λ row inside. let least = rest.least in omega arith)
          (rows_under n right.pieces) (rising_range (next_low low_of h right.pieces) h (rows_under n right.pieces) later))
          (from_range m h right.loose rest.holds.loose));
      count = let left_count = one.count in let right_count = rest.holds.count in rw (rows_join n left.pieces right.pieces) (simp length-append (omega arith));
    }

-- Where the first piece of the first child has the bound as its low, so have the pieces of all.
own_alone : (n l h : ℕ) (pieces : List (ℕ × Subtree n)) → next_low low_of l pieces ≡ l → InOrder n l h pieces → l < h
    → InOrder n (next_low low_of h pieces) h pieces × (l ≤ next_low low_of h pieces) × (next_low low_of h pieces ≤ h)
own_alone n l h [] kept chain lh = (tt, omega arith, omega arith)
own_alone n l h (piece ∷ pieces) kept chain lh = rw kept (chain, omega arith, omega arith)

own_joined : (n l m h : ℕ) (left right : List (ℕ × Subtree n)) → next_low low_of l left ≡ l → InOrder n l h (left ++ right)
    → InOrder n (next_low low_of h right) h right → l ≤ m → m ≤ h
    → m ≤ next_low low_of h right → next_low low_of h right ≤ h
    → InOrder n (next_low low_of h (left ++ right)) h (left ++ right) × (l ≤ next_low low_of h (left ++ right)) × (next_low low_of h (left ++ right) ≤ h)
own_joined n l m h [] right kept chain own lm mh least most = (own, omega arith, most)
own_joined n l m h (piece ∷ pieces) right kept chain own lm mh least most = rw kept (chain, omega arith, omega arith)

-- ---- the pass

-- What becomes of a sound node by edits that put rows in its range holds what they leave of its rows.
abbrev pub PassHolds : ℕ → Type 0
PassHolds n = (l h low : ℕ) (node : Subtree n) (edits : List Call) → Sound n l h node → AllByRecursion (Adds (IsIn l h)) edits
    → KeepsLow n l h low (after_all (rows_in n node) edits) (pass n low node edits)

split_holds : (n : ℕ) → PassHolds n → (l h : ℕ) (child next : ℕ × Subtree n) (children : List (ℕ × Subtree n)) (edits : List Call)
    → InOrder n l h (child ∷ next ∷ children) → AllByRecursion (Adds (IsIn l h)) edits
    → HoldsFrom n next.0 h (after_all (rows_under n (next ∷ children)) (filter (goes_right next.0) edits))
    (below n (pass n) (next ∷ children) (filter (goes_right next.0) edits))
    → Holds n l h (after_all (rows_under n (child ∷ next ∷ children)) edits) (below n (pass n) (child ∷ next ∷ children) edits)
split_holds n law l h child next children edits chain adds rest =
    let m = next.0 in
    let lm : l < m = chain.0.0 in
    let mh : m < h = in_order_proper n m h next children chain.1 in
    let here = filter (goes_left m) edits in
    let there = filter (goes_right m) edits in
    let adds_here = left_edits l m h edits adds in
    let rise = sound_rises n l m child.1 chain.0.1 in
    let rise_right = in_order_rises n m h (next ∷ children) chain.1 in
    let under = under_range l m (rows_in n child.1) (rising_range l m (rows_in n child.1) rise) in
    let from = from_range m h (rows_under n (next ∷ children)) (rising_range m h (rows_under n (next ∷ children)) rise_right) in
    rw (all_split m (rows_in n child.1) (rows_under n (next ∷ children)) edits under from)
    (joined_holds n l m h child.0 (after_all (rows_in n child.1) here) (after_all (rows_under n (next ∷ children)) there)
    (pass n child.0 child.1 here) (below n (pass n) (next ∷ children) there)
    (omega arith) (omega arith) (rising_all l m (rows_in n child.1) here rise adds_here)
    (law l m child.0 child.1 here chain.0.1 adds_here) rest)

below_holds_from : (n : ℕ) → PassHolds n → (h : ℕ) (child : ℕ × Subtree n) (children : List (ℕ × Subtree n)) (edits : List Call)
    → InOrder n child.0 h (child ∷ children) → AllByRecursion (Adds (IsIn child.0 h)) edits
    → HoldsFrom n child.0 h (after_all (rows_under n (child ∷ children)) edits) (below n (pass n) (child ∷ children) edits)
below_holds_from n law h child [] edits chain adds =
    let one = law child.0 h child.0 child.1 edits chain.0.1 adds in
    let own = own_alone n child.0 h (pass n child.0 child.1 edits).pieces one.kept one.holds.pieces chain.0.0 in
    rw append-nil (record { holds = one.holds; own = own.0; least = own.1; most = own.2 })
below_holds_from n law h child (next ∷ children) edits chain adds =
    let m = next.0 in
    let lm : child.0 < m = chain.0.0 in
    let mh = in_order_proper n m h next children chain.1 in
    let here = filter (goes_left m) edits in
    let there = filter (goes_right m) edits in
    let rest = below_holds_from n law h next children there chain.1 (right_edits child.0 m h edits adds) in
    let one = law child.0 m child.0 child.1 here chain.0.1 (left_edits child.0 m h edits adds) in
    let holds = split_holds n law child.0 h child next children edits chain adds rest in
    let own = own_joined n child.0 m h (pass n child.0 child.1 here).pieces (below n (pass n) (next ∷ children) there).pieces
    one.kept holds.pieces rest.own (omega arith) (omega arith) rest.least rest.most in
    record { holds = holds; own = own.0; least = own.1; most = own.2 }

-- The same of children of which the first may have any low, as in a node, where it is written 0.
pub below_holds : (n : ℕ) → PassHolds n → (l h : ℕ) (children : List (ℕ × Subtree n)) (edits : List Call) → InOrder n l h children
    → 0 < length children → AllByRecursion (Adds (IsIn l h)) edits
    → Holds n l h (after_all (rows_under n children) edits) (below n (pass n) children edits)
below_holds n law l h [] edits chain some adds = absurd (omega arith)
below_holds n law l h (child ∷ []) edits chain some adds =
    let one = law l h child.0 child.1 edits chain.0.1 adds in
    rw append-nil one.holds
below_holds n law l h (child ∷ next ∷ children) edits chain some adds =
    split_holds n law l h child next children edits chain adds
    (below_holds_from n law h next children (filter (goes_right next.0) edits) chain.1 (right_edits l next.0 h edits adds))

pub pass_holds : (n : ℕ) → PassHolds n
unfolding pass
pass_holds zero l h low rows edits sound adds = leaf_keeps_low l h low (after_all rows edits) (rising_all l h rows edits sound.1 adds)
pass_holds (suc n) l h low children edits sound adds =
    inner_keeps_low n l h low (after_all (rows_under n children) edits) (below n (pass n) children edits)
    (below_holds n (pass_holds n) l h children edits sound.2 (let sizes = sound.0 in omega arith) adds)
