-- Sound nodes and children in order: wider, joined, made of the parts of a cut, and the rows under them.
use Rattle.std.proofs.Common.{◌≡◌, ℕ, zero, suc, ◌<◌, ◌≤◌, List, [], ◌∷◌, ◌++◌, length, map, refl, sym, ap, arith, ◌∙◌}
use Rattle.std.specs.List.{flat_map, AllByRecursion}
use Rattle.std.proofs.lemmas.List.{append-nil, length-map}
use Rattle.std.proofs.lemmas.List.Concat.{flat_map-append}
use Rattle.palm_base.specs.Table.{row_key}
use Rattle.palm_base.specs.Tree.{Subtree, rows_in}
use Rattle.palm_base.specs.Pass.{rows_under, first_low, with_lows, node_over}
use Rattle.palm_base.specs.Lawful.{RowIsIn, Rising, next_low, HasFromTo, Sound, InOrder}
use Rattle.palm_base.specs.declared.bounds.TheConstants.{LEAST_LEAF_ROWS, MOST_LEAF_ROWS, LEAST_CHILDREN, MOST_CHILDREN}
use Rattle.palm_base.proofs.Chains.{chain_wider, chain_proper, chain_join, chain_with_lows}
use Rattle.palm_base.proofs.RisingRows.{row_wider, row_proper, rising_wider, rising_join}
use Rattle.palm_base.specs.declared.row.Row.{Row}

-- ---- chains of children

abbrev pub low_of : {X : Type 0} → ℕ × X → ℕ
low_of child = child.0

-- The child lies between the bounds, of which the first is the smaller.
abbrev pub Child : (n : ℕ) → ℕ → ℕ → ℕ × Subtree n → Type 0
Child n l h child = (l < h) × Sound n l h child.1

pub sound_wider : (n l h l' h' : ℕ) (node : Subtree n) → Sound n l h node → l' ≤ l → h ≤ h' → Sound n l' h' node
sound_wider zero l h l' h' rows sound left right = (sound.0, rising_wider l h l' h' rows sound.1 left right)
sound_wider (suc n) l h l' h' children sound left right = (
  sound.0,
  sound.1,
  chain_wider low_of (Child n)
      (λ l h l' h' child lies left right. (omega arith, sound_wider n l h l' h' child.1 lies.1 left right)) (λ l h child lies. lies.0)
      l h l' h' children sound.2 left right,
)

child_wider : (n l h l' h' : ℕ) (child : ℕ × Subtree n) → Child n l h child → l' ≤ l → h ≤ h' → Child n l' h' child
child_wider n l h l' h' child lies left right = (omega arith, sound_wider n l h l' h' child.1 lies.1 left right)

child_proper : (n l h : ℕ) (child : ℕ × Subtree n) → Child n l h child → l < h
child_proper n l h child lies = lies.0

pub in_order_wider : (n l h l' h' : ℕ) (children : List (ℕ × Subtree n)) → InOrder n l h children → l' ≤ l → h ≤ h' → InOrder n l' h' children
in_order_wider n = chain_wider low_of (Child n) (child_wider n) (child_proper n)

pub in_order_proper : (n l h : ℕ) (child : ℕ × Subtree n) (children : List (ℕ × Subtree n)) → InOrder n l h (child ∷ children) → l < h
in_order_proper n = chain_proper low_of (Child n) (child_wider n) (child_proper n)

pub in_order_join : (n l m h : ℕ) (left right : List (ℕ × Subtree n)) → InOrder n l m left → InOrder n (next_low low_of h right) h right
    → l ≤ m → m ≤ next_low low_of h right
    → InOrder n l h (left ++ right)
in_order_join n = chain_join low_of (Child n) (child_wider n) (child_proper n)

-- ---- nodes over the parts of a cut

-- Parts of rising rows are leaves in order.
pub leaves_in_order : (first l h : ℕ) (parts : List (List Row)) → AllByRecursion (HasFromTo LEAST_LEAF_ROWS MOST_LEAF_ROWS) parts
    → Rising l h (flat_map (λ part. part) parts)
    → InOrder zero l h (with_lows row_key (λ part. part) first parts)
leaves_in_order =
    chain_with_lows row_key RowIsIn row_wider row_proper (λ part. part) (Sound zero) LEAST_LEAF_ROWS MOST_LEAF_ROWS (omega arith)
    (λ l h part sizes rise. (sizes, rise))

node_sound : (n l h : ℕ) (part : List (ℕ × Subtree n)) → HasFromTo LEAST_CHILDREN MOST_CHILDREN part → InOrder n l h part
    → Sound (suc n) l h (node_over part)
node_sound n l h [] sizes chain = absurd (omega arith)
node_sound n l h (child ∷ children) sizes chain = (sizes, refl, chain)

-- Parts of children in order are inner nodes in order.
pub nodes_in_order : (n first l h : ℕ) (parts : List (List (ℕ × Subtree n))) → AllByRecursion (HasFromTo LEAST_CHILDREN MOST_CHILDREN) parts
    → InOrder n l h (flat_map (λ part. part) parts)
    → InOrder (suc n) l h (with_lows low_of node_over first parts)
nodes_in_order n =
    chain_with_lows low_of (Child n) (child_wider n) (child_proper n) node_over (Sound (suc n)) LEAST_CHILDREN MOST_CHILDREN (omega arith) (node_sound n)

pub first_has_low : {X Y : Type 0} (low : X → ℕ) (node : List X → Y) (first : ℕ) (parts : List (List X))
    → next_low low_of first (with_lows low node first parts) ≡ first
first_has_low low node first [] = refl
first_has_low low node first (part ∷ parts) = refl

pub length_with_lows : {X Y : Type 0} (low : X → ℕ) (node : List X → Y) (first : ℕ) (parts : List (List X))
    → length (with_lows low node first parts) ≡ length parts
length_with_lows low node first [] = refl
length_with_lows low node first (part ∷ parts) = ap suc (length-map parts _)

pub node_over_same : (n : ℕ) (children : List (ℕ × Subtree n)) → next_low low_of 0 children ≡ 0 → node_over children ≡ children
node_over_same n [] first = refl
node_over_same n (child ∷ children) first = ap (λ low. (low, child.1) ∷ children) (sym first)

-- ---- the rows under nodes

later_rows : {X Y : Type 0} (low : X → ℕ) (node : List X → Y) (rows : Y → List Row) (parts : List (List X))
    → flat_map (λ (child : ℕ × Y). rows child.1) (map (λ part. (first_low low part, node part)) parts) ≡ flat_map (λ part. rows (node part)) parts
later_rows low node rows [] = refl
later_rows low node rows (part ∷ parts) = ap (λ later. rows (node part) ++ later) (later_rows low node rows parts)

rows_with_lows : {X Y : Type 0} (low : X → ℕ) (node : List X → Y) (rows : Y → List Row) (first : ℕ) (parts : List (List X))
    → flat_map (λ (child : ℕ × Y). rows child.1) (with_lows low node first parts) ≡ flat_map (λ part. rows (node part)) parts
rows_with_lows low node rows first [] = refl
rows_with_lows low node rows first (part ∷ parts) = ap (λ later. rows (node part) ++ later) (later_rows low node rows parts)

pub rows_of_leaves : (first : ℕ) (parts : List (List Row))
    → rows_under zero (with_lows row_key (λ part. part) first parts) ≡ flat_map (λ part. part) parts
rows_of_leaves = rows_with_lows row_key (λ part. part) (λ rows. rows)

rows_of_node : (n : ℕ) (part : List (ℕ × Subtree n)) → rows_in (suc n) (node_over part) ≡ rows_under n part
rows_of_node n [] = refl
rows_of_node n (child ∷ children) = refl

rows_of_parts : (n : ℕ) (parts : List (List (ℕ × Subtree n)))
    → flat_map (λ part. rows_in (suc n) (node_over part)) parts ≡ rows_under n (flat_map (λ part. part) parts)
rows_of_parts n [] = refl
rows_of_parts n (part ∷ parts) =
    rw (rows_of_node n part, rows_of_parts n parts) (sym (flat_map-append (λ (child : ℕ × Subtree n). rows_in n child.1) part (flat_map (λ part. part) parts)))

pub rows_of_nodes : (n first : ℕ) (parts : List (List (ℕ × Subtree n)))
    → rows_under (suc n) (with_lows low_of node_over first parts) ≡ rows_under n (flat_map (λ part. part) parts)
rows_of_nodes n first parts = rows_with_lows low_of node_over (rows_in (suc n)) first parts ∙ rows_of_parts n parts

pub rows_join : (n : ℕ) (left right : List (ℕ × Subtree n)) → rows_under n (left ++ right) ≡ rows_under n left ++ rows_under n right
rows_join n = flat_map-append (λ (child : ℕ × Subtree n). rows_in n child.1)

children_rise : (n : ℕ) → ((l h : ℕ) (node : Subtree n) → Sound n l h node → Rising l h (rows_in n node))
    → (l h : ℕ) (children : List (ℕ × Subtree n)) → InOrder n l h children → Rising l h (rows_under n children)
children_rise n rise l h [] chain = tt
children_rise n rise l h (child ∷ []) chain = rw append-nil (rise l h child.1 chain.0.1)
children_rise n rise l h (child ∷ next ∷ children) chain =
    let proper = in_order_proper n next.0 h next children chain.1 in
    rising_join l next.0 h (rows_in n child.1) (rows_under n (next ∷ children)) (rise l next.0 child.1 chain.0.1)
    (children_rise n rise next.0 h (next ∷ children) chain.1) (omega arith) (omega arith)

-- The rows of a sound node rise.
pub sound_rises : (n l h : ℕ) (node : Subtree n) → Sound n l h node → Rising l h (rows_in n node)
sound_rises zero l h rows sound = sound.1
sound_rises (suc n) l h children sound = children_rise n (sound_rises n) l h children sound.2

-- And so do those under children in order.
pub in_order_rises : (n l h : ℕ) (children : List (ℕ × Subtree n)) → InOrder n l h children → Rising l h (rows_under n children)
in_order_rises n = children_rise n (sound_rises n)
