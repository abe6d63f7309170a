-- What a map that owns a lawful tree reads as, and that it is whole where it has nothing else.
use Rattle.std.proofs.Common.{◌≡◌, ◌≢◌, ℕ, zero, suc, ◌≤◌, true, false, List, [], ◌∷◌, ◌++◌, length, map, Option, Some, None, IsSome, refl, sym, ap, subst, ◌∙◌, arith, append_assoc, ◌⊎◌, inl, inr}
use Rattle.std.specs.List.{flat_map, AllByRecursion, Contains, IsDistinct}
use Rattle.std.proofs.lemmas.Bool.Decides.{eqb_tells}
use Rattle.std.proofs.lemmas.List.{append-nil}
use mathlib.Core.List.{map-append}
use Rattle.palm_base.specs.Tree.{Subtree, Tree}
use Rattle.palm_base.specs.Lawful.{next_low, Sound, InOrder, Root, IsLawful}
use Rattle.palm_base.proofs.Pieces.{every_split}
use Rattle.palm_node.specs.declared.id.NodeId.{NodeId}
use Rattle.palm_node.specs.declared.node.Node.{Node}
use Rattle.palm_arena.specs.declared.shape.Shape.{Shape}
use Rattle.palm_arena.specs.Reads.{same_place, children_at, leaf_in, inner_in, children_in, child_ids, reads, ReadsAs, ids_under, ids_of, IsWhole}
use Rattle.palm_arena.specs.Cells.{Cell, Found, Nothing, One, Several, both, found, found_if, found_at, Owns}
use Rattle.palm_arena.specs.Placed.{Body, Placed, PlacedTree, value_in, value_of, values, cells_of, cells_under, ids_of_children}
use Rattle.palm_arena.specs.Routes.{separators_of}
use Rattle.palm_arena.proofs.Keeping.{same_id}
use Rattle.palm_arena.proofs.Natural.{length-map'}
use Rattle.palm_arena.proofs.ListParts.{all_flat}
use Rattle.palm_arena.proofs.CellLists.{owned_front, owned_same, same_swap}
use Rattle.palm_arena.proofs.PlacedTrees.{Holds, ids_in, placed_at, distinct_owned}

-- Each of the cells that a map owns is in it.
owned_after : (nodes : NodeId → Option Node) (before cells : List Cell) → Owns nodes (before ++ cells) → Holds nodes cells
owned_after nodes before [] owned = tt
owned_after nodes before (cell ∷ cells) owned = (
  (owned_front nodes cell.0 cell.1 (cells ++ before) (owned_same nodes (before ++ (cell ∷ cells)) ((cell ∷ cells) ++ before) owned (same_swap before (cell ∷ cells)))).0,
  owned_after nodes (before ++ cell ∷ []) cells (subst (Owns nodes) (sym (append_assoc before (cell ∷ []) cells)) owned),
)

pub owned_holds : (nodes : NodeId → Option Node) (cells : List Cell) → Owns nodes cells → Holds nodes cells
owned_holds nodes cells owned = owned_after nodes [] cells owned

-- And so is each of the first ones.
pub first_holds : (nodes : NodeId → Option Node) (cells others : List Cell) → Owns nodes (cells ++ others) → Holds nodes cells
first_holds nodes cells others owned = (every_split (λ cell. nodes cell.0 ≡ Some cell.1) cells others (owned_holds nodes (cells ++ others) owned)).0

-- ---- what it reads as

-- In each inner node there is a child, and the low of the first is written 0.
abbrev pub FirstsAreZero : (n : ℕ) → Body n → Type 0
FirstsAreZero zero rows = Unit {0}
FirstsAreZero (suc n) children = (1 ≤ length children) × (next_low (λ child. child.0) 0 children ≡ 0) × AllByRecursion (λ child. FirstsAreZero n child.1.1) children

zero_lows : {B : Type 0} (children : List (ℕ × (NodeId × B))) → 1 ≤ length children → next_low (λ child. child.0) 0 children ≡ 0 → 0 ∷ separators_of children ≡ map (λ child. child.0) children
zero_lows [] some first = absurd (omega arith)
zero_lows (child ∷ children) some first = ap (λ low. low ∷ map (λ child. child.0) children) (sym first)

children_read : (n : ℕ) (nodes : NodeId → Option Node) → ((placed : Placed n) → Holds nodes (cells_of n placed) → FirstsAreZero n placed.1 → reads nodes n placed.0 ≡ Some (value_in n placed.1))
    → (children : List (ℕ × Placed n)) → AllByRecursion (λ child. Holds nodes (cells_of n child.1)) children → AllByRecursion (λ child. FirstsAreZero n child.1.1) children
    → children_at (reads nodes n) (map (λ child. child.0) children) (ids_of_children children) ≡ Some (values n children)
children_read n nodes ih [] held zeros = refl
children_read n nodes ih (child ∷ children) held zeros = rw (ih child.1 held.0 zeros.0, children_read n nodes ih children held.1 zeros.1)

pub held_reads : (n : ℕ) (nodes : NodeId → Option Node) (placed : Placed n) → Holds nodes (cells_of n placed) → FirstsAreZero n placed.1 → reads nodes n placed.0 ≡ Some (value_in n placed.1)
held_reads zero nodes placed held zeros = ap leaf_in held.0
held_reads (suc n) nodes placed held zeros =
    ap (λ (at : Option Node). children_in (reads nodes n) (inner_in at)) held.0 ∙ ap (λ lows. children_at (reads nodes n) lows (ids_of_children placed.1)) (zero_lows placed.1 zeros.0 zeros.1)
    ∙ children_read n nodes (held_reads n nodes) placed.1 (all_flat (λ cell. nodes cell.0 ≡ Some cell.1) (λ child. cells_of n child.1) placed.1 held.1) zeros.2

pub first_value : (n : ℕ) (children : List (ℕ × Placed n)) → next_low (λ child. child.0) 0 (values n children) ≡ next_low (λ child. child.0) 0 children
first_value n [] = refl
first_value n (child ∷ children) = refl

pub values_length : (n : ℕ) (children : List (ℕ × Placed n)) → length (values n children) ≡ length children
values_length n children = length-map' {B = ℕ × Subtree n} (λ (child : ℕ × Placed n). (child.0, value_in n child.1.1)) children

children_zero : (n : ℕ) → ((low high : ℕ) (body : Body n) → Sound n low high (value_in n body) → FirstsAreZero n body) → (low high : ℕ) (children : List (ℕ × Placed n)) → InOrder n low high (values n children) → AllByRecursion (λ child. FirstsAreZero n child.1.1) children
children_zero n ih low high [] order = tt
children_zero n ih low high (child ∷ []) order = (ih low high child.1.1 order.0.1, tt)
children_zero n ih low high (child ∷ next ∷ children) order = (ih low next.0 child.1.1 order.0.1, children_zero n ih next.0 high (next ∷ children) order.1)

sound_zero : (n low high : ℕ) (body : Body n) → Sound n low high (value_in n body) → FirstsAreZero n body
sound_zero zero low high body sound = tt
sound_zero (suc n) low high body sound = (omega (arith, sound.0.0, values_length n body), sym (first_value n body) ∙ sound.1, children_zero n (sound_zero n) low high body sound.2)

root_zero : (n high : ℕ) (body : Body n) → Root n high (value_in n body) → FirstsAreZero n body
root_zero zero high body root = tt
root_zero (suc n) high body root = (omega (arith, root.0.0, values_length n body), sym (first_value n body) ∙ root.1, children_zero n (sound_zero n) 0 high body root.2)

-- ---- the ids

ids_children : (n : ℕ) (nodes : NodeId → Option Node) → ((placed : Placed n) → Holds nodes (cells_of n placed) → ids_under nodes n placed.0 ≡ ids_in (cells_of n placed))
    → (children : List (ℕ × Placed n)) → AllByRecursion (λ child. Holds nodes (cells_of n child.1)) children → flat_map (ids_under nodes n) (ids_of_children children) ≡ ids_in (cells_under n children)
ids_children n nodes ih [] held = refl
ids_children n nodes ih (child ∷ children) held =
    ap (λ ids. ids ++ flat_map (ids_under nodes n) (ids_of_children children)) (ih child.1 held.0) ∙ ap (λ ids. ids_in (cells_of n child.1) ++ ids) (ids_children n nodes ih children held.1)
    ∙ sym (map-append (λ (cell : Cell). cell.0) (cells_of n child.1) (cells_under n children))

pub held_ids : (n : ℕ) (nodes : NodeId → Option Node) (placed : Placed n) → Holds nodes (cells_of n placed) → ids_under nodes n placed.0 ≡ ids_in (cells_of n placed)
held_ids zero nodes placed held = refl
held_ids (suc n) nodes placed held =
    ap (λ ids. placed.0 ∷ ids)
    (ap (λ (at : Option Node). flat_map (ids_under nodes n) (child_ids (inner_in at))) held.0
    ∙ ids_children n nodes (held_ids n nodes) placed.1 (all_flat (λ cell. nodes cell.0 ≡ Some cell.1) (λ child. cells_of n child.1) placed.1 held.1))

-- ---- each id once

NoneTwice : List Cell → Type 0
NoneTwice cells = (id : NodeId) → found_at id cells ≢ Several

owned_once : (nodes : NodeId → Option Node) (cells : List Cell) → Owns nodes cells → NoneTwice cells
unfolding NoneTwice
owned_once nodes cells owned id several = by (nodes id) (sym several ∙ owned id)
  where
    by : (at : Option Node) → Several ≡ found at → ⊥
    by None e = cc
    by (Some node) e = cc

both_several : (left right : Found) → right ≡ Several → both left right ≡ Several
both_several Nothing right e = e
both_several (One node) right e = rw e refl
both_several Several right e = refl

nothing_right : (node : Node) (right : Found) → both (One node) right ≢ Several → right ≡ Nothing
nothing_right node Nothing n = refl
nothing_right node (One other) n = absurd (n refl)
nothing_right node Several n = absurd (n refl)

both_nothing : (left right : Found) → both left right ≡ Nothing → (left ≡ Nothing) × (right ≡ Nothing)
both_nothing Nothing right e = (refl, e)
both_nothing (One node) Nothing e = absurd cc
both_nothing (One node) (One other) e = absurd cc
both_nothing (One node) Several e = absurd cc
both_nothing Several right e = absurd cc

apart_all : (id : NodeId) (cells : List Cell) → found_at id cells ≡ Nothing → AllByRecursion (λ other. same_place id other ≡ false) (ids_in cells)
apart_all id [] none = tt
apart_all id (cell ∷ cells) none =
    let parts = both_nothing (found_if (same_place cell.0 id) cell.1) (found_at id cells) none in
    (by (eqb_tells id.place cell.0.place) parts.0, apart_all id cells parts.1)
  where
    by : ((same_place id cell.0 ≡ true) × (id.place ≡ cell.0.place)) ⊎ ((same_place id cell.0 ≡ false) × (id.place ≢ cell.0.place)) → found_if (same_place cell.0 id) cell.1 ≡ Nothing → same_place id cell.0 ≡ false
    by (inl same) none =
        let own : cell.0 ≡ id = sym (same_id id cell.0 same.1) in
        let t : same_place cell.0 id ≡ true = subst (λ k. same_place k id ≡ true) (sym own) (subst (λ k. same_place id k ≡ true) own same.0) in
        absurd (let e : One cell.1 ≡ Nothing = ap (λ b. found_if b cell.1) (sym t) ∙ none in cc)
    by (inr apart) none = apart.0

own_found : (cell : Cell) (cells : List Cell) → found_at cell.0 (cell ∷ cells) ≡ both (One cell.1) (found_at cell.0 cells)
own_found cell cells = elim (eqb_tells cell.0.place cell.0.place) [
  | inl same ↦ rw same.0 refl
  | inr apart ↦ absurd (apart.1 refl)
]

once_distinct : (cells : List Cell) → NoneTwice cells → IsDistinct same_place (ids_in cells)
unfolding NoneTwice IsDistinct
once_distinct [] once = tt
once_distinct (cell ∷ cells) once = (
  apart_all cell.0 cells (nothing_right cell.1 (found_at cell.0 cells) (λ e. once cell.0 (own_found cell cells ∙ e))),
  once_distinct cells (λ id several. once id (both_several (found_if (same_place cell.0 id) cell.1) (found_at id cells) several)),
)

-- ---- each live id is met

pub contains_later : (x id : NodeId) (xs : List NodeId) → Contains xs id → Contains (x ∷ xs) id
contains_later x id xs (i, inside, at) = (suc i, omega arith, at)

found_contained : (cells : List Cell) (id : NodeId) → found_at id cells ≢ Nothing → Contains (ids_in cells) id
found_contained [] id some = absurd (some refl)
found_contained (cell ∷ cells) id some = by (eqb_tells cell.0.place id.place) (found_contained cells id)
  where
    by : ((same_place cell.0 id ≡ true) × (cell.0.place ≡ id.place)) ⊎ ((same_place cell.0 id ≡ false) × (cell.0.place ≢ id.place)) → (found_at id cells ≢ Nothing → Contains (ids_in cells) id) → Contains (ids_in (cell ∷ cells)) id
    by (inl same) ih = (0, omega arith, same_id cell.0 id same.1)
    by (inr apart) ih = contains_later cell.0 id (ids_in cells) (ih (λ none. some (rw apart.0 none)))

live_found : (nodes : NodeId → Option Node) (cells : List Cell) (id : NodeId) → Owns nodes cells → IsSome (nodes id) → found_at id cells ≢ Nothing
live_found nodes cells id owned some none = by (nodes id) some (sym none ∙ owned id)
  where
    by : (at : Option Node) → IsSome at → Nothing ≡ found at → ⊥
    by None some e = absurd cc
    by (Some node) some e = cc

-- ---- a whole tree

-- A lawful tree that a map owns reads as its value.
pub owned_reads : (nodes : NodeId → Option Node) (tree : PlacedTree) (others : List Cell) (shape : Shape) → IsLawful (value_of tree) → shape.root ≡ tree.1.0 → shape.levels ≡ suc tree.0 → Owns nodes (cells_of tree.0 tree.1 ++ others) → ReadsAs nodes shape (value_of tree)
owned_reads nodes tree others shape lawful root levels owned =
    let held = first_holds nodes (cells_of tree.0 tree.1) others owned in
    (levels, ap (reads nodes tree.0) root ∙ held_reads tree.0 nodes tree.1 held (root_zero tree.0 lawful.0 tree.1.1 lawful.1))

-- And where the map has nothing else, it is whole.
pub owned_whole : (nodes : NodeId → Option Node) (tree : PlacedTree) (shape : Shape) → IsLawful (value_of tree) → shape.root ≡ tree.1.0 → shape.levels ≡ suc tree.0 → Owns nodes (cells_of tree.0 tree.1 ++ []) → IsWhole nodes shape
owned_whole nodes tree shape lawful root levels owned =
    let cells = cells_of tree.0 tree.1 in
    let own : Owns nodes cells = subst (Owns nodes) (append-nil cells) owned in
    let ids : ids_of nodes shape ≡ ids_in cells =
    ap (λ n. ids_under nodes n shape.root) (omega (arith, levels)) ∙ ap (ids_under nodes tree.0) root ∙ held_ids tree.0 nodes tree.1 (owned_holds nodes cells own) in
    record {
      tree = (value_of tree, owned_reads nodes tree [] shape lawful root levels owned);
      once = subst (IsDistinct same_place) (sym ids) (once_distinct cells (owned_once nodes cells own));
      met = λ id some. subst (λ is. Contains is id) (sym ids) (found_contained cells id (live_found nodes cells id own some));
    }

-- A whole map owns the tree that it reads as, and nothing else.
pub record OwnsTree (nodes : NodeId → Option Node) (shape : Shape) (tree : Tree) : Type 0 where
  pub placed : PlacedTree
  pub value-is : value_of placed ≡ tree
  pub root : shape.root ≡ placed.1.0
  pub levels : shape.levels ≡ suc placed.0
  pub owned : Owns nodes (cells_of placed.0 placed.1 ++ [])

pub whole_owns : (nodes : NodeId → Option Node) (shape : Shape) (tree : Tree) → ReadsAs nodes shape tree → IsWhole nodes shape → OwnsTree nodes shape tree
whole_owns nodes shape (n, value) read whole =
    let at = placed_at nodes n shape.root value read.1 in
    let ids : ids_of nodes shape ≡ ids_in (cells_of n (shape.root, at.body)) = ap (λ k. ids_under nodes k shape.root) (omega (arith, read.0)) ∙ sym at.ids in
    record {
      placed = (n, (shape.root, at.body));
      value-is = ap (λ (v : Subtree n). let t : Tree = (n, v) in t) at.value-is;
      root = refl;
      levels = read.0;
      owned = subst (Owns nodes) (sym (append-nil (cells_of n (shape.root, at.body))))
          (distinct_owned nodes (cells_of n (shape.root, at.body)) at.held (subst (IsDistinct same_place) ids whole.once) (λ id some. subst (λ is. Contains is id) ids (whole.met id some)));
    }
