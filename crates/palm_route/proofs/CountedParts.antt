-- The parts of a batch are as many as the tree's value says, since the leaves' ranges begin where it says.
use Rattle.std.proofs.Common.{◌≡◌, ℕ, zero, suc, ◌+◌, ◌-◌, List, [], ◌∷◌, ◌++◌, length, map, Option, Some, refl, sym, ap, arith, ◌∙◌, length-append}
use Rattle.std.specs.Prelude.{sum_by, take}
use Rattle.std.specs.List.{flat_map, range_with_len}
use Rattle.std.proofs.lemmas.List.FromFn.{length-map-range_with_len}
use Rattle.std.proofs.lemmas.List.Sums.{sum_by-cons}
use mathlib.Core.List.{map-append}
use Rattle.palm_base.specs.Key.{key}
use Rattle.palm_base.specs.Tree.{Subtree, Tree}
use Rattle.palm_base.specs.declared.call.Call.{Call}
use Rattle.palm_base.specs.declared.call.Call.TheVariants.{Set, Del, Get, Rate, List as Listing}
use Rattle.palm_base.specs.declared.call.Entry.{Entry}
use Rattle.palm_node.specs.declared.id.NodeId.{NodeId}
use Rattle.palm_node.specs.declared.node.Node.{Node}
use Rattle.palm_arena.specs.Leaves.{LeafPlace, leaves_of_children, leaves_under, leaves_at}
use Rattle.palm_arena.specs.Reads.{reads, ReadsAs}
use Rattle.palm_arena.specs.Routes.{separators_of}
use Rattle.palm_arena.specs.declared.shape.Shape.{Shape}
use Rattle.palm_arena.proofs.Readings.{inner_reads}
use Rattle.palm_route.specs.Counts.{lows_of_children, lows_under, lows_in, part_count}
use Rattle.palm_route.specs.Laws.{PartsAreCounted}
use Rattle.palm_route.specs.Parts.{lows_of, list_keys, parts_by_keys, parts_of_call, parts_of}
use Rattle.palm_route.specs.declared.part.Ask.{Ask}
use Rattle.palm_route.specs.declared.part.Ask.TheVariants as ask
use Rattle.palm_route.proofs.LeavesUnder.{AreRead, are_read, leaves_are}

-- ---- where the leaves' ranges begin

-- The leaves under any node of this level begin where the node's value says.
abbrev AllBegin : (NodeId → Option Node) → ℕ → Type 0
AllBegin nodes n =
    (path : List (NodeId × ℕ)) (low : ℕ) (id : NodeId) (node : Subtree n) → reads nodes n id ≡ Some node
    → lows_of (leaves_under nodes n path low id) ≡ lows_under n low node

lows_join : (left right : List LeafPlace) (before after : List ℕ) → lows_of left ≡ before → lows_of right ≡ after → lows_of (left ++ right) ≡ before ++ after
lows_join left right before after l r =
    map-append (λ (place : LeafPlace). place.low) left right ∙ ap (λ lows. lows ++ lows_of right) l ∙ ap (λ lows. before ++ lows) r

later_begin : (nodes : NodeId → Option Node) (n : ℕ) → AllBegin nodes n → (path : List (NodeId × ℕ)) (id : NodeId) (i : ℕ) (ids : List NodeId) (children : List (ℕ × Subtree n))
    → AreRead (reads nodes n) ids children
    → lows_of (leaves_of_children (leaves_under nodes n) path id i (map (λ c. c.0) children) ids) ≡ flat_map (λ (later : ℕ × Subtree n). lows_under n later.0 later.1) children
later_begin nodes n all path id i [] [] read = refl
later_begin nodes n all path id i [] (child ∷ children) read = absurd read
later_begin nodes n all path id i (own ∷ ids) [] read = absurd read
later_begin nodes n all path id i (own ∷ ids) (child ∷ children) read =
    lows_join (leaves_under nodes n (path ++ (id, i) ∷ []) child.0 own) (leaves_of_children (leaves_under nodes n) path id (suc i) (map (λ c. c.0) children) ids)
    (lows_under n child.0 child.1) (flat_map (λ (later : ℕ × Subtree n). lows_under n later.0 later.1) children)
    (all (path ++ (id, i) ∷ []) child.0 own child.1 read.0) (later_begin nodes n all path id (suc i) ids children read.1)

children_begin : (nodes : NodeId → Option Node) (n : ℕ) → AllBegin nodes n → (path : List (NodeId × ℕ)) (id : NodeId) (low : ℕ) (ids : List NodeId) (children : List (ℕ × Subtree n))
    → AreRead (reads nodes n) ids children
    → lows_of (leaves_of_children (leaves_under nodes n) path id 0 (low ∷ separators_of children) ids) ≡ lows_of_children (lows_under n) low children
children_begin nodes n all path id low [] [] read = refl
children_begin nodes n all path id low [] (child ∷ children) read = absurd read
children_begin nodes n all path id low (own ∷ ids) [] read = absurd read
children_begin nodes n all path id low (own ∷ ids) (child ∷ children) read =
    lows_join (leaves_under nodes n (path ++ (id, 0) ∷ []) low own) (leaves_of_children (leaves_under nodes n) path id 1 (map (λ c. c.0) children) ids)
    (lows_under n low child.1) (flat_map (λ (later : ℕ × Subtree n). lows_under n later.0 later.1) children)
    (all (path ++ (id, 0) ∷ []) low own child.1 read.0) (later_begin nodes n all path id 1 ids children read.1)

all_begin : (nodes : NodeId → Option Node) (n : ℕ) → AllBegin nodes n
all_begin nodes zero path low id rows e = refl
all_begin nodes (suc n) path low id node e =
    let known = inner_reads nodes n id node e in
    let over = known.2 in
    rw (leaves_are nodes n path low id known.0 known.1, over.separators)
    (children_begin nodes n (all_begin nodes n) path id low known.0.children node (are_read (reads nodes n) known.0.children node over.count over.each))

leaves_begin : (nodes : NodeId → Option Node) (shape : Shape) (tree : Tree) → ReadsAs nodes shape tree → lows_of (leaves_at nodes shape) ≡ lows_in tree
leaves_begin nodes shape tree is =
    let below : shape.levels - 1 ≡ tree.0 = omega (arith, is.0) in
    ap (λ n. lows_of (leaves_under nodes n [] 0 shape.root)) below ∙ all_begin nodes tree.0 [] 0 shape.root tree.1 is.1

-- ---- how many parts there are

one_for_each_key : (entry number : ℕ) (what : Ask) (keys : List ℕ) → length (parts_by_keys entry number what keys) ≡ length keys
one_for_each_key entry number what [] = refl
one_for_each_key entry number what (k ∷ keys) = ap suc (one_for_each_key entry (suc number) what keys)

call_counted : (places : List LeafPlace) (entry : ℕ) (call : Call) → length (parts_of_call places entry call) ≡ part_count (lows_of places) call
call_counted places entry (Set prefix rate) = refl
call_counted places entry (Del prefix) = refl
call_counted places entry (Get prefix) = refl
call_counted places entry (Rate number) =
    one_for_each_key entry 0 ask.Look (map (λ n. key (take n number)) (range_with_len 1 (length number))) ∙ length-map-range_with_len (λ n. key (take n number)) 1 (length number)
call_counted places entry (Listing from to limit) = one_for_each_key entry 0 (ask.List from to limit) (list_keys (key from) (key to) (lows_of places))

all_counted : (places : List LeafPlace) (first : ℕ) (batch : List Entry) → length (parts_of places first batch) ≡ sum_by (λ entry. part_count (lows_of places) entry.call) batch
all_counted places first [] = refl
all_counted places first (entry ∷ batch) =
    length-append (parts_of_call places first entry.call) (parts_of places (suc first) batch)
    ∙ ap (λ n. n + length (parts_of places (suc first) batch)) (call_counted places first entry.call)
    ∙ ap (λ n. part_count (lows_of places) entry.call + n) (all_counted places (suc first) batch)
    ∙ sym (sum_by-cons (λ (entry : Entry). part_count (lows_of places) entry.call) entry batch)

pub parts_are_counted : PartsAreCounted
parts_are_counted nodes shape tree first batch is =
    all_counted (leaves_at nodes shape) first batch
    ∙ ap (λ lows. sum_by (λ (entry : Entry). part_count lows entry.call) batch) (leaves_begin nodes shape tree is)
