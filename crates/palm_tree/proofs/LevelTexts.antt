-- A tree's text level by level: what its ids give is its shape's.
use Rattle.std.proofs.Common.{◌≡◌, ℕ, zero, suc, ◌+◌, ◌-◌, ◌<◌, ◌≤◌, List, [], ◌∷◌, ◌++◌, length, get_or, map, drop, Option, Some, refl, sym, ap, subst, arith, append_assoc, ◌∙◌}
use Rattle.std.specs.List.{flat_map, AllByRecursion}
use Rattle.std.proofs.lemmas.List.{append-nil}
use Rattle.palm_base.specs.Key.{IsKey}
use Rattle.palm_base.specs.Tree.{Subtree, Tree, levels_of}
use Rattle.palm_base.specs.Lows.{EachLowIsKey, LowsAreKeysIn}
use Rattle.palm_base.specs.Shape.{leaf_line, separator_text, inner_line, level_lines}
use Rattle.palm_node.specs.InnerNode.{InnerNode}
use Rattle.palm_node.specs.declared.id.NodeId.{NodeId}
use Rattle.palm_node.specs.declared.node.Node.{Node}
use Rattle.palm_arena.specs.Reads.{reads, inner_in, child_ids}
use Rattle.palm_base.proofs.Appended.{append_next}
use Rattle.palm_base.proofs.Every.{every_append}
use Rattle.palm_tree.specs.Walk.{inner_text, node_text, nodes_text, ids_below, levels_text, IsPrintable, ArePrintable}
use Rattle.palm_arena.proofs.Readings.{ReadsOver, inner_reads, leaf_reads}

-- ---- one level

text_from : (nodes : NodeId → Option Node) (ids : List NodeId) (n m : ℕ) → n ≡ suc m → levels_text nodes n ids ≡ nodes_text nodes ids ++ levels_text nodes m (ids_below nodes ids)
text_from nodes ids n m e = ap (λ (k : ℕ). levels_text nodes k ids) e

printable_from : (nodes : NodeId → Option Node) (ids : List NodeId) (n m : ℕ) → n ≡ suc m → ArePrintable nodes n ids → ArePrintable nodes (suc m) ids
printable_from nodes ids n m e p = subst (λ (k : ℕ). ArePrintable nodes k ids) e p

-- Below the levels that are written there are one fewer.
pub level_text : (nodes : NodeId → Option Node) (ids : List NodeId) (levels level : ℕ) → level < levels
    → levels_text nodes (levels - level) ids ≡ nodes_text nodes ids ++ levels_text nodes (levels - (level + 1)) (ids_below nodes ids)
level_text nodes ids levels level less = text_from nodes ids (levels - level) (levels - (level + 1)) (omega (arith, less))

pub level_printable : (nodes : NodeId → Option Node) (ids : List NodeId) (levels level : ℕ) → level < levels → ArePrintable nodes (levels - level) ids
    → AllByRecursion (λ id. IsPrintable (nodes id)) ids × ArePrintable nodes (levels - (level + 1)) (ids_below nodes ids)
level_printable nodes ids levels level less p = printable_from nodes ids (levels - level) (levels - (level + 1)) (omega (arith, less)) p

pub none_left : (nodes : NodeId → Option Node) (ids : List NodeId) (levels level : ℕ) (w all : List ℕ) → levels ≤ level → w ++ levels_text nodes (levels - level) ids ≡ all → w ≡ all
none_left nodes ids levels level w all last e =
    let zero_left : levels - level ≡ 0 = omega (arith, last) in
    sym (append-nil w) ∙ ap (λ (k : ℕ). w ++ levels_text nodes k ids) (sym zero_left) ∙ e

-- ---- all levels

-- Each id reads as its node, so many levels above the leaves.
AllRead : (NodeId → Option Node) → (n : ℕ) → List NodeId → List (Subtree n) → Type 0
AllRead nodes n [] [] = Unit {0}
AllRead nodes n [] (sub ∷ subs) = ⊥
AllRead nodes n (id ∷ ids) [] = ⊥
AllRead nodes n (id ∷ ids) (sub ∷ subs) = (reads nodes n id ≡ Some sub) × AllRead nodes n ids subs

all_read : (nodes : NodeId → Option Node) (n : ℕ) (ids : List NodeId) (children : List (ℕ × Subtree n)) → length ids ≡ length children
    → ((i : ℕ) (id : NodeId) (child : ℕ × Subtree n) → i < length children → reads nodes n (get_or ids i id) ≡ Some (get_or children i child).1)
    → AllRead nodes n ids (map (λ child. child.1) children)
unfolding AllRead
all_read nodes n [] [] e each = tt
all_read nodes n [] (child ∷ children) e each = absurd (omega (arith, e))
all_read nodes n (id ∷ ids) [] e each = absurd (omega (arith, e))
all_read nodes n (id ∷ ids) (child ∷ children) e each =
    (each 0 id child (omega arith), all_read nodes n ids children (omega (arith, e)) (λ i d c lt. each (suc i) d c (omega (arith, lt))))

all_read_join : (nodes : NodeId → Option Node) (n : ℕ) (ids more : List NodeId) (subs others : List (Subtree n)) → AllRead nodes n ids subs → AllRead nodes n more others → AllRead nodes n (ids ++ more) (subs ++ others)
unfolding AllRead
all_read_join nodes n [] more [] others a b = b
all_read_join nodes n [] more (sub ∷ subs) others a b = absurd a
all_read_join nodes n (id ∷ ids) more [] others a b = absurd a
all_read_join nodes n (id ∷ ids) more (sub ∷ subs) others a b = (a.0, all_read_join nodes n ids more subs others a.1 b)

-- the separators of an inner node are its children's lows but the first
separators_line : {X : Type 0} (children : List (ℕ × X)) → flat_map separator_text (map (λ child. child.0) children) ≡ flat_map (λ child. separator_text child.0) children
separators_line [] = refl
separators_line (child ∷ children) = ap (λ (l : List ℕ). separator_text child.0 ++ l) (separators_line children)

inner_same_line : (nodes : NodeId → Option Node) (n : ℕ) (children : List (ℕ × Subtree n)) (inner : InnerNode) → ReadsOver n nodes children inner → inner_text inner ≡ inner_line children
inner_same_line nodes n children inner over =
    let line : flat_map separator_text inner.separators ≡ flat_map (λ child. separator_text child.0) (drop 1 children) = ap (flat_map separator_text) over.separators ∙ separators_line (drop 1 children) in
    rw (over.count, line) refl

leaves_text : (nodes : NodeId → Option Node) (ids : List NodeId) (leaves : List (Subtree zero)) → AllRead nodes zero ids leaves → nodes_text nodes ids ≡ flat_map leaf_line leaves
unfolding AllRead
leaves_text nodes [] [] all = refl
leaves_text nodes [] (leaf ∷ leaves) all = absurd all
leaves_text nodes (id ∷ ids) [] all = absurd all
leaves_text nodes (id ∷ ids) (leaf ∷ leaves) all = rw (leaf_reads nodes id leaf all.0, leaves_text nodes ids leaves all.1) refl

inners_text : (nodes : NodeId → Option Node) (n : ℕ) (ids : List NodeId) (subs : List (Subtree (suc n))) → AllRead nodes (suc n) ids subs
    → (nodes_text nodes ids ≡ flat_map inner_line subs) × AllRead nodes n (ids_below nodes ids) (flat_map (λ children. map (λ child. child.1) children) subs)
unfolding AllRead
inners_text nodes n [] [] all = (refl, tt)
inners_text nodes n [] (sub ∷ subs) all = absurd all
inners_text nodes n (id ∷ ids) [] all = absurd all
inners_text nodes n (id ∷ ids) (sub ∷ subs) all =
    let inner = inner_reads nodes n id sub all.0 in
    let rest = inners_text nodes n ids subs all.1 in
    let line : node_text (nodes id) ≡ inner_line sub = ap node_text inner.1 ∙ inner_same_line nodes n sub inner.0 inner.2 in
    let below : child_ids (inner_in (nodes id)) ≡ inner.0.children = ap (λ (at : Option Node). child_ids (inner_in at)) inner.1 in
    let own : AllRead nodes n inner.0.children (map (λ child. child.1) sub) = all_read nodes n inner.0.children sub inner.2.count inner.2.each in (
      rw (line, rest.0) refl,
      rw below (all_read_join nodes n inner.0.children (ids_below nodes ids) (map (λ child. child.1) sub) _ own rest.1),
    )

levels_same : (nodes : NodeId → Option Node) (n : ℕ) (ids : List NodeId) (subs : List (Subtree n)) → AllRead nodes n ids subs → levels_text nodes (suc n) ids ≡ level_lines n subs
levels_same nodes zero ids subs all = append-nil (nodes_text nodes ids) ∙ leaves_text nodes ids subs all
levels_same nodes (suc n) ids subs all =
    let own = inners_text nodes n ids subs all in
    rw (own.0, levels_same nodes n (ids_below nodes ids) _ own.1) refl

-- ---- printable separators

every_node : (n : ℕ) (children : List (ℕ × Subtree n)) → AllByRecursion (λ child. LowsAreKeysIn n child.1) children → AllByRecursion (LowsAreKeysIn n) (map (λ child. child.1) children)
every_node n [] all = tt
every_node n (child ∷ children) all = (all.0, every_node n children all.1)

keys_of_lows : {X : Type 0} (children : List (ℕ × X)) → EachLowIsKey children → AllByRecursion IsKey (map (λ child. child.0) children)
keys_of_lows [] all = tt
keys_of_lows (child ∷ children) all = (all.0, keys_of_lows children all.1)

leaves_printable : (nodes : NodeId → Option Node) (ids : List NodeId) (leaves : List (Subtree zero)) → AllRead nodes zero ids leaves → AllByRecursion (λ id. IsPrintable (nodes id)) ids
unfolding AllRead
leaves_printable nodes [] [] all = tt
leaves_printable nodes [] (leaf ∷ leaves) all = absurd all
leaves_printable nodes (id ∷ ids) [] all = absurd all
leaves_printable nodes (id ∷ ids) (leaf ∷ leaves) all = (subst IsPrintable (sym (leaf_reads nodes id leaf all.0)) tt, leaves_printable nodes ids leaves all.1)

inners_printable : (nodes : NodeId → Option Node) (n : ℕ) (ids : List NodeId) (subs : List (Subtree (suc n))) → AllRead nodes (suc n) ids subs → AllByRecursion (LowsAreKeysIn (suc n)) subs
    → AllByRecursion (λ id. IsPrintable (nodes id)) ids × AllByRecursion (LowsAreKeysIn n) (flat_map (λ children. map (λ child. child.1) children) subs)
unfolding AllRead
inners_printable nodes n [] [] all lows = (tt, tt)
inners_printable nodes n [] (sub ∷ subs) all lows = absurd all
inners_printable nodes n (id ∷ ids) [] all lows = absurd all
inners_printable nodes n (id ∷ ids) (sub ∷ subs) all lows =
    let inner = inner_reads nodes n id sub all.0 in
    let rest = inners_printable nodes n ids subs all.1 lows.1 in
    let keys : AllByRecursion IsKey inner.0.separators = subst (AllByRecursion IsKey) (sym inner.2.separators) (keys_of_lows (drop 1 sub) lows.0.0) in
    let here : IsPrintable (nodes id) = subst IsPrintable (sym inner.1) keys in
    ((here, rest.0), every_append (LowsAreKeysIn n) (map (λ child. child.1) sub) _ (every_node n sub lows.0.1) rest.1)

levels_printable : (nodes : NodeId → Option Node) (n : ℕ) (ids : List NodeId) (subs : List (Subtree n)) → AllRead nodes n ids subs → AllByRecursion (LowsAreKeysIn n) subs → ArePrintable nodes (suc n) ids
levels_printable nodes zero ids subs all lows = (leaves_printable nodes ids subs all, tt)
levels_printable nodes (suc n) ids subs all lows =
    let own = inners_printable nodes n ids subs all lows in
    (own.0, levels_printable nodes n (ids_below nodes ids) _ (inners_text nodes n ids subs all).1 own.1)

-- ---- a whole tree

pub tree_text : (nodes : NodeId → Option Node) (levels : ℕ) (root : NodeId) (tree : Tree) → levels ≡ levels_of tree → reads nodes tree.0 root ≡ Some tree.1 → levels_text nodes levels (root ∷ []) ≡ level_lines tree.0 (tree.1 ∷ [])
unfolding AllRead
tree_text nodes levels root tree e r = rw e (levels_same nodes tree.0 (root ∷ []) (tree.1 ∷ []) (r, tt))

pub tree_printable : (nodes : NodeId → Option Node) (levels : ℕ) (root : NodeId) (tree : Tree) → levels ≡ levels_of tree → reads nodes tree.0 root ≡ Some tree.1 → LowsAreKeysIn tree.0 tree.1 → ArePrintable nodes levels (root ∷ [])
unfolding AllRead
tree_printable nodes levels root tree e r lows = rw e (levels_printable nodes tree.0 (root ∷ []) (tree.1 ∷ []) (r, tt) (lows, tt))

-- ---- the walk

pub first_text : (nodes : NodeId → Option Node) (levels : ℕ) (root : NodeId) (ids : List NodeId) → ids ≡ root ∷ [] → levels_text nodes (levels - 0) ids ≡ levels_text nodes levels (root ∷ [])
first_text nodes levels root ids e = ap (levels_text nodes (levels - 0)) e ∙ ap (λ (k : ℕ). levels_text nodes k (root ∷ [])) (omega arith)

pub first_printable : (nodes : NodeId → Option Node) (levels : ℕ) (root : NodeId) (ids : List NodeId) → ids ≡ root ∷ [] → ArePrintable nodes levels (root ∷ []) → ArePrintable nodes (levels - 0) ids
first_printable nodes levels root ids e p = subst (λ (k : ℕ). ArePrintable nodes k ids) (omega arith) (subst (ArePrintable nodes levels) (sym e) p)

-- One more level is written, and the ids of the next are listed.
pub next_text : (nodes : NodeId → Option Node) (levels level : ℕ) (ids read old_below below : List NodeId) (front w old new all : List ℕ) → level < levels → read ≡ ids
    → old_below ≡ [] → below ≡ old_below ++ ids_below nodes read → old ≡ front ++ w → new ≡ old ++ nodes_text nodes read → w ++ levels_text nodes (levels - level) ids ≡ all
    → (x : List ℕ) × (new ≡ front ++ x) × (x ++ levels_text nodes (levels - (level + 1)) below ≡ all)
next_text nodes levels level ids read old_below below front w old new all less same none listed so_far more whole =
    let next : below ≡ ids_below nodes ids = listed ∙ ap (λ (l : List NodeId). l ++ ids_below nodes read) none ∙ ap (ids_below nodes) same in
    let text : new ≡ front ++ (w ++ nodes_text nodes ids) = more ∙ ap (λ (l : List NodeId). old ++ nodes_text nodes l) same ∙ append_next front w old (nodes_text nodes ids) so_far in (
      w ++ nodes_text nodes ids,
      text,
      append_assoc w (nodes_text nodes ids) _ ∙ ap (λ (l : List NodeId). w ++ (nodes_text nodes ids ++ levels_text nodes (levels - (level + 1)) l)) next
          ∙ ap (λ (l : List ℕ). w ++ l) (sym (level_text nodes ids levels level less)) ∙ whole,
    )

pub next_printable : (nodes : NodeId → Option Node) (levels level : ℕ) (ids read old_below below : List NodeId) → level < levels → read ≡ ids
    → old_below ≡ [] → below ≡ old_below ++ ids_below nodes read → ArePrintable nodes (levels - level) ids → ArePrintable nodes (levels - (level + 1)) below
next_printable nodes levels level ids read old_below below less same none listed p =
    let next : below ≡ ids_below nodes ids = listed ∙ ap (λ (l : List NodeId). l ++ ids_below nodes read) none ∙ ap (ids_below nodes) same in
    subst (ArePrintable nodes (levels - (level + 1))) (sym next) (level_printable nodes ids levels level less p).1

-- ---- the first line

-- Five pieces that were appended one after another, and what follows them.
pub five_pieces : (o first second third fourth fifth a b c d e rest : List ℕ) → first ≡ o ++ a → second ≡ first ++ b → third ≡ second ++ c → fourth ≡ third ++ d → fifth ≡ fourth ++ e
    → fifth ++ rest ≡ o ++ (a ++ (b ++ (c ++ (d ++ (e ++ rest)))))
five_pieces o first second third fourth fifth a b c d e rest p q r s t =
    append_next fourth e fifth rest t ∙ append_next third d fourth (e ++ rest) s ∙ append_next second c third (d ++ (e ++ rest)) r
    ∙ append_next first b second (c ++ (d ++ (e ++ rest))) q ∙ append_next o a first (b ++ (c ++ (d ++ (e ++ rest)))) p
