-- The walk below a node that lists the lows of leaves: what holds as it goes from child to child.
use Rattle.std.proofs.Common.{◌≡◌, ℕ, zero, suc, ◌+◌, ◌-◌, ◌<◌, ◌≤◌, List, [], ◌∷◌, ◌++◌, length, get_or, slice_get, drop, Option, Some, IsSome, refl, sym, ap, subst, arith, append_assoc, ◌∙◌}
use Rattle.std.proofs.lemmas.List.{append-nil, drop_more}
use Rattle.std.proofs.lemmas.Option.{get_or_from_slice_get, slice_get_within}
use Rattle.palm_base.specs.declared.bounds.TheConstants.{MOST_CHILDREN}
use Rattle.palm_node.specs.InnerNode.{InnerNode}
use Rattle.palm_node.specs.declared.id.NodeId.{NodeId}
use Rattle.palm_node.specs.declared.node.Node.{Node}
use Rattle.palm_node.specs.declared.node.Node.TheVariants.{Leaf, Inner}
use Rattle.palm_base.specs.declared.row.Row.{Row}
use Rattle.palm_arena.specs.Leaves.{leaves_of_children, leaves_under}
use Rattle.palm_arena.specs.Routes.{route_of}
use Rattle.palm_arena.proofs.Readings.{leaf_reads}
use Rattle.palm_route.specs.Parts.{lows_of}
use Rattle.palm_route.specs.Ranges.{HasRange}
use Rattle.palm_route.proofs.LeavesUnder.{leaves_are, is_over}
use Rattle.palm_route.proofs.LaterLows.{later_lows, later_append, later_from, begins, ends, child_range}
use Rattle.palm_route.proofs.Descents.{over_of}

pub node_held : (nodes : NodeId → Option Node) (below low : ℕ) (id : NodeId) → HasRange nodes below low id → IsSome (nodes id)
node_held nodes zero low id has = subst IsSome (sym (leaf_reads nodes id has.node has.reads-as)) refl
node_held nodes (suc n) low id has = let known = is_over nodes n low has.high id has.node has.reads-as has.range in subst IsSome (sym known.1.here) refl

-- Where a leaf stands it is the only one below.
pub leaf_alone : (nodes : NodeId → Option Node) (below low : ℕ) (id : NodeId) (node : Node) (rows : List Row) → HasRange nodes below low id → nodes id ≡ Some node → node ≡ Leaf rows
    → (path : List (NodeId × ℕ)) → lows_of (leaves_under nodes below path low id) ≡ low ∷ []
leaf_alone nodes zero low id node rows has here is path = refl
leaf_alone nodes (suc n) low id node rows has here is path =
    let known = is_over nodes n low has.high id has.node has.reads-as has.range in let same = known.1.here in absurd cc

-- Where an inner node stands, `n` is one level less than stand below it.
pub record IsWalked (nodes : NodeId → Option Node) (below n low : ℕ) (id : NodeId) (inner : InnerNode) : Type 0 where
  pub one_less : n + 1 ≡ below
  pub few : length inner.children ≤ MOST_CHILDREN
  pub each : (i : ℕ) (d : NodeId) → i < length inner.children → HasRange nodes n (get_or (low ∷ inner.separators) i 0) (get_or inner.children i d)
  pub whole : (path : List (NodeId × ℕ)) (from to : ℕ) → later_lows from to (leaves_under nodes below path low id) ≡ later_from nodes n path id from to (route_of from inner.separators) (low ∷ inner.separators) inner.children
  pub past : (path : List (NodeId × ℕ)) (from to i : ℕ) → route_of to inner.separators < i → later_from nodes n path id from to i (low ∷ inner.separators) inner.children ≡ []

walked : (nodes : NodeId → Option Node) (n low : ℕ) (id : NodeId) (inner : InnerNode) → HasRange nodes (suc n) low id → nodes id ≡ Some (Inner inner) → IsWalked nodes (suc n) n low id inner
walked nodes n low id inner has here =
    let over = over_of nodes n low id inner has here in
    record {
      one_less = omega arith;
      few = over.few;
      each = λ i d lt. rw over.separators (child_range nodes n low has.high inner.children over.first over.later over.read over.order i d lt);
      whole = λ path from to.
          ap (later_lows from to) (leaves_are nodes n path low id inner here)
          ∙ rw over.separators (begins nodes n path id from to 0 low has.high inner.children over.first over.later over.read over.order _ refl _ (omega arith));
      past = λ path from to i past. rw over.separators (ends nodes n path id from to i i low has.high inner.children over.first over.later over.read over.order (subst (λ (l : List ℕ). route_of to l < i) over.separators past));
    }

pub inner_walked : (nodes : NodeId → Option Node) (below low : ℕ) (id : NodeId) (node : Node) (inner : InnerNode) → HasRange nodes below low id → nodes id ≡ Some node → node ≡ Inner inner
    → IsWalked nodes below (below - 1) low id inner
inner_walked nodes zero low id node inner has here is = let leaf = leaf_reads nodes id has.node has.reads-as in absurd cc
inner_walked nodes (suc n) low id node inner has here is =
    let less : n ≡ suc n - 1 = omega arith in
    subst (λ m. IsWalked nodes (suc n) m low id inner) less (walked nodes n low id inner has (here ∙ ap Some is))

-- At the child at a place a node stands whose range begins there.
pub child_has : (nodes : NodeId → Option Node) (below n low : ℕ) (id : NodeId) (inner : InnerNode) (i : ℕ) (child : NodeId) (first : ℕ) → IsWalked nodes below n low id inner
    → slice_get inner.children i ≡ Some child → slice_get (low ∷ inner.separators) i ≡ Some first → HasRange nodes n first child
child_has nodes below n low id inner i child first has got begins =
    subst (λ l. HasRange nodes n l child) (get_or_from_slice_get (low ∷ inner.separators) i first 0 begins)
    (subst (HasRange nodes n (get_or (low ∷ inner.separators) i 0)) (get_or_from_slice_get inner.children i child child got) (has.each i child (slice_get_within inner.children i child got)))

-- The leaves below one child come before those below the children after it.
pub child_first : (nodes : NodeId → Option Node) (n : ℕ) (path : List (NodeId × ℕ)) (id : NodeId) (from to i : ℕ) (lows : List ℕ) (ids : List NodeId) (child : NodeId) (first : ℕ)
    → slice_get ids i ≡ Some child → slice_get lows i ≡ Some first
    → later_from nodes n path id from to i lows ids ≡ later_lows from to (leaves_under nodes n (path ++ (id, i) ∷ []) first child) ++ later_from nodes n path id from to (i + 1) lows ids
child_first nodes n path id from to i lows ids child first got begins =
    let low = drop_more lows i 0 (slice_get_within lows i first begins) ∙ ap (λ l. l ∷ drop (i + 1) lows) (get_or_from_slice_get lows i first 0 begins) in
    let own = drop_more ids i child (slice_get_within ids i child got) ∙ ap (λ c. c ∷ drop (i + 1) ids) (get_or_from_slice_get ids i child child got) in
    let next : suc i ≡ i + 1 = omega arith in
    ap (λ (l : List ℕ). later_lows from to (leaves_of_children (leaves_under nodes n) path id i l (drop i ids))) low
    ∙ ap (λ (l : List NodeId). later_lows from to (leaves_of_children (leaves_under nodes n) path id i (first ∷ drop (i + 1) lows) l)) own
    ∙ later_append from to (leaves_under nodes n (path ++ (id, i) ∷ []) first child) (leaves_of_children (leaves_under nodes n) path id (suc i) (drop (i + 1) lows) (drop (i + 1) ids))
    ∙ ap (λ j. later_lows from to (leaves_under nodes n (path ++ (id, i) ∷ []) first child) ++ later_lows from to (leaves_of_children (leaves_under nodes n) path id j (drop (i + 1) lows) (drop (i + 1) ids))) next

-- So the lows that are listed and those still to be listed stay the same from child to child.
pub child_done : (held now next own rest whole : List ℕ) (total : List ℕ) → now ++ total ≡ held ++ whole → total ≡ own ++ rest → next ≡ now ++ own → next ++ rest ≡ held ++ whole
child_done held now next own rest whole total so_far split more =
    ap (λ (l : List ℕ). l ++ rest) more ∙ append_assoc now own rest ∙ ap (λ (l : List ℕ). now ++ l) (sym split) ∙ so_far

pub all_done : (held now rest whole : List ℕ) → now ++ rest ≡ held ++ whole → rest ≡ [] → now ≡ held ++ whole
all_done held now rest whole so_far none = sym (append-nil now) ∙ ap (λ (l : List ℕ). now ++ l) (sym none) ∙ so_far
