-- What a node and its children hold where a map reads there.
use Rattle.std.proofs.Common.{◌≡◌, ℕ, zero, suc, ◌<◌, List, [], ◌∷◌, length, get_or, map, drop, Option, Some, None, refl, sym, ap, subst, arith, ◌∙◌}
use Rattle.palm_base.specs.Tree.{Subtree}
use Rattle.palm_base.specs.declared.row.Row.{Row}
use Rattle.palm_node.specs.InnerNode.{InnerNode}
use Rattle.palm_node.specs.declared.id.NodeId.{NodeId}
use Rattle.palm_node.specs.declared.node.Node.{Node}
use Rattle.palm_node.specs.declared.node.Node.TheVariants.{Leaf, Inner}
use Rattle.palm_base.specs.Lawful.{next_low}
use Rattle.palm_arena.specs.Routes.{separators_of}
use Rattle.palm_arena.specs.Reads.{with_child, children_at, leaf_in, inner_in, children_in, reads}

-- Where children read at their ids: there are as many, these are their lows, and each reads.
record ReadAt {X : Type 0} (at : NodeId → Option X) (lows : List ℕ) (ids : List NodeId) (children : List (ℕ × X)) : Type 0 where
  lows-are : map (λ child. child.0) children ≡ lows
  count : length ids ≡ length children
  each : (i : ℕ) (id : NodeId) (child : ℕ × X) → i < length children → at (get_or ids i id) ≡ Some (get_or children i child).1

each_of : {X : Type 0} (at : NodeId → Option X) (id : NodeId) (x : X) (low : ℕ) (ids : List NodeId) (cs : List (ℕ × X)) → at id ≡ Some x
    → ((i : ℕ) (d : NodeId) (child : ℕ × X) → i < length cs → at (get_or ids i d) ≡ Some (get_or cs i child).1)
    → (i : ℕ) (d : NodeId) (child : ℕ × X) → i < length ((low, x) ∷ cs) → at (get_or (id ∷ ids) i d) ≡ Some (get_or ((low, x) ∷ cs) i child).1
each_of at id x low ids cs first rest zero d child lt = first
each_of at id x low ids cs first rest (suc i) d child lt = rest i d child (omega arith)

drop-map : {X : Type 0} (n : ℕ) (children : List (ℕ × X)) → drop n (map (λ child. child.0) children) ≡ map (λ child. child.0) (drop n children)
drop-map zero children = refl
drop-map (suc n) [] = refl
drop-map (suc n) (child ∷ children) = drop-map n children

first_of : {X : Type 0} (children : List (ℕ × X)) (lows : List ℕ) → map (λ child. child.0) children ≡ 0 ∷ lows → next_low (λ child. child.0) 0 children ≡ 0
first_of [] lows e = refl
first_of (child ∷ children) lows e = cc

read_at : {X : Type 0} (at : NodeId → Option X) (lows : List ℕ) (ids : List NodeId) (children : List (ℕ × X)) → children_at at lows ids ≡ Some children → ReadAt at lows ids children
read_at at [] [] [] e = record { lows-are = refl; count = refl; each = λ i id child lt. absurd (omega arith) }
read_at at [] [] (child ∷ children) e = absurd cc
read_at at (low ∷ lows) [] children e = absurd cc
read_at at [] (id ∷ ids) children e = absurd cc
read_at {X} at (low ∷ lows) (id ∷ ids) children e = by (at id) refl (children_at at lows ids) (read_at at lows ids) e
  where
    by : (first : Option X) → at id ≡ first → (rest : Option (List (ℕ × X))) → ((cs : List (ℕ × X)) → rest ≡ Some cs → ReadAt at lows ids cs)
        → with_child low first rest ≡ Some children → ReadAt at (low ∷ lows) (id ∷ ids) children
    by None f rest h e = absurd cc
    by (Some x) f None h e = absurd cc
    by (Some x) f (Some cs) h e =
        let rest = h cs refl in
        let same : (low, x) ∷ cs ≡ children = cc in
        subst (ReadAt at (low ∷ lows) (id ∷ ids)) same (record {
          lows-are = ap (λ (l : List ℕ). low ∷ l) rest.lows-are;
          count = omega (arith, rest.count);
          each = each_of at id x low ids cs f rest.each;
        })

-- An inner node that reads one level above its children.
pub record ReadsOver (n : ℕ) (nodes : NodeId → Option Node) (children : List (ℕ × Subtree n)) (node : InnerNode) : Type 0 where
  pub separators : node.separators ≡ separators_of children
  pub first : next_low (λ child. child.0) 0 children ≡ 0
  pub count : length node.children ≡ length children
  pub each : (i : ℕ) (id : NodeId) (child : ℕ × Subtree n) → i < length children → reads nodes n (get_or node.children i id) ≡ Some (get_or children i child).1

pub inner_reads : (nodes : NodeId → Option Node) (n : ℕ) (id : NodeId) (children : Subtree (suc n)) → reads nodes (suc n) id ≡ Some children → (node : InnerNode) × (nodes id ≡ Some (Inner node)) × ReadsOver n nodes children node
inner_reads nodes n id children e = by (nodes id) refl e
  where
    by : (at : Option Node) → nodes id ≡ at → children_in (reads nodes n) (inner_in at) ≡ Some children → (node : InnerNode) × (nodes id ≡ Some (Inner node)) × ReadsOver n nodes children node
    by None f e = absurd cc
    by (Some (Leaf rows)) f e = absurd cc
    by (Some (Inner node)) f e =
        let at = read_at (reads nodes n) (0 ∷ node.separators) node.children children e in (
          node,
          f,
          record {
            separators = ap (drop 1) (sym at.lows-are) ∙ drop-map 1 children;
            first = first_of children node.separators at.lows-are;
            count = at.count;
            each = at.each;
          },
        )

pub leaf_reads : (nodes : NodeId → Option Node) (id : NodeId) (rows : Subtree zero) → reads nodes zero id ≡ Some rows → nodes id ≡ Some (Leaf rows)
leaf_reads nodes id rows e = by (nodes id) refl e
  where
    by : (at : Option Node) → nodes id ≡ at → leaf_in at ≡ Some rows → nodes id ≡ Some (Leaf rows)
    by None f e = absurd cc
    by (Some (Leaf own)) f e = f ∙ ap (λ (r : List Row). Some (Leaf r)) cc
    by (Some (Inner node)) f e = absurd cc
