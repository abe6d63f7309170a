-- A node's children, spliced with the pieces of those that changed.
use Rattle.std.proofs.Common.{◌≡◌, ℕ, zero, suc, ◌+◌, ◌-◌, ◌<◌, ◌≤◌, List, [], ◌∷◌, ◌++◌, length, drop, take, get_or, refl, sym, ap, ◌∙◌, arith, length-append, length-drop, append_assoc, subst, Some}
use Rattle.std.specs.Prelude.{slice_get}
use Rattle.std.proofs.lemmas.List.{drop-drop, drop_all, take_all, length-take-le}
use Rattle.std.proofs.lemmas.Option.{get_or_from_slice_get}
use Rattle.std.proofs.Math.Seq.{drop-cons}
use Rattle.palm_node.specs.InnerNode.{InnerNode, IsInner}
use Rattle.palm_node.specs.declared.id.NodeId.{NodeId}
use Rattle.palm_node.specs.declared.id.Piece.{Piece}
use Rattle.palm_node.specs.declared.change.Change.{Change}
use Rattle.palm_level.specs.Splices.{pieces_at, children_of, spliced, PlacesRise, child_place}

pub drop-add : {X : Type 0} (a b : ℕ) (xs : List X) → drop (a + b) xs ≡ drop b (drop a xs)
drop-add a b xs = sym (drop-drop b a xs)

-- ---- a node's own children

one_more : (lows : List ℕ) (ids : List NodeId) (i : ℕ) (id : NodeId) → length ids ≤ length lows → slice_get ids i ≡ Some id
    → take (suc i) (pieces_at lows ids) ≡ take i (pieces_at lows ids) ++ record { low = get_or lows i 0; id = id } ∷ []
one_more lows [] i id few at = absurd cc
one_more [] (x ∷ xs) i id few at = absurd (omega arith)
one_more (y ∷ ys) (x ∷ xs) zero id few at = by cc
  where
    by : x ≡ id → take 1 (pieces_at (y ∷ ys) (x ∷ xs)) ≡ record { low = y; id = id } ∷ []
    by same = rw same refl
one_more (y ∷ ys) (x ∷ xs) (suc i) id few at = ap (λ ps. record { low = y; id = x } ∷ ps) (one_more ys xs i id (omega arith) at)

drop_more : (from : ℕ) (lows : List ℕ) (ids : List NodeId) → drop from (pieces_at lows ids) ≡ pieces_at (drop from lows) (drop from ids)
drop_more zero lows ids = refl
drop_more (suc from) lows [] = refl
drop_more (suc from) [] (x ∷ xs) = by (drop from xs)
  where
    by : (ids : List NodeId) → drop (suc from) (pieces_at [] (x ∷ xs)) ≡ pieces_at [] ids
    by [] = refl
    by (id ∷ ids) = refl
drop_more (suc from) (y ∷ ys) (x ∷ xs) = drop_more from ys xs

get_drop : {X : Type 0} (from i : ℕ) (xs : List X) → slice_get (drop from xs) i ≡ slice_get xs (from + i)
get_drop zero i xs = ap (slice_get xs) (omega arith)
get_drop (suc from) i [] = refl
get_drop (suc from) i (x ∷ xs) =
    let e : suc from + i ≡ suc (from + i) = omega arith in
    rw e (get_drop from i xs)

get_or_drop : (from i : ℕ) (xs : List ℕ) → get_or (drop from xs) i 0 ≡ get_or xs (from + i) 0
get_or_drop zero i xs = ap (λ k. get_or xs k 0) (omega arith)
get_or_drop (suc from) i [] = refl
get_or_drop (suc from) i (x ∷ xs) =
    let e : suc from + i ≡ suc (from + i) = omega arith in
    rw e (get_or_drop from i xs)

pub length_pieces : (lows : List ℕ) (ids : List NodeId) → length ids ≤ length lows → length (pieces_at lows ids) ≡ length ids
length_pieces lows [] few = refl
length_pieces [] (x ∷ xs) few = absurd (omega arith)
length_pieces (y ∷ ys) (x ∷ xs) few = ap suc (length_pieces ys xs (omega arith))

pub length_children : (node : InnerNode) → IsInner node → length (children_of node) ≡ length node.children
length_children node inner = length_pieces (0 ∷ node.separators) node.children (let e = inner.between in omega arith)

-- One child more of those from a place on.
pub own_next : (node : InnerNode) (from i : ℕ) (low : ℕ) (id : NodeId) → IsInner node → from ≤ i → slice_get (0 ∷ node.separators) i ≡ Some low → slice_get node.children i ≡ Some id
    → take (i + 1 - from) (drop from (children_of node)) ≡ take (i - from) (drop from (children_of node)) ++ record { low = low; id = id } ∷ []
own_next node from i low id inner less is at =
    let lows : List ℕ = 0 ∷ node.separators in
    let here : from + (i - from) ≡ i = omega arith in
    let more : i + 1 - from ≡ suc (i - from) = omega arith in
    let long : length (drop from node.children) ≤ length (drop from lows) = let e = inner.between in simp length-drop (omega arith) in
    let got : slice_get (drop from node.children) (i - from) ≡ Some id = get_drop from (i - from) node.children ∙ ap (slice_get node.children) here ∙ at in
    let own : get_or (drop from lows) (i - from) 0 ≡ low = get_or_drop from (i - from) lows ∙ ap (λ k. get_or lows k 0) here ∙ get_or_from_slice_get lows i low 0 is in
    rw (more, drop_more from lows node.children)
    (one_more (drop from lows) (drop from node.children) (i - from) id long got ∙ ap (λ k. take (i - from) (pieces_at (drop from lows) (drop from node.children)) ++ record { low = k; id = id } ∷ []) own)

-- ---- one change more

-- The change at a place comes first of those from there on.
pub drop_at : (changes : List Change) (n : ℕ) (change : Change) → n < length changes → change ≡ get_or changes n change → drop n changes ≡ change ∷ drop (n + 1) changes
drop_at changes n change less at =
    let e : n + 1 ≡ suc n = omega arith in
    let here : get_or changes n change ≡ change = sym at in
    drop-cons changes n change less ∙ ap (λ c. c ∷ drop (suc n) changes) here ∙ ap (λ k. change ∷ drop k changes) (sym e)

pub splice_step : (children : List Piece) (changes : List Change) (from n : ℕ) (change : Change) → n < length changes → change ≡ get_or changes n change
    → spliced from children (drop n changes)
    ≡ take (child_place change - from) (drop from children) ++ (change.pieces ++ spliced (child_place change + 1) children (drop (n + 1) changes))
splice_step children changes from n change less at = ap (spliced from children) (drop_at changes n change less at)

-- The places rise from the next change on.
pub step_rises : (changes : List Change) (from most n : ℕ) (change : Change) → n < length changes → change ≡ get_or changes n change → PlacesRise from most (drop n changes)
    → (from ≤ child_place change) × (child_place change < most) × PlacesRise (child_place change + 1) most (drop (n + 1) changes)
step_rises changes from most n change less at rise =
    let p = subst (PlacesRise from most) (drop_at changes n change less at) rise in
    (p.0, p.1, p.2)

-- What is done grows by the two parts of a step.
pub more_done : (done own new now all after : List Piece) → done ++ now ≡ all → now ≡ own ++ (new ++ after) → ((done ++ own) ++ new) ++ after ≡ all
more_done done own new now all after e step =
    let turned : ((done ++ own) ++ new) ++ after ≡ done ++ (own ++ (new ++ after)) = simp append_assoc in
    turned ∙ ap (λ l. done ++ l) (sym step) ∙ e

-- There is room for both parts of a step.
pub step_fits : (done children new after all : List Piece) (from place : ℕ) → from ≤ place → place < length children
    → done ++ (take (place - from) (drop from children) ++ (new ++ after)) ≡ all
    → (length done + (place - from)) + length new ≤ length all
step_fits done children new after all from place order inside e =
    let own = take (place - from) (drop from children) in
    let rest : length (drop from children) ≡ length children - from = length-drop from children in
    let size : length own ≡ place - from = length-take-le (place - from) (drop from children) (omega arith) in
    let long : length all ≡ length done + (length own + (length new + length after)) =
    ap length (sym e) ∙ length-append done (own ++ (new ++ after))
    ∙ ap (λ n. length done + n) (length-append own (new ++ after) ∙ ap (λ n. length own + n) (length-append new after)) in
    omega arith

-- Past the last change the children that are left over are appended.
pub splice_end : (children done : List Piece) (changes : List Change) (from n count : ℕ) (all : List Piece) → length changes ≤ n → count ≡ length children
    → done ++ spliced from children (drop n changes) ≡ all
    → (length done + (count - from) ≤ length all) × (done ++ take (count - from) (drop from children) ≡ all)
splice_end children done changes from n count all past is e =
    let none : drop n changes ≡ [] = drop_all n changes past in
    let rest : done ++ drop from children ≡ all = ap (λ cs. done ++ spliced from children cs) (sym none) ∙ e in
    let long : length (drop from children) ≡ count - from = rw is (length-drop from children) in
    let whole : take (count - from) (drop from children) ≡ drop from children = take_all (count - from) (drop from children) (omega arith) in
    let sum : length all ≡ length done + length (drop from children) = ap length (sym rest) ∙ length-append done (drop from children) in
    (omega arith, ap (λ l. done ++ l) whole ∙ rest)

-- One turn of the splicing: the children up to a changed one, and its pieces.
pub record Turn (children done : List Piece) (changes : List Change) (from n most place : ℕ) (change : Change) (all : List Piece) : Type 0 where
  pub order : from ≤ place
  pub inside : place < most
  pub later : PlacesRise (place + 1) most (drop (n + 1) changes)
  pub fits : (length done + (place - from)) + length change.pieces ≤ length all
  pub grown : ((done ++ take (place - from) (drop from children)) ++ change.pieces) ++ spliced (place + 1) children (drop (n + 1) changes) ≡ all

pub turn : (children done : List Piece) (changes : List Change) (from n most place : ℕ) (change : Change) (all : List Piece) → n < length changes → change ≡ get_or changes n change
    → place ≡ child_place change → most ≡ length children → PlacesRise from most (drop n changes) → done ++ spliced from children (drop n changes) ≡ all
    → Turn children done changes from n most place change all
turn children done changes from n most place change all less at is count rise e =
    subst (λ p. Turn children done changes from n most p change all) (sym is)
    (let step = splice_step children changes from n change less at in
    let rises = step_rises changes from most n change less at rise in
    let inside : child_place change < length children = subst (λ n. child_place change < n) count rises.1 in
    record {
      order = rises.0;
      inside = rises.1;
      later = rises.2;
      fits = step_fits done children change.pieces _ all from (child_place change) rises.0 inside (ap (λ l. done ++ l) (sym step) ∙ e);
      grown = more_done done (take (child_place change - from) (drop from children)) change.pieces _ all _ e step;
    })
