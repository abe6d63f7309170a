-- The first run of changes, and what is counted of changes one after another.
use Rattle.std.proofs.Common.{◌≡◌, ◌≢◌, ◌≤◌, ◌<◌, ◌+◌, ◌-◌, ℕ, zero, suc, List, [], ◌∷◌, ◌++◌, length, take, drop, get_or, sym, ap, ◌∙◌, arith, subst}
use Rattle.std.specs.List.{AllByRecursion}
use Rattle.std.proofs.lemmas.List.Sums.{sum_by-cons}
use Rattle.std.proofs.lemmas.List.{length-drop, length-take-le, take-append-drop, drop_all, length-append}
use Rattle.palm_base.specs.Cut.{piece_count}
use Rattle.palm_base.specs.declared.bounds.TheConstants.{MOST_CHILDREN}
use Rattle.palm_node.specs.InnerNode.{InnerNode, IsInner}
use Rattle.palm_node.specs.declared.id.NodeId.{NodeId}
use Rattle.palm_node.specs.declared.id.Piece.{Piece}
use Rattle.palm_node.specs.declared.change.Change.{Change}
use Rattle.std.specs.Prelude.{not, true}
use Rattle.std.proofs.Common.{eq-eqb}
use Rattle.palm_arena.specs.Reads.{same_place}
use Rattle.palm_level.specs.Splices.{spliced, children_of, children_left, PlacesRise, child_place}
use Rattle.palm_level.specs.Runs.{parent_of, runs}
use Rattle.palm_level.specs.Plans.{piece_total}
use Rattle.palm_level.proofs.Split.{Apart, run_front}
use Rattle.palm_level.proofs.Splicing.{drop_at, length_children}

pub first_run : (changes : List Change) (n : ℕ) (parent : NodeId) → 1 ≤ n → 1 ≤ length changes → AllByRecursion (λ change. parent_of change ≡ parent) (take n changes) → Apart parent (drop n changes)
    → runs changes ≡ take n changes ∷ runs (drop n changes)
first_run [] n parent some inside same apart = absurd (omega arith)
first_run (x ∷ xs) zero parent some inside same apart = absurd (omega arith)
first_run (x ∷ xs) (suc n) parent some inside same apart =
    ap (λ l. runs (x ∷ l)) (sym (take-append-drop n xs))
    ∙ run_front x (take n xs) (drop n xs) (to (take n xs) same.1) (subst (λ i. Apart i (drop n xs)) (sym same.0) apart)
  where
    to : (cs : List Change) → AllByRecursion (λ change. parent_of change ≡ parent) cs → AllByRecursion (λ change. parent_of change ≡ parent_of x) cs
    to [] all = tt
    to (c ∷ cs) all = (all.0 ∙ sym same.0, to cs all.1)

-- The next change is of another parent, or there is none.
pub apart_next : (changes : List Change) (n : ℕ) (parent : NodeId) (change : Change) → n < length changes → change ≡ get_or changes n change → parent ≢ parent_of change → Apart parent (drop n changes)
apart_next changes n parent change less at other = subst (Apart parent) (sym (drop_at changes n change less at)) other

pub apart_end : (changes : List Change) (n : ℕ) (parent : NodeId) → length changes ≤ n → Apart parent (drop n changes)
apart_end changes n parent past = subst (Apart parent) (sym (drop_all n changes past)) tt

-- What is left of a node is no more than its children and the pieces.
total_more : (change : Change) (changes : List Change) → piece_total (change ∷ changes) ≡ length change.pieces + piece_total changes
total_more change changes = sum_by-cons (λ (c : Change). length c.pieces) change changes

left_fits : (children : List Piece) (changes : List Change) (from : ℕ) → PlacesRise from (length children) changes → length (spliced from children changes) ≤ (length children - from) + piece_total changes
left_fits children [] from rise = let n = length-drop from children in omega (arith, n)
left_fits children (change ∷ changes) from rise =
    let place = child_place change in
    let own = take (place - from) (drop from children) in
    let rest = left_fits children changes (place + 1) rise.2 in
    let n = length-append own (change.pieces ++ spliced (place + 1) children changes) in
    let m = length-append change.pieces (spliced (place + 1) children changes) in
    let total = total_more change changes in
    let many = length-drop from children in
    let first = rise.0 in
    let inside = rise.1 in
    let taken : length own ≡ place - from = length-take-le (place - from) (drop from children) (omega (arith, many, first, inside)) in
    omega (arith, rest, n, m, total, taken, first, inside)

-- So there is room for it where there is for these.
pub room_fits : (node : InnerNode) (changes : List Change) (most : ℕ) → IsInner node → PlacesRise 0 (length node.children) changes → most ≡ length node.children + piece_total changes
    → (length (children_left node changes) ≤ most) × (piece_count MOST_CHILDREN (length (children_left node changes)) ≤ piece_count MOST_CHILDREN most)
room_fits node changes most inner rise is =
    let many = length_children node inner in
    let fits = left_fits (children_of node) changes 0 (subst (λ n. PlacesRise 0 n changes) (sym many) rise) in
    let less : length (children_left node changes) ≤ most = omega (arith, many, fits, is) in
    (less, by (length (children_left node changes)) most less)
  where
    by : (n m : ℕ) → n ≤ m → piece_count MOST_CHILDREN n ≤ piece_count MOST_CHILDREN m
    by n m less = omega (arith, less)

pub differ : (id other : NodeId) → not (same_place id other) ≡ true → id ≡ other → ⊥
differ id other apart same =
    let e = eq-eqb id.place other.place (ap (λ (i : NodeId). i.place) same) in
    let no : not true ≡ true = ap not (sym e) ∙ apart in
    absurd cc
