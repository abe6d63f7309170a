-- The parts that children are cut into, one after another past the first.
use Rattle.std.proofs.Common.{◌≡◌, ℕ, zero, suc, ◌+◌, ◌<◌, ◌≤◌, List, [], ◌∷◌, ◌++◌, length, map, take, drop, get_or, ◌==◌, false, refl, sym, ap, ◌∙◌, arith, subst, append_assoc}
use Rattle.std.proofs.lemmas.List.{append-nil}
use Rattle.palm_base.specs.Cut.{piece_count, piece_size, cut}
use Rattle.palm_base.proofs.Cuts.{cut_none}
use Rattle.palm_base.specs.Lawful.{HasFromTo}
use Rattle.palm_base.specs.Pass.{first_low}
use Rattle.palm_base.specs.declared.bounds.TheConstants.{MOST_CHILDREN, LEAST_CHILDREN}
use Rattle.palm_node.specs.InnerNode.{InnerNode, Rise, inner_over, later_lows}
use Rattle.palm_node.specs.declared.id.Piece.{Piece}
use Rattle.palm_level.specs.Works.{later_over, first_node}
use Rattle.palm_level.specs.declared.node_work.LaterNode.{LaterNode}
use Rattle.palm_base.proofs.CutSteps.{pieces_left, IsCutTo, left_first, left_next, left_last, cut_first, cut_next, next_fits}
use Rattle.palm_node.proofs.RisingLows.{later_take, later_drop}
use Rattle.palm_arena.proofs.TakenLevels.{first_low_is}

-- The parts before the i-th are made, and the rest of the children is left.
pub record PartsSoFar (children : List Piece) (i : ℕ) (rest : List Piece) (later : List LaterNode) : Type 0 where
  pub parts : later ++ map later_over (pieces_left MOST_CHILDREN (length children) i rest) ≡ map later_over (drop 1 (cut MOST_CHILDREN children))
  pub cut-to : IsCutTo MOST_CHILDREN (length children) i rest
  pub rising : Rise (later_lows rest)

some_pieces : (children : List Piece) → 1 ≤ length children → 0 < piece_count MOST_CHILDREN (length children)
some_pieces children some = by (length children) some
  where
    by : (t : ℕ) → 1 ≤ t → 0 < piece_count MOST_CHILDREN t
    by t some = omega arith

-- The first part of some children.
pub first_part : (children : List Piece) → 1 ≤ length children → Rise (later_lows children)
    → (piece_size MOST_CHILDREN (length children) 0 ≤ length children)
    × HasFromTo 1 MOST_CHILDREN (take (piece_size MOST_CHILDREN (length children) 0) children)
    × Rise (later_lows (take (piece_size MOST_CHILDREN (length children) 0) children))
    × (cut MOST_CHILDREN children ≡ take (piece_size MOST_CHILDREN (length children) 0) children ∷ pieces_left MOST_CHILDREN (length children) 1 (drop (piece_size MOST_CHILDREN (length children) 0) children))
first_part children some rise =
    let t = length children in
    let first = cut_first LEAST_CHILDREN children (omega arith) in
    let fits = next_fits MOST_CHILDREN t 0 children (some_pieces children some) first in (
      fits.0,
      fits.1,
      later_take (piece_size MOST_CHILDREN t 0) children rise,
      sym (left_first MOST_CHILDREN children) ∙ left_next MOST_CHILDREN t 0 children (some_pieces children some),
    )

pub parts_first : (children rest : List Piece) (later : List LaterNode) (size : ℕ) → 1 ≤ length children → Rise (later_lows children) → later ≡ [] → size ≡ piece_size MOST_CHILDREN (length children) 0 → rest ≡ drop size children
    → PartsSoFar children 1 rest later
parts_first children rest later size some rise none is left =
    let t = length children in
    let first = cut_first LEAST_CHILDREN children (omega arith) in
    let size0 = piece_size MOST_CHILDREN t 0 in
    let here : rest ≡ drop size0 children = left ∙ ap (λ n. drop n children) is in
    rw (none, here) (record {
      parts = ap (λ ps. map later_over (drop 1 ps)) (sym (first_part children some rise).3);
      cut-to = cut_next MOST_CHILDREN t 0 children (some_pieces children some) first;
      rising = later_drop size0 children rise;
    })

-- The next part is within what is left, and a node can stand over it.
pub part_fits : (children rest : List Piece) (later : List LaterNode) (i size : ℕ) → PartsSoFar children i rest later → i < piece_count MOST_CHILDREN (length children)
    → size ≡ piece_size MOST_CHILDREN (length children) i
    → (size ≤ length rest) × HasFromTo 1 MOST_CHILDREN (take size rest) × Rise (later_lows (take size rest))
part_fits children rest later i size far less is =
    let fits = next_fits MOST_CHILDREN (length children) i rest less far.cut-to in
    rw is (fits.0, fits.1, later_take (piece_size MOST_CHILDREN (length children) i) rest far.rising)

-- One part more is made.
pub parts_next : (children rest part after : List Piece) (later : List LaterNode) (i size : ℕ) (d : Piece) (node : InnerNode) → PartsSoFar children i rest later → i < piece_count MOST_CHILDREN (length children)
    → size ≡ piece_size MOST_CHILDREN (length children) i → part ≡ take size rest → after ≡ drop size rest → node ≡ inner_over part
    → PartsSoFar children (i + 1) after (later ++ record { low = (get_or part 0 d).low; node = node } ∷ [])
parts_next children rest part after later i size d node far less is front back over =
    let t = length children in
    let width = piece_size MOST_CHILDREN t i in
    let fits = part_fits children rest later i size far less is in
    let some = fits.1.0 in
    let long : 1 ≤ length part = subst (λ (l : List Piece). 1 ≤ length l) (sym front) some in
    let lows : (get_or part 0 d).low ≡ first_low (λ piece. piece.low) part = first_low_is part d long in
    let made : ◌≡◌ {A = LaterNode} (record { low = (get_or part 0 d).low; node = node }) (later_over part) = rw (lows, over) refl in
    let is_part : part ≡ take width rest = front ∙ ap (λ n. take n rest) is in
    let is_after : after ≡ drop width rest = back ∙ ap (λ n. drop n rest) is in
    record {
      parts =
          append_assoc later (record { low = (get_or part 0 d).low; node = node } ∷ []) (map later_over (pieces_left MOST_CHILDREN t (i + 1) after))
          ∙ ap (λ (p : LaterNode). later ++ p ∷ map later_over (pieces_left MOST_CHILDREN t (i + 1) after)) (made ∙ ap later_over is_part)
          ∙ ap (λ l. later ++ later_over (take width rest) ∷ map later_over (pieces_left MOST_CHILDREN t (i + 1) l)) is_after
          ∙ ap (λ ps. later ++ map later_over ps) (sym (left_next MOST_CHILDREN t i rest less))
          ∙ far.parts;
      cut-to = subst (λ l. IsCutTo MOST_CHILDREN t (i + 1) l) (sym is_after) (cut_next MOST_CHILDREN t i rest less far.cut-to);
      rising = subst (λ l. Rise (later_lows l)) (sym is_after) (later_drop width rest far.rising);
    }

pub parts_last : (children rest : List Piece) (later : List LaterNode) (i : ℕ) → PartsSoFar children i rest later → piece_count MOST_CHILDREN (length children) ≤ i → later ≡ map later_over (drop 1 (cut MOST_CHILDREN children))
parts_last children rest later i far past =
    sym (append-nil later) ∙ ap (λ ps. later ++ map later_over ps) (sym (left_last MOST_CHILDREN (length children) i rest past)) ∙ far.parts

-- Where no child is left there is no part.
pub no_parts : (children : List Piece) → length children ≡ 0 → cut MOST_CHILDREN children ≡ []
no_parts [] none = cut_none MOST_CHILDREN (omega arith)
no_parts (child ∷ children) none = absurd (omega arith)

-- Where some are left, the first part and the later ones are those of the cut.
pub parts_made : (node made : InnerNode) (children all : List Piece) (size : ℕ) → children ≡ all → 1 ≤ length children → Rise (later_lows all) → size ≡ piece_size MOST_CHILDREN (length children) 0
    → made ≡ inner_over (take size children) → made ≡ first_node node (cut MOST_CHILDREN all)
parts_made node made children all size is some rise sized over =
    let first = first_part children some (subst (λ l. Rise (later_lows l)) (sym is) rise) in
    over ∙ ap (λ n. inner_over (take n children)) sized ∙ ap (first_node node) (sym first.3) ∙ ap (λ l. first_node node (cut MOST_CHILDREN l)) is

-- What isn't empty has an item.
pub some_item : (n : ℕ) → (n == 0) ≡ false → 1 ≤ n
some_item zero some = absurd cc
some_item (suc n) some = omega arith

-- The first part of children under two names: how wide it is, and that its lows rise.
pub first_fits : (children all : List Piece) (size n : ℕ) → children ≡ all → n ≡ length children → 1 ≤ n → Rise (later_lows all) → size ≡ piece_size MOST_CHILDREN n 0
    → (size ≤ length children) × HasFromTo 1 MOST_CHILDREN (take size children) × Rise (later_lows (take size children))
first_fits children all size n is many some rise sized =
    let width : size ≡ piece_size MOST_CHILDREN (length children) 0 = sized ∙ ap (λ k. piece_size MOST_CHILDREN k 0) many in
    let first = first_part children (omega (arith, many, some)) (subst (λ l. Rise (later_lows l)) (sym is) rise) in
    rw width (first.0, first.1, first.2)
