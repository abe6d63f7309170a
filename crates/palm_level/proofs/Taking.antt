-- Leases that come home, and ids that are taken for parts.
use Rattle.std.proofs.Common.{◌≡◌, ◌≢◌, ℕ, suc, Bool, true, false, List, [], ◌∷◌, ◌++◌, length, map, refl, sym, ap, ◌∙◌, arith, subst, append_assoc, length-append, Option, Some, eq-eqb, eqb-true}
use mathlib.Core.Logic.{dite}
use mathlib.Core.List.{map-append}
use native.Mathlib.Decide.{ℕ_discrete}
use Rattle.palm_node.specs.InnerNode.{InnerNode}
use Rattle.palm_node.specs.declared.id.NodeId.{NodeId}
use Rattle.palm_node.specs.declared.id.Piece.{Piece}
use Rattle.palm_node.specs.declared.node.Node.{Node}
use Rattle.palm_node.specs.declared.node.Node.TheVariants.{Inner}
use Rattle.palm_arena.specs.declared.place.Place.{Place}
use Rattle.palm_arena.specs.declared.place.Place.TheVariants.{Empty, Lent, Holds}
use Rattle.palm_arena.specs.ArenaState.{ArenaState, place_at, node_in, node_at, with_place, IsLent, IsVacant}
use Rattle.palm_arena.specs.Reads.{map_of, same_place}
use Rattle.palm_arena.specs.Cells.{Cell, Owns, Turns}
use Rattle.palm_arena.proofs.CellLists.{owned_same, same_pass}
use Rattle.palm_arena.proofs.Standing.{put_stands, others_stay}
use Rattle.palm_arena.proofs.Keeping.{same_id}
use Rattle.palm_arena.proofs.Turning.{put_turns, drop_turns, vacant_none, lent_none}
use Rattle.palm_level.specs.Groups.{cells_at, named_pieces}
use Rattle.palm_level.specs.Tasks.{lent_at, times_if, SameLent, ComesHome, Took, as_node}
use Rattle.palm_level.specs.declared.node_work.LaterNode.{LaterNode}
use Rattle.palm_level.specs.declared.node_work.LevelWork.{LevelWork}

-- ---- which places are lent

-- A place is put that is lent as often as what stood there.
pub lent_put : (places : List Place) (id : NodeId) (place : Place) → lent_at place ≡ lent_at (place_at places id) → SameLent places (with_place places id place)
lent_put places id place same other = dite (ℕ_discrete other.place id.place)
    (λ e.
    let is : other ≡ id = same_id other id e in
    ap (λ k. lent_at (place_at (with_place places id place) k)) is ∙ ap lent_at (put_stands places id place) ∙ same ∙ ap (λ k. lent_at (place_at places k)) (sym is))
    (λ apart. ap lent_at (others_stay places id other place (λ e. apart (ap (λ (k : NodeId). k.place) e))))

pub same_lent_then : (a b c : List Place) → SameLent a b → SameLent b c → SameLent a c
same_lent_then a b c first then id = then id ∙ first id

-- What holds a node isn't lent.
pub held_unlent : (places : List Place) (id : NodeId) (node : Node) → node_at places id ≡ Some node → lent_at (place_at places id) ≡ 0
held_unlent places id node held = by (place_at places id) held
  where
    by : (place : Place) → node_in place ≡ Some node → lent_at place ≡ 0
    by Empty held = refl
    by Lent held = absurd cc
    by (Holds other) held = refl

pub times_own : (id : NodeId) → times_if (same_place id id) ≡ 1
times_own id = ap times_if (eq-eqb id.place id.place refl)

pub times_other : (id other : NodeId) → other ≢ id → times_if (same_place id other) ≡ 0
times_other id other apart = by (same_place id other) refl
  where
    by : (b : Bool) → same_place id other ≡ b → times_if b ≡ 0
    by true e = absurd (apart (sym (same_id id other (eqb-true id.place other.place e))))
    by false e = refl

-- A lease comes home where its place holds a node again, or none.
pub home_put : (places : List Place) (work : LevelWork) (place : Place) → IsLent places work.lease.id → lent_at place ≡ 0 → ComesHome places (with_place places work.lease.id place) (Some work)
home_put places work place lent home other = dite (ℕ_discrete other.place work.lease.id.place)
    (λ e.
    let id = work.lease.id in
    let is : other ≡ id = same_id other id e in
    let new : lent_at (place_at (with_place places id place) other) ≡ 0 = ap (λ k. lent_at (place_at (with_place places id place) k)) is ∙ ap lent_at (put_stands places id place) ∙ home in
    let old : lent_at (place_at places other) ≡ 1 = ap (λ k. lent_at (place_at places k)) is ∙ ap lent_at lent in
    let one : times_if (same_place id other) ≡ 1 = ap (λ k. times_if (same_place id k)) is ∙ times_own id in
    omega (arith, new, old, one))
    (λ apart.
    let id = work.lease.id in
    let other_id : other ≢ id = λ e. apart (ap (λ (k : NodeId). k.place) e) in
    let same : lent_at (place_at (with_place places id place) other) ≡ lent_at (place_at places other) = ap lent_at (others_stay places id other place other_id) in
    let none : times_if (same_place id other) ≡ 0 = times_other id other other_id in
    omega (arith, same, none))

pub home_then : (a b c : List Place) (work : Option LevelWork) → ComesHome a b work → SameLent b c → ComesHome a c work
home_then a b c work home same id =
    let first = home id in
    let then = same id in
    omega (arith, first, then)

-- ---- turns one after another

-- What comes into the map next to what came before.
pub turns_more : (a b c : NodeId → Option Node) (xs ys : List Cell) → Turns a b [] xs → Turns b c [] ys → Turns a c [] (xs ++ ys)
turns_more a b c xs ys first then others owned =
    let now : Owns c (ys ++ (xs ++ others)) = then (xs ++ others) (first others owned) in
    subst (Owns c) (sym (append_assoc xs ys others)) (owned_same c (ys ++ (xs ++ others)) (xs ++ (ys ++ others)) now (same_pass ys xs others))

-- What leaves the map next to what left before.
pub turns_fewer : (a b c : NodeId → Option Node) (xs ys : List Cell) → Turns a b xs [] → Turns b c ys [] → Turns a c (xs ++ ys) []
turns_fewer a b c xs ys first then others owned = then others (first (ys ++ others) (subst (Owns a) (append_assoc xs ys others) owned))

-- ---- ids for parts

many_pieces : (ids : List NodeId) (parts : List (ℕ × InnerNode)) (id : NodeId) (p : ℕ × InnerNode) → length ids ≡ length parts → named_pieces (ids ++ id ∷ []) (parts ++ p ∷ []) ≡ named_pieces ids parts ++ record { low = p.0; id = id } ∷ []
many_pieces [] [] id p e = refl
many_pieces [] (q ∷ qs) id p e = absurd (omega (arith, e))
many_pieces (i ∷ is) [] id p e = absurd (omega (arith, e))
many_pieces (i ∷ is) (q ∷ qs) id p e = ap (λ ps. record { low = q.0; id = i } ∷ ps) (many_pieces is qs id p (omega (arith, e)))

many_cells : (ids : List NodeId) (parts : List (ℕ × InnerNode)) (id : NodeId) (p : ℕ × InnerNode) → length ids ≡ length parts → cells_at (ids ++ id ∷ []) (parts ++ p ∷ []) ≡ cells_at ids parts ++ (id, Inner p.1) ∷ []
many_cells [] [] id p e = refl
many_cells [] (q ∷ qs) id p e = absurd (omega (arith, e))
many_cells (i ∷ is) [] id p e = absurd (omega (arith, e))
many_cells (i ∷ is) (q ∷ qs) id p e = ap (λ (cs : List Cell). (i, Inner q.1) ∷ cs) (many_cells is qs id p (omega (arith, e)))

length_nodes : (later : List LaterNode) → length (map as_node later) ≡ length later
length_nodes [] = refl
length_nodes (p ∷ ps) = ap suc (length_nodes ps)

pub took_more : (a b c : ArenaState) (before pieces after : List Piece) (later : List LaterNode) (one : LaterNode) (id : NodeId) → Took a b before pieces later → IsVacant b.places id
    → c ≡ record b { places = with_place b.places id (Holds (Inner one.node)); moved = b.moved ++ id ∷ [] } → after ≡ pieces ++ record { low = one.low; id = id } ∷ [] → Took a c before after (later ++ one ∷ [])
took_more a b c before pieces after later one id t vacant is more =
    let long : length t.ids ≡ length (map as_node later) = t.many ∙ sym (length_nodes later) in
    let nodes : map as_node (later ++ one ∷ []) ≡ map as_node later ++ as_node one ∷ [] = map-append as_node later (one ∷ []) in
    let turned = turns_more (map_of a.places) (map_of b.places) (map_of (with_place b.places id (Holds (Inner one.node)))) (cells_at t.ids (map as_node later)) ((id, Inner one.node) ∷ []) t.turns
    (put_turns b.places id (Inner one.node) (vacant_none b.places id vacant)) in
    record {
      ids = t.ids ++ id ∷ [];
      many = let m = t.many in let n = length-append t.ids (id ∷ []) in let o = length-append later (one ∷ []) in omega (arith, m, n, o);
      pieces =
          more ∙ ap (λ qs. qs ++ record { low = one.low; id = id } ∷ []) t.pieces ∙ append_assoc before (named_pieces t.ids (map as_node later)) (record { low = one.low; id = id } ∷ [])
          ∙ ap (λ qs. before ++ qs) (sym (many_pieces t.ids (map as_node later) id (as_node one) long) ∙ ap (named_pieces (t.ids ++ id ∷ [])) (sym nodes));
      turns =
          subst (λ (s : ArenaState). Turns (map_of a.places) (map_of s.places) [] (cells_at (t.ids ++ id ∷ []) (map as_node (later ++ one ∷ [])))) (sym is)
          (subst (λ cs. Turns (map_of a.places) (map_of (with_place b.places id (Holds (Inner one.node)))) [] cs)
          (sym (many_cells t.ids (map as_node later) id (as_node one) long) ∙ ap (cells_at (t.ids ++ id ∷ [])) (sym nodes)) turned);
    }

-- A node is taken: no place is lent more or less.
pub take_same : (a : List Place) (b c : ArenaState) (id : NodeId) (node : Node) (moved : List NodeId) → SameLent a b.places → IsVacant b.places id
    → c ≡ record b { places = with_place b.places id (Holds node); moved = moved } → SameLent a c.places
take_same a b c id node moved same vacant is =
    subst (λ (s : ArenaState). SameLent a s.places) (sym is) (same_lent_then a b.places (with_place b.places id (Holds node)) same (lent_put b.places id (Holds node) (sym (ap lent_at vacant))))

-- A lease is given back, and what follows lends nothing.
pub home_given : (a b c : ArenaState) (work : LevelWork) → IsLent a.places work.lease.id → b ≡ record a { places = with_place a.places work.lease.id (Holds work.lease.node) } → SameLent b.places c.places
    → ComesHome a.places c.places (Some work)
home_given a b c work lent is same =
    home_then a.places b.places c.places (Some work) (subst (λ (s : ArenaState). ComesHome a.places s.places (Some work)) (sym is) (home_put a.places work (Holds work.lease.node) lent refl)) same

pub stays_same : (a b : ArenaState) → b ≡ a → SameLent a.places b.places
stays_same a b is id = ap (λ (s : ArenaState). lent_at (place_at s.places id)) is

-- A node that stands there is dropped.
pub drop_same : (a b : ArenaState) (id : NodeId) (node : Node) → node_at a.places id ≡ Some node → b ≡ record a { places = with_place a.places id Empty } → SameLent a.places b.places
drop_same a b id node held is = subst (λ (s : ArenaState). SameLent a.places s.places) (sym is) (lent_put a.places id Empty (sym (held_unlent a.places id node held)))

-- What was given back stands there.
pub given_held : (a b : ArenaState) (id : NodeId) (node : Node) → b ≡ record a { places = with_place a.places id (Holds node) } → node_at b.places id ≡ Some node
given_held a b id node is = ap (λ (s : ArenaState). node_at s.places id) is ∙ ap node_in (put_stands a.places id (Holds node))

pub given_turns : (a b : ArenaState) (id : NodeId) (node : Node) → IsLent a.places id → b ≡ record a { places = with_place a.places id (Holds node) } → Turns (map_of a.places) (map_of b.places) [] ((id, node) ∷ [])
given_turns a b id node lent is = subst (λ (s : ArenaState). Turns (map_of a.places) (map_of s.places) [] ((id, node) ∷ [])) (sym is) (put_turns a.places id node (lent_none a.places id lent))

pub dropped_turns : (a b : ArenaState) (id : NodeId) (node : Node) → b ≡ record a { places = with_place a.places id Empty } → Turns (map_of a.places) (map_of b.places) ((id, node) ∷ []) []
dropped_turns a b id node is = subst (λ (s : ArenaState). Turns (map_of a.places) (map_of s.places) ((id, node) ∷ []) []) (sym is) (drop_turns a.places id node)
