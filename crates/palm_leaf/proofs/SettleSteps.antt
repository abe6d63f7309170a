-- One leaf more is settled.
use Rattle.std.proofs.Common.{◌≡◌, List, [], ◌∷◌, ◌++◌, length, map, refl, sym, ap, ◌∙◌, append_assoc, subst, Some}
use Rattle.std.specs.Prelude.{Option}
use Rattle.std.specs.List.{flat_map}
use Rattle.std.proofs.lemmas.List.{append-nil}
use Rattle.std.proofs.lemmas.List.Concat.{flat_map-append}
use mathlib.Core.List.{map-append}
use Rattle.palm_base.specs.declared.row.Row.{Row}
use Rattle.palm_node.specs.declared.id.NodeId.{NodeId}
use Rattle.palm_node.specs.declared.node.Node.{Node}
use Rattle.palm_node.specs.declared.node.Node.TheVariants.{Leaf}
use Rattle.palm_node.specs.declared.change.Change.{Change}
use Rattle.palm_arena.specs.declared.place.Place.{Place}
use Rattle.palm_arena.specs.ArenaState.{node_at}
use Rattle.palm_arena.specs.Cells.{Cell, Owns, Turns}
use Rattle.palm_arena.specs.Reads.{map_of}
use Rattle.palm_arena.proofs.CellLists.{owned_front, owned_same, same_swap, same_pass}
use Rattle.palm_arena.proofs.Turning.{turns_then, turns_before, turns_same}
use Rattle.palm_leaf.specs.Answers.{rows_at, rows_in_node}
use Rattle.palm_leaf.specs.Ends.{LeafEnd, LeavesEnd, leaf_cells, leaf_cell, change_at, changes_at, cells_at, Fit}
use Rattle.palm_leaf.specs.Settling.{EndsWith, end_of_done, done_cells, answers_of_done}
use Rattle.palm_leaf.specs.Worked.{answers_of_plan, outcome_of_plan}
use Rattle.palm_leaf.specs.declared.lending.LeafDone.{LeafDone}
use Rattle.palm_leaf.specs.declared.settling.Gathered.{Gathered}

fit_end : (all : List (List NodeId)) (ends : List LeafEnd) (ids : List NodeId) (end : LeafEnd) → Fit all ends → length ids ≡ length end.outcome.pieces → Fit (all ++ ids ∷ []) (ends ++ end ∷ [])
fit_end [] [] ids end fit many = (many, tt)
fit_end [] (e ∷ ends) ids end fit many = absurd fit
fit_end (i ∷ all) [] ids end fit many = absurd fit
fit_end (i ∷ all) (e ∷ ends) ids end fit many = (fit.0, fit_end all ends ids end fit.1 many)

changes_end : (all : List (List NodeId)) (ends : List LeafEnd) (ids : List NodeId) (end : LeafEnd) → Fit all ends → changes_at (all ++ ids ∷ []) (ends ++ end ∷ []) ≡ changes_at all ends ++ change_at ids end ∷ []
changes_end [] [] ids end fit = refl
changes_end [] (e ∷ ends) ids end fit = absurd fit
changes_end (i ∷ all) [] ids end fit = absurd fit
changes_end (i ∷ all) (e ∷ ends) ids end fit = ap (λ (cs : List Change). change_at i e ∷ cs) (changes_end all ends ids end fit.1)

cells_end : (all : List (List NodeId)) (ends : List LeafEnd) (ids : List NodeId) (end : LeafEnd) → Fit all ends → cells_at (all ++ ids ∷ []) (ends ++ end ∷ []) ≡ cells_at all ends ++ leaf_cells ids end.outcome.pieces
cells_end [] [] ids end fit = append-nil (leaf_cells ids end.outcome.pieces)
cells_end [] (e ∷ ends) ids end fit = absurd fit
cells_end (i ∷ all) [] ids end fit = absurd fit
cells_end (i ∷ all) (e ∷ ends) ids end fit =
    ap (λ (cs : List Cell). leaf_cells i e.outcome.pieces ++ cs) (cells_end all ends ids end fit.1) ∙ sym (append_assoc (leaf_cells i e.outcome.pieces) (cells_at all ends) (leaf_cells ids end.outcome.pieces))

flat_end : {X Y : Type 0} (f : X → List Y) (xs : List X) (x : X) → flat_map f (xs ++ x ∷ []) ≡ flat_map f xs ++ f x
flat_end f xs x = flat_map-append f xs (x ∷ []) ∙ ap (λ ys. flat_map f xs ++ ys) (append-nil (f x))

-- One end more.
ends_more : (old mid new : NodeId → Option Node) (before : List Cell) (cell : Cell) (ends : List LeafEnd) (end : LeafEnd) (changes : List Change) (loose : List Row) (ids : List NodeId) → LeavesEnd old mid before ends changes loose
    → length ids ≡ length end.outcome.pieces → Turns mid new (cell ∷ []) (leaf_cells ids end.outcome.pieces) → LeavesEnd old new (before ++ cell ∷ []) (ends ++ end ∷ []) (changes ++ change_at ids end ∷ []) (loose ++ end.outcome.loose)
ends_more old mid new before cell ends end changes loose ids far many turned =
    let held = cells_at far.ids ends in
    let cells = leaf_cells ids end.outcome.pieces in
    record {
      ids = far.ids ++ ids ∷ [];
      fit = fit_end far.ids ends ids end far.fit many;
      changes-are = ap (λ (cs : List Change). cs ++ change_at ids end ∷ []) far.changes-are ∙ sym (changes_end far.ids ends ids end far.fit);
      loose-are = ap (λ (rows : List Row). rows ++ end.outcome.loose) far.loose-are ∙ sym (flat_end (λ (e : LeafEnd). e.outcome.loose) ends end);
      turned =
          subst (Turns old new (before ++ cell ∷ [])) (sym (cells_end far.ids ends ids end far.fit))
          (turns_then old mid new (before ++ cell ∷ []) (held ++ cell ∷ []) (held ++ cells) (turns_before old mid before held (cell ∷ []) far.turned)
          (turns_same mid new (cell ∷ held) (held ++ cell ∷ []) (cells ++ held) (held ++ cells) (same_swap held (cell ∷ [])) (same_swap cells held) (turns_before mid new (cell ∷ []) cells held turned)));
    }

-- How far the settling has come: `front` are the leaves that are settled.
pub record SettleSoFar (start places : List Place) (front : List LeafDone) (gathered : Gathered) : Type 0 where
  pub ends : LeavesEnd (map_of start) (map_of places) (done_cells (map_of start) front) (map (end_of_done (map_of start)) front) gathered.nodes gathered.loose.items
  pub answers : gathered.answers ≡ answers_of_done front

-- The next leaf is still there.
pub next_done : (start places : List Place) (all front left : List LeafDone) (done : LeafDone) (gathered : Gathered) (others : List Cell) → front ++ done ∷ left ≡ all → SettleSoFar start places front gathered
    → Owns (map_of start) (done_cells (map_of start) all ++ others) → node_at places done.id ≡ Some (Leaf (rows_at (map_of start) done.id))
next_done start places all front left done gathered others are far owned =
    let cells = done_cells (map_of start) in
    let rest = cells left ++ others in
    let held = cells_at far.ends.ids (map (end_of_done (map_of start)) front) in
    let cell = leaf_cell (map_of start) done.id in
    let whole : cells all ++ others ≡ cells front ++ (cell ∷ rest) =
    ap (λ (ds : List LeafDone). cells ds ++ others) (sym are)
    ∙ ap (λ (cs : List Cell). cs ++ others) (map-append (λ (d : LeafDone). leaf_cell (map_of start) d.id) front (done ∷ left))
    ∙ append_assoc (cells front) (cells (done ∷ left)) others in
    let now : Owns (map_of places) (held ++ (cell ∷ rest)) = far.ends.turned (cell ∷ rest) (subst (Owns (map_of start)) whole owned) in
    (owned_front (map_of places) done.id (Leaf (rows_at (map_of start) done.id)) (held ++ rest) (owned_same (map_of places) (held ++ (cell ∷ rest)) (cell ∷ (held ++ rest)) now (same_pass held (cell ∷ []) rest))).0

pub one_settled : (start places next : List Place) (all front left : List LeafDone) (done : LeafDone) (gathered more : Gathered) (others : List Cell) → front ++ done ∷ left ≡ all → SettleSoFar start places front gathered
    → Owns (map_of start) (done_cells (map_of start) all ++ others) → EndsWith (map_of places) (map_of next) done gathered more → SettleSoFar start next (front ++ done ∷ []) more
one_settled start places next all front left done gathered more others are far owned ended =
    let held = next_done start places all front left done gathered others are far owned in
    let same : rows_at (map_of places) done.id ≡ rows_at (map_of start) done.id = ap rows_in_node held in
    let end = end_of_done (map_of start) done in
    let as_end : end_of_done (map_of places) done ≡ end =
    ap (λ (rows : List Row). let e : LeafEnd = record { node = done.id; path = done.plan.path.now; outcome = outcome_of_plan rows done.plan } in e) same in
    let ids = ended.ids in
    let turned : Turns (map_of places) (map_of next) (leaf_cell (map_of start) done.id ∷ []) (leaf_cells ids end.outcome.pieces) =
    subst (λ (e : LeafEnd). Turns (map_of places) (map_of next) (leaf_cell (map_of start) done.id ∷ []) (leaf_cells ids e.outcome.pieces)) as_end
    (subst (λ (rows : List Row). Turns (map_of places) (map_of next) ((done.id, Leaf rows) ∷ []) (leaf_cells ids (end_of_done (map_of places) done).outcome.pieces)) same ended.turned) in
    let many : length ids ≡ length end.outcome.pieces = subst (λ (e : LeafEnd). length ids ≡ length e.outcome.pieces) as_end ended.many in
    let nodes : more.nodes ≡ gathered.nodes ++ change_at ids end ∷ [] = subst (λ (e : LeafEnd). more.nodes ≡ gathered.nodes ++ change_at ids e ∷ []) as_end ended.nodes-are in
    let loose : more.loose.items ≡ gathered.loose.items ++ end.outcome.loose = subst (λ (e : LeafEnd). more.loose.items ≡ gathered.loose.items ++ e.outcome.loose) as_end ended.loose-are in
    let grown = ends_more (map_of start) (map_of places) (map_of next) (done_cells (map_of start) front) (leaf_cell (map_of start) done.id) (map (end_of_done (map_of start)) front) end gathered.nodes gathered.loose.items ids far.ends many turned in
    record {
      ends =
          rw (nodes, loose, map-append (λ (d : LeafDone). leaf_cell (map_of start) d.id) front (done ∷ []), map-append (end_of_done (map_of start)) front (done ∷ [])) grown;
      answers =
          ended.answers-are ∙ ap (λ told. told ++ answers_of_plan done.plan) far.answers ∙ sym (flat_end (λ (d : LeafDone). answers_of_plan d.plan) front done);
    }
