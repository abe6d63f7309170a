-- After the leaves have become their ends the changes stand for the pass.
use Rattle.std.proofs.Common.{◌≡◌, ℕ, zero, suc, Bool, true, false, cond, List, [], ◌∷◌, ◌++◌, length, map, refl, sym, ap, ◌∙◌, append_assoc, subst, arith}
use Rattle.std.specs.Prelude.{Option}
use Rattle.std.specs.List.{flat_map, filter, AllByRecursion}
use Rattle.std.specs.List.Sorted.{IsPermutation}
use Rattle.std.proofs.lemmas.List.{append-nil}
use Rattle.std.proofs.lemmas.List.Sorted.{IsPermutation-refl}
use Rattle.palm_base.specs.Pass.{Outcome}
use Rattle.palm_base.specs.declared.row.Row.{Row}
use Rattle.palm_base.proofs.Every.{every_weaker}
use Rattle.palm_node.specs.declared.id.NodeId.{NodeId}
use Rattle.palm_node.specs.declared.id.Piece.{Piece}
use Rattle.palm_node.specs.declared.node.Node.{Node}
use Rattle.palm_node.specs.declared.node.Node.TheVariants.{Leaf}
use Rattle.palm_node.specs.declared.change.Change.{Change}
use Rattle.palm_arena.specs.Cells.{Cell, found_at, Owns, HasCells, SameCells}
use Rattle.palm_arena.specs.Placed.{Body, Placed, values, cells_of, cells_under, bare, with_ids}
use Rattle.palm_arena.specs.Sites.{Site, raised, sites_at, cells_above, outcome_at}
use Rattle.palm_arena.specs.Standing.{Result, is_hit, StandsForItself, IsRight, loose_of, change_of, untouched_cells, untouched_at, Stands}
use Rattle.palm_arena.proofs.CellLists.{owned_same, same_append, same_trans, same_sym, same_eq, same_pass, same_swap}
use Rattle.palm_arena.proofs.Untouched.{has_same, has_last}
use Rattle.palm_arena.proofs.ListParts.{same_parted, same_each, flat_each, flat_flat, flat_map', map_map, map_all, all_map, all_both}
use Rattle.palm_route.specs.declared.part.Part.{Part}
use Rattle.palm_leaf.specs.Ends.{LeafEnd, LeavesEnd, pieces_at, leaf_cells, change_at, changes_at, cells_at, Fit}
use Rattle.palm_leaf.specs.Loads.{LeafLoad}
use Rattle.palm_leaf.proofs.LoadFacts.{has_parts, load_cell}

-- A leaf with the ids of its pieces.
pub record LeafTurn : Type 0 where
  pub load : LeafLoad
  pub ids : List NodeId

abbrev out : ℕ → Site zero → Outcome zero
out d site = outcome_at zero d site

abbrev end_site : ℕ → Site zero → LeafEnd
end_site d site = record { node = site.place.0; path = site.path; outcome = out d site }

-- The end of a leaf that has parts.
abbrev pub end_by : ℕ → Site zero → List Part → List LeafEnd
end_by d site [] = []
end_by d site (part ∷ parts) = end_site d site ∷ []

abbrev pub load_ends : ℕ → List LeafLoad → List LeafEnd
load_ends d loads = flat_map (λ load. end_by d load.site load.parts) loads

abbrev is_worked : LeafTurn → Bool
is_worked t = has_parts t.load.parts

abbrev turn_pieces : ℕ → LeafTurn → List (ℕ × Placed zero)
turn_pieces d t =
    let new = with_ids t.ids (out d t.load.site).pieces in
    let same = (t.load.site.low, t.load.site.place) ∷ [] in
    cond (is_worked t) new same

abbrev turn_result : ℕ → LeafTurn → Result zero
turn_result d t = record { site = t.load.site; pieces = turn_pieces d t }

abbrev turn_changes : ℕ → LeafTurn → List Change
turn_changes d t = let changes = change_at t.ids (end_site d t.load.site) ∷ [] in cond (is_worked t) changes []

abbrev turn_before : LeafTurn → List Cell
turn_before t = let cells = load_cell t.load ∷ [] in cond (is_worked t) cells []

abbrev turn_stays : LeafTurn → List Cell
turn_stays t = let cells = load_cell t.load ∷ [] in cond (is_worked t) [] cells

abbrev turn_after : ℕ → LeafTurn → List Cell
turn_after d t = let cells = leaf_cells t.ids (out d t.load.site).pieces in cond (is_worked t) cells []

-- The serial rule leaves a leaf as it is. Of a root leaf it isn't said: an empty one has no piece by the rule.
abbrev pub IsLeft : ℕ → Site zero → Type 0
IsLeft zero site = Unit {0}
IsLeft (suc d) site = outcome_at zero (suc d) site ≡ record { pieces = (site.low, site.place.1) ∷ []; loose = [] }

-- So it is with one that has no parts.
abbrev pub IsStillLoad : ℕ → LeafLoad → Type 0
IsStillLoad d load = has_parts load.parts ≡ false → IsLeft d load.site

-- What is known of a leaf: a worked one has as many ids as pieces, and another is as the serial rule leaves it.
pub record IsTurn (touched : NodeId → Bool) (d : ℕ) (t : LeafTurn) : Type 0 where
  pub fits : is_worked t ≡ true → length t.ids ≡ length (out d t.load.site).pieces
  pub still : IsStillLoad d t.load
  pub hit : touched t.load.site.place.0 ≡ is_worked t

-- ---- ids beside ends are turns of the leaves

pub record Spread (d : ℕ) (loads : List LeafLoad) (ids : List (List NodeId)) : Type 0 where
  pub turns : List LeafTurn
  pub loads-are : map (λ t. t.load) turns ≡ loads
  pub fits : AllByRecursion (λ t. is_worked t ≡ true → length t.ids ≡ length (out d t.load.site).pieces) turns
  pub changes-are : changes_at ids (load_ends d loads) ≡ flat_map (turn_changes d) turns
  pub cells-are : cells_at ids (load_ends d loads) ≡ flat_map (turn_after d) turns

pub spread : (d : ℕ) (loads : List LeafLoad) (ids : List (List NodeId)) → Fit ids (load_ends d loads) → Spread d loads ids
spread d [] [] fit = record { turns = []; loads-are = refl; fits = tt; changes-are = refl; cells-are = refl }
spread d [] (i ∷ ids) fit = absurd fit
spread d (load ∷ loads) ids fit = by load.site load.low load.parts ids fit (spread d loads)
  where
    by : (site : Site zero) (low : ℕ) (parts : List Part) (ids : List (List NodeId)) → Fit ids (end_by d site parts ++ load_ends d loads) → ((ids : List (List NodeId)) → Fit ids (load_ends d loads) → Spread d loads ids)
        → Spread d (record { site = site; low = low; parts = parts } ∷ loads) ids
    by site low [] ids fit rest =
        let r = rest ids fit in
        let own : LeafLoad = record { site = site; low = low; parts = [] } in
        record { turns = record { load = own; ids = [] } ∷ r.turns; loads-are = ap (λ (ls : List LeafLoad). own ∷ ls) r.loads-are; fits = ((λ worked. absurd cc), r.fits); changes-are = r.changes-are; cells-are = r.cells-are }
    by site low (part ∷ parts) [] fit rest = absurd fit
    by site low (part ∷ parts) (i ∷ ids) fit rest =
        let r = rest ids fit.1 in
        let own : LeafLoad = record { site = site; low = low; parts = part ∷ parts } in
        record {
          turns = record { load = own; ids = i } ∷ r.turns;
          loads-are = ap (λ (ls : List LeafLoad). own ∷ ls) r.loads-are;
          fits = ((λ worked. fit.0), r.fits);
          changes-are = ap (λ (cs : List Change). change_at i (end_site d site) ∷ cs) r.changes-are;
          cells-are = ap (λ (cs : List Cell). leaf_cells i (out d site).pieces ++ cs) r.cells-are;
        }

-- ---- one leaf

leaf_values : (ids : List NodeId) (leaves : List (ℕ × Body zero)) → length ids ≡ length leaves → values zero (with_ids ids leaves) ≡ leaves
leaf_values [] [] many = refl
leaf_values [] (l ∷ leaves) many = absurd (omega arith)
leaf_values (id ∷ ids) [] many = absurd (omega arith)
leaf_values (id ∷ ids) (l ∷ leaves) many = ap (λ (ls : List (ℕ × Body zero)). l ∷ ls) (leaf_values ids leaves (omega arith))

pieces_bare : (ids : List NodeId) (leaves : List (ℕ × Body zero)) → pieces_at ids leaves ≡ bare (with_ids ids leaves)
pieces_bare [] leaves = refl
pieces_bare (id ∷ ids) [] = refl
pieces_bare (id ∷ ids) (l ∷ leaves) = ap (λ (ps : List Piece). record { low = l.0; id = id } ∷ ps) (pieces_bare ids leaves)

cells_placed : (ids : List NodeId) (leaves : List (ℕ × Body zero)) → leaf_cells ids leaves ≡ cells_under zero (with_ids ids leaves)
cells_placed [] leaves = refl
cells_placed (id ∷ ids) [] = refl
cells_placed (id ∷ ids) (l ∷ leaves) = ap (λ (cs : List Cell). (id, Leaf l.1) ∷ cs) (cells_placed ids leaves)

turn_right : (touched : NodeId → Bool) (d : ℕ) (t : LeafTurn) → IsTurn touched d t → IsRight touched zero d (turn_result d t)
turn_right touched zero t is = λ hit. by (is_worked t) refl (sym is.hit ∙ hit)
  where
    by : (b : Bool) → is_worked t ≡ b → b ≡ true → values zero (cond b (with_ids t.ids (out zero t.load.site).pieces) ((t.load.site.low, t.load.site.place) ∷ [])) ≡ (out zero t.load.site).pieces
    by true e worked = leaf_values t.ids (out zero t.load.site).pieces (is.fits e)
    by false e worked = absurd cc
turn_right touched (suc d) t is = by (is_worked t) refl
  where
    by : (b : Bool) → is_worked t ≡ b → values zero (cond b (with_ids t.ids (out (suc d) t.load.site).pieces) ((t.load.site.low, t.load.site.place) ∷ [])) ≡ (out (suc d) t.load.site).pieces
    by true e = leaf_values t.ids (out (suc d) t.load.site).pieces (is.fits e)
    by false e = ap (λ (o : Outcome zero). o.pieces) (sym (is.still e))

turn_still : (touched : NodeId → Bool) (d : ℕ) (t : LeafTurn) → IsTurn touched d t → StandsForItself touched zero (turn_result d t)
turn_still touched d t is no_hit = ap (λ (b : Bool). cond b (with_ids t.ids (out d t.load.site).pieces) ((t.load.site.low, t.load.site.place) ∷ [])) (sym is.hit ∙ no_hit)

turn_loosed : (touched : NodeId → Bool) (d : ℕ) (t : LeafTurn) → IsTurn touched d t → cond (is_worked t) (out d t.load.site).loose [] ≡ loose_of zero d (turn_result d t)
turn_loosed touched zero t is = by (is_worked t)
  where
    by : (b : Bool) → cond b (out zero t.load.site).loose [] ≡ (out zero t.load.site).loose
    by true = refl
    by false = refl
turn_loosed touched (suc d) t is = by (is_worked t) refl
  where
    by : (b : Bool) → is_worked t ≡ b → cond b (out (suc d) t.load.site).loose [] ≡ (out (suc d) t.load.site).loose
    by true e = refl
    by false e = ap (λ (o : Outcome zero). o.loose) (sym (is.still e))

turn_start : (t : LeafTurn) → SameCells (load_cell t.load ∷ []) (turn_before t ++ turn_stays t)
turn_start t = by (is_worked t)
  where
    by : (b : Bool) → SameCells (load_cell t.load ∷ []) (cond b (load_cell t.load ∷ []) [] ++ cond b [] (load_cell t.load ∷ []))
    by true i = refl
    by false i = refl

turn_end : (d : ℕ) (t : LeafTurn) → SameCells (turn_after d t ++ turn_stays t) (cells_under zero (turn_pieces d t))
turn_end d t = by (is_worked t)
  where
    by : (b : Bool) → SameCells (cond b (leaf_cells t.ids (out d t.load.site).pieces) [] ++ cond b [] (load_cell t.load ∷ [])) (cells_under zero (cond b (with_ids t.ids (out d t.load.site).pieces) ((t.load.site.low, t.load.site.place) ∷ [])))
    by true i = ap (found_at i) (append-nil (leaf_cells t.ids (out d t.load.site).pieces) ∙ cells_placed t.ids (out d t.load.site).pieces)
    by false i = refl

-- ---- all leaves

turns_changed : (touched : NodeId → Bool) (d : ℕ) (turns : List LeafTurn) → AllByRecursion (IsTurn touched d) turns → flat_map (turn_changes d) turns ≡ map (change_of zero) (filter (is_hit touched zero) (map (turn_result d) turns))
turns_changed touched d [] all = refl
turns_changed touched d (t ∷ turns) all = rw all.0.hit (by (is_worked t) refl (turns_changed touched d turns all.1))
  where
    later : List (Result zero)
    later = filter (is_hit touched zero) (map (turn_result d) turns)

    by : (b : Bool) → is_worked t ≡ b → flat_map (turn_changes d) turns ≡ map (change_of zero) later
        → cond b (change_at t.ids (end_site d t.load.site) ∷ []) [] ++ flat_map (turn_changes d) turns ≡ map (change_of zero) (cond b (turn_result d t ∷ later) later)
    by true e rest =
        let site = t.load.site in
        let same = (site.low, site.place) ∷ [] in
        let new = with_ids t.ids (out d site).pieces in
        let one : change_at t.ids (end_site d site) ≡ change_of zero (turn_result d t) =
        ap (λ (ps : List Piece). let change : Change = record { node = site.place.0; path = site.path; pieces = ps } in change) (pieces_bare t.ids (out d site).pieces ∙ ap (λ (b : Bool). bare (cond b new same)) (sym e)) in
        ap (λ (c : Change). c ∷ flat_map (turn_changes d) turns) one ∙ ap (λ (cs : List Change). change_of zero (turn_result d t) ∷ cs) rest
    by false e rest = rest

loose_of_ends : (d : ℕ) (loads : List LeafLoad) → flat_map (λ end. end.outcome.loose) (load_ends d loads) ≡ flat_map (λ load. cond (has_parts load.parts) (out d load.site).loose []) loads
loose_of_ends d [] = refl
loose_of_ends d (load ∷ loads) = by load.parts (loose_of_ends d loads)
  where
    by : (parts : List Part) → flat_map (λ end. end.outcome.loose) (load_ends d loads) ≡ flat_map (λ load. cond (has_parts load.parts) (out d load.site).loose []) loads
        → flat_map (λ end. end.outcome.loose) (end_by d load.site parts ++ load_ends d loads) ≡ cond (has_parts parts) (out d load.site).loose [] ++ flat_map (λ load. cond (has_parts load.parts) (out d load.site).loose []) loads
    by [] rest = rest
    by (part ∷ parts) rest = ap (λ (rows : List Row). (out d load.site).loose ++ rows) rest

pub leaves_stand : (d : ℕ) (root : Site (raised zero d)) (touched : NodeId → Bool) (rest : List Cell) (old new : NodeId → Option Node) (loads : List LeafLoad) (changes : List Change) (loose : List Row)
    → map (λ load. load.site) loads ≡ sites_at d zero root
    → AllByRecursion (IsStillLoad d) loads
    → AllByRecursion (λ load. touched load.site.place.0 ≡ has_parts load.parts) loads
    → Owns old (map load_cell loads ++ (cells_above d zero root ++ rest))
    → LeavesEnd old new (flat_map (λ load. cond (has_parts load.parts) (load_cell load ∷ []) []) loads) (load_ends d loads) changes loose
    → Stands d zero root touched rest new (record { nodes = changes; loose = loose; removed = [] })
leaves_stand d root touched rest old new loads changes loose sites stills hit owned ended =
    record {
      results = map (turn_result d) turns;
      kept = [];
      sites = map_map (turn_result d) (λ r. r.site) turns ∙ sym (map_map (λ (t : LeafTurn). t.load) (λ load. load.site) turns) ∙ ap (map (λ load. load.site)) s.loads-are ∙ sites;
      still = all_map (StandsForItself touched zero) (turn_result d) turns (every_weaker (IsTurn touched d) (λ t. StandsForItself touched zero (turn_result d t)) (turn_still touched d) turns are);
      right = all_map (IsRight touched zero d) (turn_result d) turns (every_weaker (IsTurn touched d) (λ t. IsRight touched zero d (turn_result d t)) (turn_right touched d) turns are);
      changed = ended.changes-are ∙ s.changes-are ∙ turns_changed touched d turns are;
      removed = refl;
      loose = subst (λ rows. IsPermutation (loose ++ []) rows) loosed (IsPermutation-refl (loose ++ []));
      owned = finish;
      untouched = subst (λ cs. HasCells new (hs ++ cs)) (sym untouched_are) (has_same new (stays ++ hs) (hs ++ stays) (has_last new after (stays ++ hs) (rest, subst (Owns new) (sym order) now)) (same_swap stays hs));
    }
  where
    s : Spread d loads ended.ids
    s = spread d loads ended.ids ended.fit

    turns : List LeafTurn
    turns = s.turns

    of_loads : (P : LeafLoad → Type 0) → AllByRecursion P loads → AllByRecursion (λ (t : LeafTurn). P t.load) turns
    of_loads P all = map_all P (λ (t : LeafTurn). t.load) turns (subst (AllByRecursion P) (sym s.loads-are) all)

    are : AllByRecursion (IsTurn touched d) turns
    are =
        let Fits : LeafTurn → Type 0 = λ t. is_worked t ≡ true → length t.ids ≡ length (out d t.load.site).pieces in
        let Still : LeafTurn → Type 0 = λ t. IsStillLoad d t.load in
        let Hit : LeafTurn → Type 0 = λ t. touched t.load.site.place.0 ≡ is_worked t in
        every_weaker (λ (t : LeafTurn). (Fits t × Still t) × Hit t) (IsTurn touched d) (λ t three. record { fits = three.0.0; still = three.0.1; hit = three.1 }) turns
        (all_both (λ (t : LeafTurn). Fits t × Still t) Hit turns (all_both Fits Still turns s.fits (of_loads (IsStillLoad d) stills))
        (of_loads (λ load. touched load.site.place.0 ≡ has_parts load.parts) hit))

    loosed : loose ++ [] ≡ flat_map (loose_of zero d) (map (turn_result d) turns)
    loosed =
        let left : LeafLoad → List Row = λ load. cond (has_parts load.parts) (out d load.site).loose [] in
        append-nil loose ∙ ended.loose-are ∙ loose_of_ends d loads ∙ ap (flat_map left) (sym s.loads-are) ∙ flat_map' (λ (t : LeafTurn). t.load) left turns
        ∙ flat_each (IsTurn touched d) (λ (t : LeafTurn). left t.load) (λ t. loose_of zero d (turn_result d t)) (turn_loosed touched d) turns are ∙ sym (flat_map' (turn_result d) (loose_of zero d) turns)

    hs : List Cell
    hs = cells_above d zero root

    before : List Cell
    before = flat_map turn_before turns

    stays : List Cell
    stays = flat_map turn_stays turns

    after : List Cell
    after = flat_map (turn_after d) turns

    under : List Cell
    under = cells_under zero (flat_map (λ (result : Result zero). result.pieces) (map (turn_result d) turns))

    leaves : List Cell
    leaves = map load_cell loads

    single : (ts : List LeafTurn) → map load_cell (map (λ (t : LeafTurn). t.load) ts) ≡ flat_map (λ (t : LeafTurn). load_cell t.load ∷ []) ts
    single [] = refl
    single (t ∷ ts) = ap (λ (cs : List Cell). load_cell t.load ∷ cs) (single ts)

    parted : SameCells leaves (before ++ stays)
    parted =
        same_trans leaves (flat_map (λ (t : LeafTurn). load_cell t.load ∷ []) turns) (before ++ stays) (same_eq leaves (flat_map (λ (t : LeafTurn). load_cell t.load ∷ []) turns) (ap (map load_cell) (sym s.loads-are) ∙ single turns))
        (same_trans (flat_map (λ (t : LeafTurn). load_cell t.load ∷ []) turns) (flat_map (λ t. turn_before t ++ turn_stays t) turns) (before ++ stays)
        (same_each (IsTurn touched d) (λ (t : LeafTurn). load_cell t.load ∷ []) (λ t. turn_before t ++ turn_stays t) (λ t is. turn_start t) turns are) (same_parted turn_before turn_stays turns))

    start : Owns old (before ++ (stays ++ (hs ++ rest)))
    start =
        owned_same old (leaves ++ (hs ++ rest)) (before ++ (stays ++ (hs ++ rest))) owned
        (same_trans (leaves ++ (hs ++ rest)) ((before ++ stays) ++ (hs ++ rest)) (before ++ (stays ++ (hs ++ rest))) (same_append leaves (before ++ stays) (hs ++ rest) (hs ++ rest) parted (λ i. refl))
        (same_eq ((before ++ stays) ++ (hs ++ rest)) (before ++ (stays ++ (hs ++ rest))) (append_assoc before stays (hs ++ rest))))

    touched_cells : flat_map (λ (load : LeafLoad). cond (has_parts load.parts) (load_cell load ∷ []) []) loads ≡ before
    touched_cells =
        ap (flat_map (λ (load : LeafLoad). cond (has_parts load.parts) (load_cell load ∷ []) [])) (sym s.loads-are) ∙ flat_map' (λ (t : LeafTurn). t.load) (λ (load : LeafLoad). cond (has_parts load.parts) (load_cell load ∷ []) []) turns

    now : Owns new (after ++ (stays ++ (hs ++ rest)))
    now =
        subst (λ (cs : List Cell). Owns new (cs ++ (stays ++ (hs ++ rest)))) s.cells-are
        (ended.turned (stays ++ (hs ++ rest)) (subst (λ (cs : List Cell). Owns old (cs ++ (stays ++ (hs ++ rest)))) (sym touched_cells) start))

    order : (after ++ (stays ++ hs)) ++ rest ≡ after ++ (stays ++ (hs ++ rest))
    order = append_assoc after (stays ++ hs) rest ∙ ap (λ cs. after ++ cs) (append_assoc stays hs rest)

    untouched_are : untouched_at touched zero (sites_at d zero root) ≡ stays
    untouched_are =
        let own : Site zero → List Cell = λ site. untouched_cells touched zero site.place in
        ap (flat_map own) (sym sites) ∙ flat_map' (λ (load : LeafLoad). load.site) own loads ∙ ap (flat_map (λ (load : LeafLoad). own load.site)) (sym s.loads-are) ∙ flat_map' (λ (t : LeafTurn). t.load) (λ (load : LeafLoad). own load.site) turns
        ∙ flat_each (IsTurn touched d) (λ (t : LeafTurn). own t.load.site) turn_stays (λ t is. ap (λ (b : Bool). cond b [] (load_cell t.load ∷ [])) is.hit) turns are

    done : SameCells (after ++ stays) under
    done =
        same_trans (after ++ stays) (flat_map (λ t. turn_after d t ++ turn_stays t) turns) under (same_sym (flat_map (λ t. turn_after d t ++ turn_stays t) turns) (after ++ stays) (same_parted (turn_after d) turn_stays turns))
        (same_trans (flat_map (λ t. turn_after d t ++ turn_stays t) turns) (flat_map (λ t. cells_under zero (turn_pieces d t)) turns) under
        (same_each (IsTurn touched d) (λ t. turn_after d t ++ turn_stays t) (λ t. cells_under zero (turn_pieces d t)) (λ t is. turn_end d t) turns are)
        (same_eq (flat_map (λ t. cells_under zero (turn_pieces d t)) turns) under (sym (flat_flat (turn_pieces d) (λ (child : ℕ × Placed zero). cells_of zero child.1) turns) ∙ ap (cells_under zero) (sym (flat_map' (turn_result d) (λ r. r.pieces) turns)))))

    finish : Owns new (hs ++ (cells_under zero (flat_map (λ (result : Result zero). result.pieces) (map (turn_result d) turns)) ++ ([] ++ rest)))
    finish =
        owned_same new (after ++ (stays ++ (hs ++ rest))) (hs ++ (under ++ rest)) now
        (same_trans (after ++ (stays ++ (hs ++ rest))) ((after ++ stays) ++ (hs ++ rest)) (hs ++ (under ++ rest)) (same_eq (after ++ (stays ++ (hs ++ rest))) ((after ++ stays) ++ (hs ++ rest)) (sym (append_assoc after stays (hs ++ rest))))
        (same_trans ((after ++ stays) ++ (hs ++ rest)) (under ++ (hs ++ rest)) (hs ++ (under ++ rest)) (same_append (after ++ stays) under (hs ++ rest) (hs ++ rest) done (λ i. refl)) (same_pass under hs rest)))
