-- From a node's children's pieces to its own: the values, and the cells.
use Rattle.std.proofs.Common.{◌≡◌, ℕ, suc, Bool, true, false, List, [], ◌∷◌, ◌++◌, length, map, refl, sym, ap, ◌∙◌}
use mathlib.Core.List.{map-append}
use Rattle.std.specs.List.{flat_map, AllByRecursion}
use Rattle.palm_base.specs.Tree.{Subtree}
use Rattle.palm_base.specs.Pass.{Outcome, is_small, inner_outcome, below, pass, pass}
use Rattle.palm_base.specs.declared.bounds.TheConstants.{LEAST_CHILDREN}
use Rattle.palm_node.specs.declared.id.NodeId.{NodeId}
use Rattle.palm_arena.specs.Placed.{Placed, value_in, values, with_ids}
use Rattle.palm_arena.proofs.NamedNodes.{ids_values, nodes_values}
use Rattle.palm_arena.specs.Sites.{Site, sites_below}
use Rattle.palm_arena.specs.Standing.{Result}
use Rattle.palm_arena.proofs.Natural.{inside, small-map}
use Rattle.palm_arena.proofs.SitePasses.{below_sites, site_pass, together}
use Rattle.palm_level.specs.Families.{IsPassed, left_of, pieces_under, gone_of}

-- What a node's children's outcomes come to.
abbrev pub outcome_of_results : (l : ℕ) → List (Result l) → Outcome l
outcome_of_results l rs = record { pieces = flat_map (λ r. (site_pass l r.site).pieces) rs; loose = flat_map (λ r. (site_pass l r.site).loose) rs }

-- The same of the children alone.
pub below_results : (l : ℕ) (s : Site (suc l)) (rs : List (Result l)) → map (λ r. r.site) rs ≡ sites_below l s → below l (pass l) (values l s.place.1) s.edits ≡ outcome_of_results l rs
below_results l s rs e =
    below_sites l s.path s.place.0 0 s.place.1 s.edits
    ∙ ap (λ ss. together l (map (site_pass l) ss)) (sym e)
    ∙ (λ i. record { pieces = pieces_of rs i; loose = loose_of rs i })
  where
    pieces_of : (rs : List (Result l)) → flat_map (λ o. o.pieces) (map (site_pass l) (map (λ r. r.site) rs)) ≡ flat_map (λ r. (site_pass l r.site).pieces) rs
    pieces_of [] = refl
    pieces_of (r ∷ rs) = ap (λ ps. (site_pass l r.site).pieces ++ ps) (pieces_of rs)

    loose_of : (rs : List (Result l)) → flat_map (λ o. o.loose) (map (site_pass l) (map (λ r. r.site) rs)) ≡ flat_map (λ r. (site_pass l r.site).loose) rs
    loose_of [] = refl
    loose_of (r ∷ rs) = ap (λ ps. (site_pass l r.site).loose ++ ps) (loose_of rs)

pub pass_under : (l : ℕ) (s : Site (suc l)) (rs : List (Result l)) → map (λ r. r.site) rs ≡ sites_below l s → site_pass (suc l) s ≡ inner_outcome l s.low (outcome_of_results l rs)
unfolding pass
pass_under l s rs e = ap (inner_outcome l s.low) (below_results l s rs e)

-- The pieces of passed results, one after another.
pub joined_values : (l : ℕ) (rs : List (Result l)) → AllByRecursion (IsPassed l) rs → values l (pieces_under l rs) ≡ (outcome_of_results l rs).pieces
joined_values l [] a = refl
joined_values l (r ∷ rs) a =
    map-append (λ (child : ℕ × Placed l). (child.0, value_in l child.1.1)) r.pieces (pieces_under l rs)
    ∙ ap (λ ps. ps ++ values l (pieces_under l rs)) a.0
    ∙ ap (λ ps. (site_pass l r.site).pieces ++ ps) (joined_values l rs a.1)

-- The node's pieces.
pub parent_right : (l : ℕ) (s : Site (suc l)) (rs : List (Result l)) (ids : List NodeId) → map (λ r. r.site) rs ≡ sites_below l s → AllByRecursion (IsPassed l) rs → length ids ≡ length (left_of s.low (pieces_under l rs))
    → values (suc l) (with_ids ids (left_of s.low (pieces_under l rs))) ≡ (site_pass (suc l) s).pieces
parent_right l s rs ids e a n =
    ids_values l ids (left_of s.low children) n ∙ by (is_small LEAST_CHILDREN children) refl
    ∙ ap (λ ps. (inner_outcome l s.low (record { pieces = ps; loose = o.loose })).pieces) (joined_values l rs a)
    ∙ ap (λ (o : Outcome (suc l)). o.pieces) (sym (pass_under l s rs e))
  where
    children : List (ℕ × Placed l)
    children = pieces_under l rs

    o : Outcome l
    o = outcome_of_results l rs

    by : (b : Bool) → is_small LEAST_CHILDREN children ≡ b → map {B = ℕ × Subtree (suc l)} (inside (value_in (suc l))) (left_of s.low children) ≡ (inner_outcome l s.low (record { pieces = values l children; loose = o.loose })).pieces
    by true q = rw (small-map {B = ℕ × Subtree l} (λ (child : ℕ × Placed l). (child.0, value_in l child.1.1)) LEAST_CHILDREN children, q)
    by false q = rw (small-map {B = ℕ × Subtree l} (λ (child : ℕ × Placed l). (child.0, value_in l child.1.1)) LEAST_CHILDREN children, q) (nodes_values l s.low children)

-- The node's loose rows.
pub parent_loose : (l : ℕ) (s : Site (suc l)) (rs : List (Result l)) → map (λ r. r.site) rs ≡ sites_below l s → AllByRecursion (IsPassed l) rs
    → (site_pass (suc l) s).loose ≡ gone_of l (pieces_under l rs) ++ flat_map (λ r. (site_pass l r.site).loose) rs
parent_loose l s rs e a =
    ap (λ (o : Outcome (suc l)). o.loose) (pass_under l s rs e)
    ∙ ap (λ ps. (inner_outcome l s.low (record { pieces = ps; loose = o.loose })).loose) (sym (joined_values l rs a))
    ∙ by (is_small LEAST_CHILDREN children) refl
  where
    children : List (ℕ × Placed l)
    children = pieces_under l rs

    o : Outcome l
    o = outcome_of_results l rs

    by : (b : Bool) → is_small LEAST_CHILDREN children ≡ b → (inner_outcome l s.low (record { pieces = values l children; loose = o.loose })).loose ≡ gone_of l children ++ o.loose
    by true q = rw (small-map {B = ℕ × Subtree l} (λ (child : ℕ × Placed l). (child.0, value_in l child.1.1)) LEAST_CHILDREN children, q)
    by false q = rw (small-map {B = ℕ × Subtree l} (λ (child : ℕ × Placed l). (child.0, value_in l child.1.1)) LEAST_CHILDREN children, q)
