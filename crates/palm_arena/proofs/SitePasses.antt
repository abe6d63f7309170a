-- What the serial rule makes of a node, by the sites of its children.
use Rattle.std.proofs.Common.{◌≡◌, ℕ, zero, suc, List, [], ◌∷◌, map, refl}
use Rattle.std.specs.List.{flat_map, filter}
use Rattle.std.proofs.lemmas.List.{append-nil}
use Rattle.palm_base.specs.Pass.{Outcome, goes_right, below, pass}
use Rattle.palm_base.specs.declared.call.Call.{Call}
use Rattle.palm_node.specs.declared.id.NodeId.{NodeId}
use Rattle.palm_arena.specs.Placed.{Placed, value_in, values}
use Rattle.palm_arena.specs.Sites.{Site, sites_of_children, outcome_at}

-- The node at a site, passed.
abbrev pub site_pass : (l : ℕ) → Site l → Outcome l
site_pass l site = pass l site.low (value_in l site.place.1) site.edits

-- Outcomes side by side, in order.
abbrev pub together : (n : ℕ) → List (Outcome n) → Outcome n
together n outcomes = record { pieces = flat_map (λ outcome. outcome.pieces) outcomes; loose = flat_map (λ outcome. outcome.loose) outcomes }

-- Below a root every node is passed.
pub outcome_below : (l d : ℕ) (site : Site l) → outcome_at l (suc d) site ≡ site_pass l site
outcome_below zero d site = refl
outcome_below (suc l) d site = refl

-- What becomes of children is what becomes of each at its site, side by side.
pub below_sites : (l : ℕ) (path : List (NodeId × ℕ)) (id : NodeId) (i : ℕ) (children : List (ℕ × Placed l)) (edits : List Call)
    → below l (pass l) (values l children) edits ≡ together l (map (site_pass l) (sites_of_children l path id i children edits))
below_sites l path id i [] edits = refl
below_sites l path id i (child ∷ []) edits = simp append-nil
below_sites l path id i (child ∷ next ∷ children) edits = rw (below_sites l path id (suc i) (next ∷ children) (filter (goes_right next.0) edits))
