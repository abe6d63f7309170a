-- A pass through a lawful tree sends each edit to the last child whose low is at most its key.
use Rattle.std.proofs.Common.{◌≡◌, ℕ, zero, suc, List, [], ◌∷◌, filter, refl, ap, ◌∙◌}
use Rattle.std.specs.List.{AllByRecursion}
use Rattle.palm_base.specs.Tree.{Subtree}
use Rattle.palm_base.specs.Pass.{goes_left, goes_right, joined, below, inner_outcome, pass, base_pass}
use Rattle.palm_base.specs.Literal.{pass_by_place, base_pass_by_place, IsNode, IsRoot}
use Rattle.palm_base.specs.FurtherLaws.{PassesGoByPlace}
use Rattle.palm_base.proofs.LiteralPlaces.{edits_go_by_place}
use Rattle.palm_base.proofs.LiteralTrees.{root_to}
use Rattle.palm_base.specs.declared.call.Call.{Call}

abbrev PassAgrees : ℕ → Type 0
PassAgrees n = (low : ℕ) (node : Subtree n) (edits : List Call) → IsNode n node → pass n low node edits ≡ pass_by_place n low node edits

-- What becomes of children goes by what becomes of each.
below_agrees : (n : ℕ) → PassAgrees n → (children : List (ℕ × Subtree n)) (edits : List Call) → AllByRecursion (λ child. IsNode n child.1) children
    → below n (pass n) children edits ≡ below n (pass_by_place n) children edits
below_agrees n agrees [] edits nodes = refl
below_agrees n agrees (child ∷ []) edits nodes = agrees child.0 child.1 edits nodes.0
below_agrees n agrees (child ∷ next ∷ children) edits nodes =
    ap (λ left. joined left (below n (pass n) (next ∷ children) (filter (goes_right next.0) edits)))
    (agrees child.0 child.1 (filter (goes_left next.0) edits) nodes.0)
    ∙ ap (joined (pass_by_place n child.0 child.1 (filter (goes_left next.0) edits))) (below_agrees n agrees (next ∷ children) (filter (goes_right next.0) edits) nodes.1)

pass_agrees : (n : ℕ) → PassAgrees n
unfolding pass pass_by_place
pass_agrees zero low rows edits node = refl
pass_agrees (suc n) low children edits node =
    ap (inner_outcome n low) (below_agrees n (pass_agrees n) children edits node.2 ∙ edits_go_by_place n (pass_by_place n) children edits node.1.lows)

base_agrees : (n : ℕ) (node : Subtree n) (edits : List Call) → IsRoot n node → base_pass n node edits ≡ base_pass_by_place n node edits
base_agrees zero rows edits root = refl
base_agrees (suc n) children edits root =
    below_agrees n (pass_agrees n) children edits root.2 ∙ edits_go_by_place n (pass_by_place n) children edits root.1.lows

pub passes_go_by_place : PassesGoByPlace
passes_go_by_place tree edits lawful = let root = root_to tree.0 lawful.0 tree.1 lawful.1 in base_agrees tree.0 tree.1 edits root.0
