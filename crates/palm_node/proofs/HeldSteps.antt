-- The steps of a path, held as nodes and the places of children, side by side.
use Rattle.std.proofs.Common.{◌≡◌, ℕ, zero, suc, ◌+◌, ◌<◌, List, [], ◌∷◌, ◌++◌, length, take, set, get_or, Some, refl, ap, sym, ◌∙◌, arith}
use Rattle.std.specs.Prelude.{slice_get}
use Rattle.std.specs.List.{zip}
use Rattle.std.proofs.lemmas.List.{get_or-take, length-set, length-take, take_more_set}
use Rattle.std.proofs.lemmas.Option.{slice_get-get_or}
use Rattle.std.proofs.lemmas.Slice.Zip.{length-zip, get_or-zip}
use Rattle.palm_node.specs.PathSteps.{HoldsPath}
use Rattle.palm_node.specs.declared.id.NodeId.{NodeId}
use Rattle.palm_node.specs.declared.path.TheConstants.{MOST_PATH}

-- A path has as many steps as count.
pub length_held : {path : List (NodeId × ℕ)} (nodes : List NodeId) (children : List ℕ) (n : ℕ) → HoldsPath nodes children n
    → take n (zip nodes children) ≡ path → length path ≡ n
length_held nodes children n held view =
    let cut = length-take n (zip nodes children) in
    let both = length-zip nodes children in
    ap length (sym view) ∙ omega (arith, cut, both, held.most, held.nodes_room, held.children_room)

-- The step at a place is the node there, and the child there.
pub step_held : {path : List (NodeId × ℕ)} (nodes : List NodeId) (children : List ℕ) (n i : ℕ) (node : NodeId) → HoldsPath nodes children n
    → take n (zip nodes children) ≡ path → i < n → slice_get path i ≡ Some (get_or nodes i node, get_or children i 0)
step_held nodes children n i node held view inside =
    let steps = zip nodes children in
    let first : get_or (take n steps) i (node, 0) ≡ get_or steps i (node, 0) = get_or-take n steps i (node, 0) inside in
    let whole : get_or steps i (node, 0) ≡ (get_or nodes i node, get_or children i 0) =
    get_or-zip nodes children i (node, 0) (omega (arith, held.most, held.nodes_room)) (omega (arith, held.most, held.children_room)) in
    ap (λ (path : List (NodeId × ℕ)). slice_get path i) (sym view)
    ∙ slice_get-get_or (take n steps) i (node, 0) (omega (arith, length_held nodes children n held refl)) ∙ ap Some (first ∙ whole)

zip_set : (nodes : List NodeId) (children : List ℕ) (i : ℕ) (node : NodeId) (child : ℕ) → i < length nodes → i < length children
    → zip (set nodes i node) (set children i child) ≡ set (zip nodes children) i (node, child)
zip_set [] children i node child nodes_room children_room = absurd (omega arith)
zip_set (n ∷ nodes) [] i node child nodes_room children_room = absurd (omega arith)
zip_set (n ∷ nodes) (c ∷ children) zero node child nodes_room children_room = refl
zip_set (n ∷ nodes) (c ∷ children) (suc i) node child nodes_room children_room =
    ap (λ (steps : List (NodeId × ℕ)). (n, c) ∷ steps) (zip_set nodes children i node child (omega arith) (omega arith))

-- A path with room for one more step has room for its node and its child.
pub room_held : {path : List (NodeId × ℕ)} (nodes : List NodeId) (children : List ℕ) (n : ℕ) → HoldsPath nodes children n
    → take n (zip nodes children) ≡ path → length path < MOST_PATH → n < MOST_PATH
room_held nodes children n held view room = omega (arith, length_held nodes children n held view, room)

-- The node and the child of one more step hold a path too.
pub holds_more : (nodes : List NodeId) (children : List ℕ) (n : ℕ) (node : NodeId) (child : ℕ) → HoldsPath nodes children n → n < MOST_PATH
    → HoldsPath (set nodes n node) (set children n child) (n + 1)
holds_more nodes children n node child held room = record {
  most = omega arith;
  nodes_room = length-set nodes n node ∙ held.nodes_room;
  children_room = length-set children n child ∙ held.children_room;
}

-- That path has the step at its end.
pub push_held : {path : List (NodeId × ℕ)} (nodes : List NodeId) (children : List ℕ) (n : ℕ) (node : NodeId) (child : ℕ) → HoldsPath nodes children n
    → take n (zip nodes children) ≡ path → n < MOST_PATH
    → take (n + 1) (zip (set nodes n node) (set children n child)) ≡ path ++ (node, child) ∷ []
push_held nodes children n node child held view room =
    let steps = zip nodes children in
    let nodes_room : n < length nodes = omega (arith, held.nodes_room) in
    let children_room : n < length children = omega (arith, held.children_room) in
    ap (λ (steps : List (NodeId × ℕ)). take (n + 1) steps) (zip_set nodes children n node child nodes_room children_room)
    ∙ take_more_set steps n (node, child) (omega (arith, length-zip nodes children))
    ∙ ap (λ (path : List (NodeId × ℕ)). path ++ (node, child) ∷ []) view
