-- In a lawful tree each node below the root is sound, and the edits that go to it put rows within its bounds.
use Rattle.std.proofs.Common.{◌<◌, ℕ, zero, suc, List, [], ◌∷◌, map, sym, ap, ◌∙◌, arith, subst}
use Rattle.std.specs.List.{filter, AllByRecursion}
use Rattle.palm_base.specs.Tree.{Subtree}
use Rattle.palm_base.specs.Pass.{Outcome, goes_right}
use Rattle.palm_base.specs.Lawful.{next_low, IsIn, Sound, InOrder, Root}
use Rattle.palm_base.specs.declared.call.Call.{Call}
use Rattle.palm_base.proofs.TableSplits.{Adds}
use Rattle.palm_base.proofs.SoundNodes.{low_of}
use Rattle.palm_base.proofs.Passes.{left_edits, right_edits, below_holds, pass_holds}
use Rattle.palm_base.proofs.Every.{every_weaker}
use Rattle.palm_node.specs.declared.id.NodeId.{NodeId}
use Rattle.palm_node.specs.declared.id.Piece.{Piece}
use Rattle.palm_arena.specs.Placed.{Placed, value_in, values, bare}
use Rattle.palm_arena.specs.Sites.{Site, sites_of_children, sites_below, raised, sites_at}
use Rattle.palm_arena.proofs.Natural.{length-map'}
use Rattle.palm_arena.proofs.ListParts.{flat_all}
use Rattle.palm_arena.proofs.OwnedTrees.{first_value}
use Rattle.palm_node.specs.InnerNode.{Rise, later_lows}
use Rattle.palm_level.specs.Families.{Family, IsFull, IsFamily, IsPassed, placed_left}
use Rattle.palm_level.proofs.Parent.{below_results, joined_values}

-- Between some bounds the node at a site is sound, and the edits that go to it put rows there.
abbrev pub SoundSite : (l : ℕ) → Site l → Type 0
SoundSite l site = (lo : ℕ) × (hi : ℕ) × Sound l lo hi (value_in l site.place.1) × AllByRecursion (Adds (IsIn lo hi)) site.edits

-- The same of the children of a node alone.
abbrev ChildrenSite : (l : ℕ) → Site (suc l) → Type 0
ChildrenSite l site = (lo : ℕ) × (hi : ℕ) × InOrder l lo hi (values l site.place.1) × AllByRecursion (Adds (IsIn lo hi)) site.edits

children_sound : (l lo hi : ℕ) (path : List (NodeId × ℕ)) (id : NodeId) (i : ℕ) (children : List (ℕ × Placed l)) (edits : List Call)
    → InOrder l lo hi (values l children) → AllByRecursion (Adds (IsIn lo hi)) edits → AllByRecursion (SoundSite l) (sites_of_children l path id i children edits)
children_sound l lo hi path id i [] edits order adds = tt
children_sound l lo hi path id i (child ∷ []) edits order adds = ((lo, hi, order.0.1, adds), tt)
children_sound l lo hi path id i (child ∷ next ∷ children) edits order adds = (
  (lo, next.0, order.0.1, left_edits lo next.0 hi edits adds),
  children_sound l next.0 hi path id (suc i) (next ∷ children) (filter (goes_right next.0) edits) order.1 (right_edits lo next.0 hi edits adds),
)

below_sound : (l : ℕ) (site : Site (suc l)) → ChildrenSite l site → AllByRecursion (SoundSite l) (sites_below l site)
below_sound l site k = children_sound l k.0 k.1 site.path site.place.0 0 site.place.1 site.edits k.2 k.3

-- The children of the root are so.
abbrev ChildrenAt : (d l : ℕ) → Site (raised (suc l) d) → Type 0
ChildrenAt zero l root = ChildrenSite l root
ChildrenAt (suc d) l root = ChildrenAt d (suc l) root

sites_sound : (d l : ℕ) (root : Site (raised (suc l) d)) → ChildrenAt d l root → AllByRecursion (SoundSite l) (sites_at (suc d) l root)
sites_sound zero l root k = flat_all (SoundSite l) (sites_below l) (root ∷ []) (below_sound l root k, tt)
sites_sound (suc d) l root k =
    flat_all (SoundSite l) (sites_below l) (sites_at (suc d) (suc l) root)
    (every_weaker (SoundSite (suc l)) (λ s. AllByRecursion (SoundSite l) (sites_below l s)) (λ s q. below_sound l s (q.0, q.1, q.2.2, q.3)) (sites_at (suc d) (suc l) root) (sites_sound d (suc l) root k))

root_children : (d l high : ℕ) (root : Site (raised (suc l) d)) → Root (raised (suc l) d) high (value_in (raised (suc l) d) root.place.1)
    → AllByRecursion (Adds (IsIn 0 high)) root.edits → ChildrenAt d l root
root_children zero l high root r adds = (0, high, r.2, adds)
root_children (suc d) l high root r adds = root_children d (suc l) high root r adds

-- In a lawful tree each node of a level below the root is sound.
pub sound_parents : (d l high : ℕ) (root : Site (raised (suc l) d)) → Root (raised (suc l) d) high (value_in (raised (suc l) d) root.place.1)
    → AllByRecursion (Adds (IsIn 0 high)) root.edits → AllByRecursion (SoundSite l) (sites_at (suc d) l root)
sound_parents d l high root r adds = sites_sound d l root (root_children d l high root r adds)

-- So it has as many children as it may.
pub sound_full : (l : ℕ) (s : Site (suc l)) → SoundSite (suc l) s → IsFull l s
sound_full l s k =
    let n = length-map' {B = ℕ × Subtree l} (λ (child : ℕ × Placed l). (child.0, value_in l child.1.1)) s.place.1 in
    let a = k.2.0.0 in let b = k.2.0.1 in
    ((omega (arith, n, a), omega (arith, n, b)), sym (first_value l s.place.1) ∙ k.2.1)

-- ---- the lows of what is left of its children

abbrev lows_of : (l : ℕ) → List (ℕ × Placed l) → List ℕ
lows_of l children = map (λ (piece : Piece). piece.low) (bare children)

lows_above : (l hi b : ℕ) (xs : List (ℕ × Placed l)) → b < next_low low_of hi (values l xs) → InOrder l (next_low low_of hi (values l xs)) hi (values l xs) → AllByRecursion (λ k. b < k) (lows_of l xs)
lows_above l hi b [] less order = tt
lows_above l hi b (x ∷ []) less order = (less, tt)
lows_above l hi b (x ∷ y ∷ ys) less order = let next = order.0.0 in (less, lows_above l hi b (y ∷ ys) (omega (arith, less, next)) order.1)

lows_rise : (l hi : ℕ) (xs : List (ℕ × Placed l)) → InOrder l (next_low low_of hi (values l xs)) hi (values l xs) → Rise (lows_of l xs)
lows_rise l hi [] order = tt
lows_rise l hi (x ∷ []) order = (tt, tt)
lows_rise l hi (x ∷ y ∷ ys) order = (lows_above l hi x.0 (y ∷ ys) order.0.0 order.1, lows_rise l hi (y ∷ ys) order.1)

later_rise : (l lo hi : ℕ) (xs : List (ℕ × Placed l)) → InOrder l lo hi (values l xs) → Rise (later_lows (bare xs))
later_rise l lo hi [] order = tt
later_rise l lo hi (x ∷ xs) order = lows_rise l hi xs order.1

-- The lows of what is left of a sound node's children strictly rise, past the first.
pub left_rises : (l : ℕ) (f : Family l) → SoundSite (suc l) f.parent → IsFamily l f → AllByRecursion (IsPassed l) f.children → Rise (later_lows (bare (placed_left l f)))
left_rises l f k family passed =
    let some = k.2.0.0 in
    let holds = below_holds l (pass_holds l) k.0 k.1 (values l f.parent.place.1) f.parent.edits k.2.2 (omega (arith, some)) k.3 in
    later_rise l k.0 k.1 (placed_left l f)
    (subst (InOrder l k.0 k.1) (ap (λ (o : Outcome l). o.pieces) (below_results l f.parent f.children family) ∙ sym (joined_values l f.children passed)) holds.pieces)
