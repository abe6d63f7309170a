use Rattle.std.proofs.Common.{◌≡◌, zero, List, [], Some, None, refl, sym, ap, subst, ◌∙◌}
use Rattle.palm_base.specs.declared.row.Row.{Row}
use Rattle.palm_base.proofs.EmptyTree.{empty_is_lawful}
use Rattle.palm_node.specs.declared.id.NodeId.{NodeId}
use Rattle.palm_node.specs.declared.node.Node.TheVariants.{Leaf}
use Rattle.palm_arena.specs.declared.place.Place.{Place}
use Rattle.palm_arena.specs.declared.place.Place.TheVariants.{Holds}
use Rattle.palm_arena.specs.ArenaState.{ArenaState, node_in, with_place, NoneLent}
use Rattle.palm_arena.specs.Reads.{map_of, leaf_in, HasTree}
use Rattle.palm_arena.proofs.Standing.{put_stands, none_lent_after_put}
use Rattle.palm_route.proofs.tests.empty_tree.Goals as goal

-- after the leaf was taken it stands alone
taken_alone : (new begun taken : ArenaState) (id : NodeId) (rows : List Row) (moved : List NodeId) → new ≡ record { places = []; begun = None; moved = [] }
    → begun ≡ record { places = new.places; begun = Some new.places; moved = [] } → rows ≡ []
    → taken ≡ record begun { places = with_place begun.places id (Holds (Leaf rows)); moved = moved }
    → taken.places ≡ with_place [] id (Holds (Leaf []))
taken_alone new begun taken id rows moved a b r t = rw (t, b, a, r) refl

has_tree : (id : NodeId) (places : List Place) → places ≡ with_place [] id (Holds (Leaf [])) → HasTree (map_of places) (record { root = id; levels = 1 })
has_tree id places e = record {
  tree = (zero, []);
  reads-as = (refl, ap (λ (p : List Place). leaf_in (map_of p id)) e ∙ ap (λ p. leaf_in (node_in p)) (put_stands [] id (Holds (Leaf []))));
  lawful = empty_is_lawful (zero, []) refl;
  lows = tt;
}

pub commit-requires-clause-none_lent : goal.commit-requires-clause-none_lent
commit-requires-clause-none_lent g c =
    let alone = taken_alone c.in_ok-arena.arena c.begin.new.self c.take.new.self c.in_ok-root.root c.from_rows.result _ c.in_ok-arena.ensures c.begin.ensures c.from_rows.ensures c.in_ok-root.ensures.ok in
    subst NoneLent (sym alone) (none_lent_after_put [] c.in_ok-root.root (Holds (Leaf [])) (λ lent. absurd cc) (λ other lent. absurd cc))

pub returns : goal.returns
returns g c =
    let alone = taken_alone c.in_ok-arena.arena c.begin.new.self c.take.new.self c.in_ok-root.root c.from_rows.result _ c.in_ok-arena.ensures c.begin.ensures c.from_rows.ensures c.in_ok-root.ensures.ok in
    has_tree c.in_ok-root.root c.commit.new.self.places (ap (λ (a : ArenaState). a.places) c.commit.ensures.committed ∙ alone)
