use Rattle.std.proofs.Common.{◌++◌, ◌-◌, ◌∷◌, [], ℕ, List, filter, sym, ap, arith, ◌∙◌}
use Rattle.std.proofs.lemmas.Result.{on_ok_weaker}
use Rattle.palm_arena.specs.Reads.{map_of}
use Rattle.palm_route.specs.Parts.{is_later}
use Rattle.palm_route.proofs.LaterLows.{later_from}
use Rattle.palm_route.proofs.LowWalks.{node_held, leaf_alone, inner_walked, child_has, child_first, child_done, all_done}
use Rattle.palm_route.proofs.expansion.+append_lows.Goals as goal

pub read-requires : goal.read-requires
read-requires t c = node_held (map_of c.args.arena.now.places) c.args.below c.args.low c.args.id c.requires.node

pub returns-in-Leaf : goal.returns-in-Leaf
returns-in-Leaf t c =
    let lows = leaf_alone (map_of c.args.arena.now.places) c.args.below c.args.low c.args.id c.read.result.now c.in-Leaf.field-0 c.requires.node c.read.ensures.node c.in-Leaf.is in
    record {
      ok = on_ok_weaker c.append_low.result
          (λ appended path. appended ∙ ap (λ (l : List ℕ). c.args.keys.now.items ++ filter (is_later c.args.span.now.from c.args.span.now.to) l) (sym (lows path))) c.append_low.ensures.ok;
    }

pub loop-i-init : goal.loop-i-init
loop-i-init t c path =
    let has = inner_walked (map_of c.args.arena.now.places) c.args.below c.args.low c.args.id c.read.result.now c.in-Inner.inner c.requires.node c.read.ensures.node c.in-Inner.is in
    ap (λ i. c.args.keys.now.items ++ later_from (map_of c.args.arena.now.places) (c.args.below - 1) path c.args.id c.args.span.now.from c.args.span.now.to i (c.args.low ∷ c.in-Inner.inner.separators) c.in-Inner.inner.children) c.route-i.ensures.route
    ∙ ap (λ (l : List ℕ). c.args.keys.now.items ++ l) (sym (has.whole path c.args.span.now.from c.args.span.now.to))

pub low_of_child-first-requires : goal.low_of_child-first-requires
low_of_child-first-requires t c = omega (arith, c.loop-i-test.true, c.route-last.ensures.inside)

pub overflow_sub-below : goal.overflow_sub-below
overflow_sub-below t c =
    let has = inner_walked (map_of c.args.arena.now.places) c.args.below c.args.low c.args.id c.read.result.now c.in-Inner.inner c.requires.node c.read.ensures.node c.in-Inner.is in
    omega (arith, has.one_less)

pub append_lows-requires : goal.append_lows-requires
append_lows-requires t c =
    let has = inner_walked (map_of c.args.arena.now.places) c.args.below c.args.low c.args.id c.read.result.now c.in-Inner.inner c.requires.node c.read.ensures.node c.in-Inner.is in
    (omega (arith, has.one_less, c.decreases), child_has (map_of c.args.arena.now.places) _ _ _ _ c.in-Inner.inner c.loop-i.i c.child.result c.low_of_child-first.result has c.child.ensures c.low_of_child-first.ensures)

pub overflow_add-i : goal.overflow_add-i
overflow_add-i t c =
    let has = inner_walked (map_of c.args.arena.now.places) c.args.below c.args.low c.args.id c.read.result.now c.in-Inner.inner c.requires.node c.read.ensures.node c.in-Inner.is in
    omega (arith, c.loop-i-test.true, c.route-last.ensures.inside, has.few)

pub loop-i-preserved : goal.loop-i-preserved
loop-i-preserved t c path =
    child_done c.args.keys.now.items c.loop-i.keys.items c.append_lows.new.keys.items _ _ _ _ (c.loop-i.invariant path)
    (child_first (map_of c.args.arena.now.places) (c.args.below - 1) path c.args.id c.args.span.now.from c.args.span.now.to c.loop-i.i (c.args.low ∷ c.in-Inner.inner.separators) c.in-Inner.inner.children c.child.result c.low_of_child-first.result
    c.child.ensures c.low_of_child-first.ensures)
    (c.in_ok-append_lows.ensures.ok (path ++ (c.args.id, c.loop-i.i) ∷ []))

pub returns : goal.returns
returns t c =
    let has = inner_walked (map_of c.args.arena.now.places) c.args.below c.args.low c.args.id c.read.result.now c.in-Inner.inner c.requires.node c.read.ensures.node c.in-Inner.is in
    record {
      ok = λ path. all_done c.args.keys.now.items c.loop-i.keys.items _ _ (c.loop-i.invariant path)
          (has.past path c.args.span.now.from c.args.span.now.to c.loop-i.i (omega (arith, c.loop-i-test.false, sym c.route-last.ensures.route)));
    }
