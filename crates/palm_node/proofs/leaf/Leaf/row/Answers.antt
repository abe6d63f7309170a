use Rattle.std.proofs.Common.{◌≡◌, ℕ, ◌<◌, List, length, get_or, ap, sym, ◌∙◌, arith}
use Rattle.std.specs.Prelude.{slice_get}
use Rattle.std.proofs.lemmas.List.{get_or_default}
use Rattle.palm_base.specs.Key.{IsKey}
use Rattle.palm_base.specs.declared.row.Row.{Row}
use Rattle.palm_node.proofs.HeldRows.{length_held, front_at, rows_of-at}
use Rattle.palm_node.proofs.leaf.Leaf.row.Goals as goal

pub offset_bounds-deref-i : goal.offset_bounds-deref-i
offset_bounds-deref-i c = omega (arith, c.self.invariant.few, length_held _ _ c.self.invariant c.self.view_is)

pub bounds-deref-i : goal.bounds-deref-i
bounds-deref-i c = omega (arith, ap length c.deref.ensures.0, length_held _ _ c.self.invariant c.self.view_is)

pub offset_bounds-self-inside-i : goal.offset_bounds-self-inside-i
offset_bounds-self-inside-i c = omega (arith, c.self.invariant.few, length_held _ _ c.self.invariant c.self.view_is)

pub bounds-self-inside-i : goal.bounds-self-inside-i
bounds-self-inside-i c = omega (arith, c.self.invariant.few, length_held _ _ c.self.invariant c.self.view_is)

pub of_key-requires : goal.of_key-requires
of_key-requires c =
    let held = c.self.invariant in
    front_at IsKey (length c.self.inside.rates.items) c.self.inside.keys c.args.i 0 (omega (arith, held.room, held.few))
    (omega (arith, length_held _ _ held c.self.view_is)) held.prefixes

pub returns : goal.returns
returns c =
    let held = c.self.invariant in
    let i = c.args.i in
    let rates = c.self.inside.rates.items in
    let inside : i < length rates = omega (arith, length_held _ _ held c.self.view_is) in
    let rate : c.index-deref-i.result ≡ get_or rates i 0 =
    c.index-deref-i.is ∙ ap (λ (l : List ℕ). get_or l i c.index-deref-i.result) c.deref.ensures.0 ∙ get_or_default rates i c.index-deref-i.result 0 inside in
    ap (λ (rows : List Row). slice_get rows i) (sym c.self.view_is)
    ∙ rows_of-at c.self.inside.keys rates i (omega (arith, held.room, held.few)) inside
    ∙ cc (rate, c.of_key.ensures)
