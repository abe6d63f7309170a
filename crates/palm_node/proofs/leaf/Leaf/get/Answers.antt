use Rattle.std.proofs.Common.{◌≡◌, ℕ, ◌<◌, List, length, get_or, Some, ap, arith, sym, ◌∙◌}
use Rattle.std.proofs.lemmas.List.{get_or_default}
use Rattle.palm_base.specs.Table.{rate_at}
use Rattle.palm_base.specs.declared.row.Row.{Row}
use Rattle.palm_node.proofs.HeldRows.{place_within, rate_at-found, rate_at-none}
use Rattle.palm_node.proofs.leaf.Leaf.get.Goals as goal

pub returns-in_err-place : goal.returns-in_err-place
returns-in_err-place c =
    let held = c.self.invariant in
    let none = rw c.len.ensures.value at c.in_err-place.ensures.none in
    c.from_residual.ensures ∙ sym (rate_at-none c.self.inside.keys c.self.inside.rates.items c.args.key held.prefixes none)
    ∙ ap (λ (rows : List Row). rate_at c.args.key rows) c.self.view_is

pub offset_bounds-deref-place : goal.offset_bounds-deref-place
offset_bounds-deref-place c = omega (arith, place_within c.self.inside.keys c.len.result c.in_ok-place.place c.args.key c.in_ok-place.ensures.found, c.self.invariant.few)

pub bounds-deref-place : goal.bounds-deref-place
bounds-deref-place c = omega (
  arith,
  place_within c.self.inside.keys c.len.result c.in_ok-place.place c.args.key c.in_ok-place.ensures.found,
  ap length c.deref.ensures.0,
)

pub returns : goal.returns
returns c =
    let held = c.self.invariant in
    let place = c.in_ok-place.place in
    let rates = c.self.inside.rates.items in
    let found = rw c.len.ensures.value at c.in_ok-place.ensures.found in
    let inside : place < length rates = place_within c.self.inside.keys (length rates) place c.args.key found in
    let rate : c.index-deref-place.result ≡ get_or rates place 0 =
    c.index-deref-place.is ∙ ap (λ (l : List ℕ). get_or l place c.index-deref-place.result) c.deref.ensures.0
    ∙ get_or_default rates place c.index-deref-place.result 0 inside in
    ap Some rate ∙ sym (rate_at-found c.self.inside.keys rates place c.args.key held.prefixes held.table found)
    ∙ ap (λ (rows : List Row). rate_at c.args.key rows) c.self.view_is
