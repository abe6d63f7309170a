use Rattle.std.proofs.Common.{◌==◌, ◌<◌, ◌≤◌, length, sym, ◌∙◌, arith, take}
use Rattle.std.proofs.lemmas.List.{length-take-le}
use Rattle.palm_lanes.proofs.Places.{key_at_lowest, no_key_where_zero, first_at_lowest, first_where_zero}
use Rattle.palm_lanes.proofs.search.find.Goals as goal

pub returns-then-places-eq0 : goal.returns-then-places-eq0
returns-then-places-eq0 c =
    let keys = take c.args.len c.args.keys.now in
    let none = sym c.places_of-places.ensures ∙ c.if-places-eq0.true in
    record { found = tt; none = no_key_where_zero c.args.key keys none; first = first_where_zero (λ k. k == c.args.key) keys none }

pub returns-else-places-eq0 : goal.returns-else-places-eq0
returns-else-places-eq0 c =
    let keys = take c.args.len c.args.keys.now in
    let places = c.places_of-places.result in
    let is = c.places_of-places.ensures in
    let some : 0 < places = omega (arith, c.if-places-eq0.false) in
    let short : length keys ≤ 64 = omega (arith, length-take-le c.args.len c.args.keys.now (omega (arith, c.told-keys, c.requires))) in
    let found = key_at_lowest c.args.key keys places is some c.places_of-places.type_inv in
    record { found = found; none = tt; first = first_at_lowest (λ k. k == c.args.key) keys places c.args.key is some short found }
