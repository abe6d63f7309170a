use Rattle.std.proofs.Common.{◌≡◌, ◌-◌, ap, arith, length, ◌∙◌}
use Rattle.std.specs.Vec.{vec_len}
use Rattle.palm_route.specs.declared.part.Routed.{Routed}
use Rattle.palm_route.proofs.CutShares.{last_set, last_read}
use Rattle.palm_route.proofs.descent.route.Goals as goal

pub returns-clause-ok : goal.returns-clause-ok
returns-clause-ok c =
    let items = c.args.routed.now.items in
    let first = c.at_root.result in
    let last = c.in-Some.last.now in
    let n : vec_len c.push_reserved.new.self - 1 ≡ length items = omega (arith, c.push_reserved.ensures.len, c.args.routed.now.ok.0) in
    let same : last ≡ first =
    c.in-Some.ensures.value ∙ rw c.push_reserved.ensures.items (last_read items first last (vec_len c.push_reserved.new.self - 1) n) in (
      c.walk.new.routed,
      rw c.push_reserved.ensures.items (last_set items first c.walk.new.routed (vec_len c.push_reserved.new.self - 1) n),
      c.walk.ensures.part ∙ ap (λ (r : Routed). r.part) (same ∙ c.at_root.ensures),
      c.walk.ensures.routed,
    )
