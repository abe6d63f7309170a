use Rattle.std.proofs.Common.{◌≡◌, ◌++◌, ◌∷◌, [], length, arith, ap, ◌∙◌}
use Rattle.palm_arena.specs.declared.place.Place.TheVariants.{Holds}
use Rattle.palm_arena.proofs.Putting.{appended}
use Rattle.palm_arena.proofs.arena.append.Goals as goal

pub returns-clause-ok : goal.returns-clause-ok
returns-clause-ok c =
    let end : c.len.result ≡ length c.args.places.now.items = omega arith in
    appended _ _ _ _ _ _ end c.requires.marks c.in_ok-append.ensures.ok (c.push_reserved.ensures.items ∙ ap (λ l. l ++ Holds c.args.node ∷ []) c.reserve.ensures.items)
