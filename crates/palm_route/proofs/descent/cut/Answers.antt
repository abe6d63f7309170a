use Rattle.std.proofs.Common.{◌≡◌, List, [], map, subst, arith, vec_len}
use Rattle.std.proofs.lemmas.List.{append-nil, nil_from_length}
use Rattle.palm_route.specs.declared.part.Part.{Part}
use Rattle.palm_route.specs.Shares.{AreCut, share_of}
use Rattle.palm_route.proofs.descent.cut.Goals as goal

pub returns-clause-shares : goal.returns-clause-shares
returns-clause-shares c =
    let far = c.loop-rest.invariant in
    let all : vec_len c.loop-rest.works ≡ c.args.shares = omega (arith, far.count, c.loop-rest-test.false, c.len.ensures) in
    subst (λ (shares : List (List Part)). AreCut c.args.parts.now shares) (append-nil (map share_of c.loop-rest.works.items))
    (far.more [] (omega (arith, all)) (nil_from_length c.loop-rest.rest.now (far.last all)))
