use Rattle.std.proofs.Common.{◌≡◌, length, map, subst, ap, arith, ◌∙◌}
use Rattle.std.specs.List.{AllZip}
use Rattle.std.proofs.lemmas.List.Elements.{All-from_recursion}
use Rattle.palm_share.specs.Jobs.{Holds, Relates}
use Rattle.palm_route.specs.Shares.{AreCut, share_of}
use Rattle.palm_share.proofs.RunItems.{whole_written}
use Rattle.palm_share.proofs.RunItems.{all_there}
use Rattle.palm_route.proofs.CutShares.{Ran, are_routed, routed_count}
use Rattle.palm_route.proofs.descent.descend.Goals as goal

pub join-requires-clause-there : goal.join-requires-clause-there
join-requires-clause-there g c =
    let old = c.in_ok-works.works in
    let whole = whole_written old.items c.each_mut.new.items old.len old.ok.0 (c.each_mut.ensures.len ∙ ap length c.as_mut_slice.ensures.value) in
    rw whole (All-from_recursion (Holds (λ _. Unit {0})) c.each_mut.new.items (all_there Ran c.as_mut_slice.result.now c.each_mut.new.items c.each_mut.ensures.ran))

pub join-requires-clause-room : goal.join-requires-clause-room
join-requires-clause-room g c =
    let old = c.in_ok-works.works in
    let new = c.each_mut.new.items in
    let parts = c.args.parts in
    let count : length new ≡ length old.items = c.each_mut.ensures.len ∙ ap length c.as_mut_slice.ensures.value in
    let ran : AllZip (Relates Ran) old.items new = subst (λ l. AllZip (Relates Ran) l new) c.as_mut_slice.ensures.value c.each_mut.ensures.ran in
    let cut : AreCut parts (map share_of old.items) = subst (λ l. AreCut l (map share_of old.items)) c.as_slice.ensures c.in_ok-works.ensures.shares in
    let whole = whole_written old.items new old.len old.ok.0 count in
    let total = routed_count c.args.arena.now c.args.shape parts old.items new cut c.in_ok-works.ensures.begin ran in
    rw whole (λ other.
    let enough = c.room_beside.ensures (λ one. other (omega (arith, one, count, c.in_ok-works.ensures.count, old.ok.0))) in
    omega (arith, total, enough, c.len-2.ensures, c.in_ok-room.ensures.capacity))

pub returns : goal.returns
returns g c =
    let old = c.in_ok-works.works in
    let new = c.each_mut.new.items in
    let ran : AllZip (Relates Ran) old.items new = subst (λ l. AllZip (Relates Ran) l new) c.as_mut_slice.ensures.value c.each_mut.ensures.ran in
    let cut : AreCut c.args.parts (map share_of old.items) = subst (λ l. AreCut l (map share_of old.items)) c.as_slice.ensures c.in_ok-works.ensures.shares in
    let all = are_routed c.args.arena.now c.args.shape c.args.parts old.items new cut c.in_ok-works.ensures.begin ran in
    let whole = whole_written old.items new old.len old.ok.0 (c.each_mut.ensures.len ∙ ap length c.as_mut_slice.ensures.value) in
    record { parts = rw (c.from_vec.ensures, c.join.ensures, whole) all.same; routed = rw (c.from_vec.ensures, c.join.ensures, whole) all.at_leaves }
