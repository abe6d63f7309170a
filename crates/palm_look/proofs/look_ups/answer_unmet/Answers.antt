use Rattle.std.proofs.Common.{◌≡◌, List, length, map, subst, sym, ap, ◌∙◌}
use Rattle.std.specs.List.{AllZip, AllByRecursion, flat_map}
use Rattle.std.proofs.lemmas.List.Elements.{All-from_recursion}
use Rattle.palm_share.specs.Jobs.{Holds, Relates}
use Rattle.palm_share.proofs.RunItems.{all_there, whole_written}
use Rattle.palm_base.specs.Tree.{rows_of}
use Rattle.palm_tree.specs.TreeValue.{tree_in, TreeState}
use Rattle.palm_base.specs.History.{replies_to}
use Rattle.palm_base.specs.Lawful.{IsLawful}
use Rattle.palm_base.specs.Lows.{LowsAreKeys}
use Rattle.palm_look.specs.Unmet.{IsKnown, IsKnownUnlessMet}
use Rattle.palm_look.specs.Shares.{answers_of}
use Rattle.palm_look.proofs.UnmetReplies.{all_known, all_unless_met, fair_tree}
use Rattle.palm_look.proofs.JudgedShares.{Ran, IsOf, batch_judged, joined_hold}
use Rattle.palm_look.proofs.look_ups.answer_unmet.Goals as goal

pub join-requires : goal.join-requires
join-requires g c =
    let old = c.in_ok-works.works in
    let new = c.each_mut.new.items in
    let whole = whole_written old.items new old.len old.ok.0 (c.each_mut.ensures.len ∙ ap length c.as_mut_slice.ensures.value) in
    record { there = rw whole (All-from_recursion (Holds (λ _. Unit {0})) new (all_there Ran c.as_mut_slice.result.now new c.each_mut.ensures.ran)) }

pub returns-clause-known : goal.returns-clause-known
returns-clause-known g c =
    let old = c.in_ok-works.works in
    let new = c.each_mut.new.items in
    let keys = c.in_ok-keys.keys.items in
    let tree = c.args.tree.now in
    let rows = rows_of (tree_in tree) in
    let batch = c.args.batch.now in
    let whole = whole_written old.items new old.len old.ok.0 (c.each_mut.ensures.len ∙ ap length c.as_mut_slice.ensures.value) in
    let begin = subst (λ ks. AllByRecursion (Holds (IsOf tree ks)) old.items) c.deref.ensures.value c.in_ok-works.ensures.begin in
    let ran : AllZip (Relates Ran) old.items new = subst (λ l. AllZip (Relates Ran) l new) c.as_mut_slice.ensures.value c.each_mut.ensures.ran in
    let lawful = subst (λ (s : TreeState). IsLawful (tree_in s)) c.tree.view_is c.tree.invariant.lawful in
    let lows = subst (λ (s : TreeState). LowsAreKeys (tree_in s)) c.tree.view_is c.tree.invariant.lows in
    let fair = fair_tree (tree_in tree) batch lawful lows c.in_ok-keys.ensures.prefixes in
    joined_hold (λ answers. AllZip IsKnown answers (replies_to rows batch)) new c.join.result (rw whole at c.join.ensures.answers) (rw whole at c.join.ensures.done)
    (λ done. all_known rows batch keys (flat_map answers_of new) fair c.in_ok-keys.ensures.keys
    (batch_judged tree keys batch c.in_ok-shares.shares.items old.items new c.in_ok-shares.ensures.whole c.in_ok-works.ensures.entries begin ran done))

pub returns-clause-unmet : goal.returns-clause-unmet
returns-clause-unmet g c =
    let old = c.in_ok-works.works in
    let new = c.each_mut.new.items in
    let keys = c.in_ok-keys.keys.items in
    let tree = c.args.tree.now in
    let rows = rows_of (tree_in tree) in
    let batch = c.args.batch.now in
    let whole = whole_written old.items new old.len old.ok.0 (c.each_mut.ensures.len ∙ ap length c.as_mut_slice.ensures.value) in
    let begin = subst (λ ks. AllByRecursion (Holds (IsOf tree ks)) old.items) c.deref.ensures.value c.in_ok-works.ensures.begin in
    let ran : AllZip (Relates Ran) old.items new = subst (λ l. AllZip (Relates Ran) l new) c.as_mut_slice.ensures.value c.each_mut.ensures.ran in
    joined_hold (λ answers. AllZip (IsKnownUnlessMet rows batch) answers batch) new c.join.result (rw whole at c.join.ensures.answers) (rw whole at c.join.ensures.done)
    (λ done. all_unless_met rows batch keys (flat_map answers_of new) c.in_ok-keys.ensures.keys
    (batch_judged tree keys batch c.in_ok-shares.shares.items old.items new c.in_ok-shares.ensures.whole c.in_ok-works.ensures.entries begin ran done))
