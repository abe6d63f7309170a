use Rattle.std.proofs.Common.{sym, arith, subst}
use Rattle.std.specs.List.{AllByRecursion, AllZip}
use Rattle.std.proofs.lemmas.List.Elements.{All-from_recursion}
use Rattle.palm_arena.specs.Reads.{map_of}
use Rattle.palm_share.specs.Jobs.{Holds, Relates}
use Rattle.palm_leaf.specs.Lending.{present, LentAre}
use Rattle.palm_leaf.specs.Worked.{IsReady, HasRun}
use Rattle.palm_leaf.proofs.LeavesRun.{all_ready, all_run, some_parts, later_few, done_owned, leaves_done}
use Rattle.palm_leaf.proofs.leaves.work_leaves.Goals as goal

pub run_works-requires-clause-ready : goal.run_works-requires-clause-ready
run_works-requires-clause-ready g c lives bounds =
    let works = c.lend_leaves.new.works.items in
    All-from_recursion (Holds IsReady) works
    (subst (AllByRecursion (Holds IsReady)) c.in-Ok.ensures.works (all_ready (map_of c.args.arena.now.places) c.args.least c.args.groups.now (present works) c.in-Ok.ensures.loaded))

pub give_leaves_back-requires-clause-lent : goal.give_leaves_back-requires-clause-lent
give_leaves_back-requires-clause-lent g c =
    let works = c.lend_leaves.new.works.items in
    let after = c.run_works.new.works.items in
    let run = all_run (map_of c.args.arena.now.places) c.args.least c.args.groups.now (present works) after c.in-Ok.ensures.loaded (subst (λ ws. AllZip (Relates HasRun) ws after) (sym c.in-Ok.ensures.works) c.run_works.ensures.ran) in
    subst (LentAre c.lend_leaves.new.arena.places) (sym run.same) c.lend_leaves.ensures.lent

pub settle_leaves-requires-clause-leaves : goal.settle_leaves-requires-clause-leaves
settle_leaves-requires-clause-leaves g c =
    let start = map_of c.args.arena.now.places in
    let lent = map_of c.lend_leaves.new.arena.places in
    let back = map_of c.give_leaves_back.new.arena.places in
    let groups = c.args.groups.now in
    let works = c.lend_leaves.new.works.items in
    let after = c.run_works.new.works.items in
    let others = c.requires.groups.leaves.0 in
    let run = all_run start c.args.least groups (present works) after c.in-Ok.ensures.loaded (subst (λ ws. AllZip (Relates HasRun) ws after) (sym c.in-Ok.ensures.works) c.run_works.ensures.ran) in (
      others,
      done_owned start lent back c.args.least groups (present after) c.give_leaves_back.new.done.items others run.ends c.requires.groups.leaves.1 c.in-Ok.ensures.turned c.give_leaves_back.ensures.turned
          c.give_leaves_back.ensures.done,
    )

pub returns-in_err-gathered-in-Ok-clause-ticks : goal.returns-in_err-gathered-in-Ok-clause-ticks
returns-in_err-gathered-in-Ok-clause-ticks g c =
    let start = map_of c.args.arena.now.places in
    let groups = c.args.groups.now in
    let works = c.lend_leaves.new.works.items in
    let after = c.run_works.new.works.items in
    let run = all_run start c.args.least groups (present works) after c.in-Ok.ensures.loaded (subst (λ ws. AllZip (Relates HasRun) ws after) (sym c.in-Ok.ensures.works) c.run_works.ensures.ran) in
    let few = later_few start c.args.least groups (present after) run.ends in
    let later = rw c.give_leaves_back.ensures.done at c.settle_leaves.ensures.ticks in
    omega (arith, later, few, c.lend_leaves.ensures.ticks, some_parts groups c.requires.groups.some)

pub returns-in_ok-gathered-in-Ok-clause-ticks : goal.returns-in_ok-gathered-in-Ok-clause-ticks
returns-in_ok-gathered-in-Ok-clause-ticks g c =
    let start = map_of c.args.arena.now.places in
    let groups = c.args.groups.now in
    let works = c.lend_leaves.new.works.items in
    let after = c.run_works.new.works.items in
    let run = all_run start c.args.least groups (present works) after c.in-Ok.ensures.loaded (subst (λ ws. AllZip (Relates HasRun) ws after) (sym c.in-Ok.ensures.works) c.run_works.ensures.ran) in
    let few = later_few start c.args.least groups (present after) run.ends in
    let later = rw c.give_leaves_back.ensures.done at c.settle_leaves.ensures.ticks in
    omega (arith, later, few, c.lend_leaves.ensures.ticks, some_parts groups c.requires.groups.some)

pub returns-in_ok-gathered-in-Ok-clause-done : goal.returns-in_ok-gathered-in-Ok-clause-done
returns-in_ok-gathered-in-Ok-clause-done g c =
    let start = map_of c.args.arena.now.places in
    let lent = map_of c.lend_leaves.new.arena.places in
    let back = map_of c.give_leaves_back.new.arena.places in
    let new = map_of c.settle_leaves.new.arena.places in
    let groups = c.args.groups.now in
    let works = c.lend_leaves.new.works.items in
    let after = c.run_works.new.works.items in
    let run = all_run start c.args.least groups (present works) after c.in-Ok.ensures.loaded (subst (λ ws. AllZip (Relates HasRun) ws after) (sym c.in-Ok.ensures.works) c.run_works.ensures.ran) in
    leaves_done start lent back new c.args.least groups (present after) c.give_leaves_back.new.done.items c.requires.groups.leaves.0 c.in_ok-gathered-in-Ok.gathered c.requires.groups.some run.ends c.requires.groups.leaves.1
    c.in-Ok.ensures.turned c.give_leaves_back.ensures.turned c.give_leaves_back.ensures.done c.in_ok-gathered-in-Ok.ensures.ends c.in_ok-gathered-in-Ok.ensures.answers

pub returns-in-Err-clause-ticks : goal.returns-in-Err-clause-ticks
returns-in-Err-clause-ticks g c = omega (arith, c.lend_leaves.ensures.ticks, some_parts c.args.groups.now c.requires.groups.some)
