use Rattle.std.proofs.Common.{ap, ◌∙◌, subst, ◌+◌, refl}
use Rattle.palm_arena.specs.ArenaState.{place_at}
use Rattle.palm_level.specs.Tasks.{TaskIsLent, WorkIsLent, times_in, times_worked, lent_at}
use Rattle.palm_level.proofs.Taking.{home_given, stays_same}
use Rattle.palm_level.proofs.task.give.Goals as goal

pub returns-clause-home : goal.returns-clause-home
returns-clause-home c = λ id.
    let lent = subst (WorkIsLent c.args.arena.now.places) c.in-Some-work.is (subst (TaskIsLent c.args.arena.now.places) c.in-Some.is c.requires) in
    let home = home_given c.args.arena.now c.give_back.new.self c.give_back.new.self c.in-Some-work.work lent c.give_back.ensures (stays_same c.give_back.new.self c.give_back.new.self refl) in
    ap (λ n. lent_at (place_at c.give_back.new.self.places id) + n) (ap (times_in id) c.in-Some.is ∙ ap (times_worked id) c.in-Some-work.is) ∙ home id
