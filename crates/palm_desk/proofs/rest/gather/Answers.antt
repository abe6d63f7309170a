use Rattle.std.proofs.Common.{◌+◌, length, refl, ap, ◌∙◌, subst, arith, length-set}
use Rattle.palm_desk.specs.Leftovers.{FindsFirst}
use Rattle.palm_desk.proofs.GatherSteps.{begins, found, found_none, in_words, has_reply, has_call, put, fewer, one_more, some_left, few_left, read_within, got_long}
use Rattle.palm_desk.proofs.rest.gather.Goals as goal

pub loop-caller-init : goal.loop-caller-init
loop-caller-init c =
    let s = c.requires.start.1 in
    let w = ap length s.waiting in let u = ap length s.unread in
    record {
      long = refl;
      made = refl;
      gathered = λ x s. (0, begins x _ _ _ _ c.args.left.now s);
      count = omega arith;
      waiting_room = refl;
      unread_room = refl;
    }

pub put_down-requires-clause-room : goal.put_down-requires-clause-room
put_down-requires-clause-room c =
    let i = c.loop-caller.invariant in let x = c.requires.start.0 in let s = c.requires.start.1 in
    let g = i.gathered x s in
    let first = found x _ _ _ _ c.args.left.now c.loop-caller.left s g.0 g.1 i.long i.made _ _ c.in-Some.caller c.in-Some.number c.deref.ensures.value c.deref-in-loop-caller.ensures.value c.in-Some.ensures in
    let turn = read_within c.loop-caller.left.got.items c.in-Some.caller _ c.index-turn.result.now c.index-turn.result.now first.inside (got_long x _ _ _ _ c.args.left.now c.loop-caller.left s g.0 g.1 i.long i.made) c.index-turn.ensures in
    let left = some_left x _ _ _ _ c.args.left.now c.loop-caller.left s g.0 g.1 i.long i.made c.in-Some.caller c.in-Some.number c.index-turn.result.now first turn in
    let most = few_left x _ _ _ _ c.args.left.now s in
    let count = i.count in let w = i.waiting_room in let u = i.unread_room in let w' = s.waiting_room in let u' = s.unread_room in
    (omega arith, omega arith)

pub put_down-requires-clause-words : goal.put_down-requires-clause-words
put_down-requires-clause-words c =
    let i = c.loop-caller.invariant in let x = c.requires.start.0 in let s = c.requires.start.1 in
    let g = i.gathered x s in
    let first = found x _ _ _ _ c.args.left.now c.loop-caller.left s g.0 g.1 i.long i.made _ _ c.in-Some.caller c.in-Some.number c.deref.ensures.value c.deref-in-loop-caller.ensures.value c.in-Some.ensures in
    let turn = read_within c.loop-caller.left.got.items c.in-Some.caller _ c.index-turn.result.now c.index-turn.result.now first.inside (got_long x _ _ _ _ c.args.left.now c.loop-caller.left s g.0 g.1 i.long i.made) c.index-turn.ensures in
    let in_range = in_words x _ _ _ _ c.args.left.now c.loop-caller.left s g.0 g.1 i.long i.made c.in-Some.caller c.in-Some.number c.index-turn.result.now first turn in
    let ok = c.args.closed.now.words.ok in
    (c.requires.full, omega (arith, ok.0, ok.1, in_range.0), in_range.1)

pub put_down-requires-clause-reply : goal.put_down-requires-clause-reply
put_down-requires-clause-reply c =
    let i = c.loop-caller.invariant in let x = c.requires.start.0 in let s = c.requires.start.1 in
    let g = i.gathered x s in
    let first = found x _ _ _ _ c.args.left.now c.loop-caller.left s g.0 g.1 i.long i.made _ _ c.in-Some.caller c.in-Some.number c.deref.ensures.value c.deref-in-loop-caller.ensures.value c.in-Some.ensures in
    let turn = read_within c.loop-caller.left.got.items c.in-Some.caller _ c.index-turn.result.now c.index-turn.result.now first.inside (got_long x _ _ _ _ c.args.left.now c.loop-caller.left s g.0 g.1 i.long i.made) c.index-turn.ensures in
    has_reply x _ _ _ _ c.args.left.now c.loop-caller.left s g.0 g.1 i.long i.made c.in-Some.caller c.in-Some.number c.index-turn.result.now first turn

pub put_down-requires-clause-call : goal.put_down-requires-clause-call
put_down-requires-clause-call c =
    let i = c.loop-caller.invariant in let x = c.requires.start.0 in let s = c.requires.start.1 in
    let g = i.gathered x s in
    let first = found x _ _ _ _ c.args.left.now c.loop-caller.left s g.0 g.1 i.long i.made _ _ c.in-Some.caller c.in-Some.number c.deref.ensures.value c.deref-in-loop-caller.ensures.value c.in-Some.ensures in
    let turn = read_within c.loop-caller.left.got.items c.in-Some.caller _ c.index-turn.result.now c.index-turn.result.now first.inside (got_long x _ _ _ _ c.args.left.now c.loop-caller.left s g.0 g.1 i.long i.made) c.index-turn.ensures in
    λ _. has_call x _ _ _ _ c.args.left.now c.loop-caller.left s g.0 g.1 i.long i.made c.in-Some.caller c.in-Some.number c.index-turn.result.now first turn

pub loop-caller-smaller : goal.loop-caller-smaller
loop-caller-smaller c =
    let i = c.loop-caller.invariant in let x = c.requires.start.0 in let s = c.requires.start.1 in
    let g = i.gathered x s in
    let first = found x _ _ _ _ c.args.left.now c.loop-caller.left s g.0 g.1 i.long i.made _ _ c.in-Some.caller c.in-Some.number c.deref.ensures.value c.deref-in-loop-caller.ensures.value c.in-Some.ensures in
    let turn = read_within c.loop-caller.left.got.items c.in-Some.caller _ c.index-turn.result.now c.index-turn.result.now first.inside (got_long x _ _ _ _ c.args.left.now c.loop-caller.left s g.0 g.1 i.long i.made) c.index-turn.ensures in
    let less = fewer x _ _ _ _ c.args.left.now c.loop-caller.left s g.0 g.1 i.long i.made c.in-Some.caller c.in-Some.number c.index-turn.result.now first turn c.put_down.new.left 0 c.put_down.ensures.counts in
    omega (arith, less)

pub loop-caller-preserved : goal.loop-caller-preserved
loop-caller-preserved c =
    let i = c.loop-caller.invariant in let x = c.requires.start.0 in let s = c.requires.start.1 in
    let g = i.gathered x s in
    let first = found x _ _ _ _ c.args.left.now c.loop-caller.left s g.0 g.1 i.long i.made _ _ c.in-Some.caller c.in-Some.number c.deref.ensures.value c.deref-in-loop-caller.ensures.value c.in-Some.ensures in
    let turn = read_within c.loop-caller.left.got.items c.in-Some.caller _ c.index-turn.result.now c.index-turn.result.now first.inside (got_long x _ _ _ _ c.args.left.now c.loop-caller.left s g.0 g.1 i.long i.made) c.index-turn.ensures in
    let keeps = c.put_down.ensures.counts in
    let less = fewer x _ _ _ _ c.args.left.now c.loop-caller.left s g.0 g.1 i.long i.made c.in-Some.caller c.in-Some.number c.index-turn.result.now first turn c.put_down.new.left 0 keeps in
    let more = one_more x _ _ _ _ c.args.left.now c.loop-caller.left s g.0 g.1 i.long i.made c.in-Some.caller c.in-Some.number c.index-turn.result.now first turn c.put_down.new.left _ c.put_down.ensures.unread c.put_down.ensures.waiting in
    let count = i.count in
    record {
      long = length-set c.put_down.new.left.got.items c.in-Some.caller (c.index-turn.result.now + 1) ∙ ap length keeps.got ∙ i.long;
      made = keeps.made ∙ i.made;
      gathered = λ x s.
          let g = i.gathered x s in
          let first = found x _ _ _ _ c.args.left.now c.loop-caller.left s g.0 g.1 i.long i.made _ _ c.in-Some.caller c.in-Some.number c.deref.ensures.value c.deref-in-loop-caller.ensures.value c.in-Some.ensures in
          let turn = read_within c.loop-caller.left.got.items c.in-Some.caller _ c.index-turn.result.now c.index-turn.result.now first.inside (got_long x _ _ _ _ c.args.left.now c.loop-caller.left s g.0 g.1 i.long i.made) c.index-turn.ensures in
          put x _ _ _ _ c.args.left.now c.loop-caller.left s g.0 g.1 i.long i.made c.in-Some.caller c.in-Some.number c.index-turn.result.now first turn c.put_down.new.left _ refl keeps c.put_down.ensures.unread c.put_down.ensures.waiting;
      count = omega (arith, less, more, count);
      waiting_room = keeps.waiting_room ∙ i.waiting_room;
      unread_room = keeps.unread_room ∙ i.unread_room;
    }

pub returns-clause-waiting : goal.returns-clause-waiting
returns-clause-waiting c x s =
    let i = c.loop-caller.invariant in
    let g = i.gathered x s in
    (found_none x _ _ _ _ c.args.left.now c.loop-caller.left s g.0 g.1 i.long i.made _ _ c.deref.ensures.value c.deref-in-loop-caller.ensures.value (subst (FindsFirst _ _ _ _ _) c.in_default.is c.first_left.ensures)).0

pub returns-clause-unread : goal.returns-clause-unread
returns-clause-unread c x s =
    let i = c.loop-caller.invariant in
    let g = i.gathered x s in
    (found_none x _ _ _ _ c.args.left.now c.loop-caller.left s g.0 g.1 i.long i.made _ _ c.deref.ensures.value c.deref-in-loop-caller.ensures.value (subst (FindsFirst _ _ _ _ _) c.in_default.is c.first_left.ensures)).1
