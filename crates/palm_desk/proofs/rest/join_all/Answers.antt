use Rattle.std.proofs.Common.{◌≡◌, ◌<◌, [], ◌∷◌, ◌++◌, length, All, refl, sym, ap, ◌∙◌, subst, arith, length-set}
use Rattle.std.proofs.lemmas.List.{append-nil}
use Rattle.palm_base.specs.Desk.{callers}
use Rattle.palm_desk.specs.Rule.{Holder}
use Rattle.palm_desk.specs.Joining.{AllJoined, CountsOf}
use Rattle.palm_desk.specs.Seats.{DeskState, CallerState}
use Rattle.palm_desk.proofs.Settling.{joined_more, joined_none, counts_more, counts_none, join_ok, shifted, all_but_last, none_left}
use Rattle.palm_desk.proofs.rest.join_all.Goals as goal

pub loop-caller-init : goal.loop-caller-init
loop-caller-init c =
    record {
      table = refl;
      tables = c.requires.desks;
      done = [];
      split = sym (append-nil c.args.callers.items);
      joined = joined_none c.args.seat.now.me.0;
      counts = counts_none c.args.got.now c.args.made.now;
      got_long = refl;
      made_long = refl;
    }

pub bounds-got-caller-inside : goal.bounds-got-caller-inside
bounds-got-caller-inside c =
    let i = c.loop-caller.invariant in
    let parts = all_but_last (λ s. s.desk ≡ c.args.desk.now) c.pop.new.self.items c.in-Some.caller (subst (All (λ s. s.desk ≡ c.args.desk.now)) c.in-Some.ensures.items i.tables) in
    let terms = ap (λ (s : CallerState). s.desk.terms) c.caller.view_is ∙ ap (λ (d : DeskState). d.terms) parts.1 in
    let known = subst (λ k. c.caller.inside.caller < callers k) terms c.caller.invariant.known in
    let long = i.got_long in let g = c.requires.got in omega arith

pub bounds-made-caller-inside : goal.bounds-made-caller-inside
bounds-made-caller-inside c =
    let i = c.loop-caller.invariant in
    let parts = all_but_last (λ s. s.desk ≡ c.args.desk.now) c.pop.new.self.items c.in-Some.caller (subst (All (λ s. s.desk ≡ c.args.desk.now)) c.in-Some.ensures.items i.tables) in
    let terms = ap (λ (s : CallerState). s.desk.terms) c.caller.view_is ∙ ap (λ (d : DeskState). d.terms) parts.1 in
    let known = subst (λ k. c.caller.inside.caller < callers k) terms c.caller.invariant.known in
    let long = i.made_long in let g = c.requires.made in omega arith

pub end_caller-other-requires : goal.end_caller-other-requires
end_caller-other-requires c =
    let i = c.loop-caller.invariant in
    let parts = all_but_last (λ s. s.desk ≡ c.args.desk.now) c.pop.new.self.items c.in-Some.caller (subst (All (λ s. s.desk ≡ c.args.desk.now)) c.in-Some.ensures.items i.tables) in
    parts.1

pub join_seat-requires : goal.join_seat-requires
join_seat-requires c =
    let i = c.loop-caller.invariant in
    let parts = all_but_last (λ s. s.desk ≡ c.args.desk.now) c.pop.new.self.items c.in-Some.caller (subst (All (λ s. s.desk ≡ c.args.desk.now)) c.in-Some.ensures.items i.tables) in
    let at = sym (ap (λ (d : DeskState). d.table) c.desk-in-loop-caller.view_is) in
    let own = i.table ∙ c.requires.table ∙ at in (
      own,
      c.end_caller-other.ensures.table ∙ at,
      c.end_caller-other.ensures.empty,
      subst (λ t. 0 < t.words) (c.requires.table ∙ at) c.requires.view.1,
      join_ok _ _ _ c.args.seat.now.me.0 c.loop-caller.seat.me.0 c.end_caller-other.result.me.0 c.in-Some.caller i.done c.requires.view.0 i.joined c.end_caller-other.ensures.settled,
    )

pub loop-caller-preserved : goal.loop-caller-preserved
loop-caller-preserved c =
    let i = c.loop-caller.invariant in
    let parts = all_but_last (λ s. s.desk ≡ c.args.desk.now) c.pop.new.self.items c.in-Some.caller (subst (All (λ s. s.desk ≡ c.args.desk.now)) c.in-Some.ensures.items i.tables) in
    let terms = ap (λ (s : CallerState). s.desk.terms) c.caller.view_is ∙ ap (λ (d : DeskState). d.terms) parts.1 in
    let known = subst (λ k. c.caller.inside.caller < callers k) terms c.caller.invariant.known in
    let r = c.caller.invariant in
    let who : c.in-Some.caller.caller ≡ c.caller.inside.caller = ap (λ (s : CallerState). s.caller) (sym c.caller.view_is) ∙ r.caller_is in
    let g : c.caller.inside.got ≡ length c.in-Some.caller.collected = sym r.got_is ∙ ap (λ (s : CallerState). length s.collected) c.caller.view_is in
    let m : c.caller.inside.made ≡ length c.in-Some.caller.made = sym r.made_is ∙ ap (λ (s : CallerState). length s.made) c.caller.view_is in
    let got_long = i.got_long in let made_long = i.made_long in let got = c.requires.got in let made = c.requires.made in
    record {
      table = c.join_seat.ensures.0 ∙ i.table;
      tables = parts.0;
      done = c.in-Some.caller ∷ i.done;
      split = i.split ∙ ap (λ l. l ++ i.done) c.in-Some.ensures.items ∙ shifted c.pop.new.self.items c.in-Some.caller i.done;
      joined = joined_more c.args.seat.now.me.0 c.loop-caller.seat.me.0 c.join_seat.new.seat.me.0 c.end_caller-other.result.me.0 c.in-Some.caller i.done i.joined c.end_caller-other.ensures.settled (ap (λ (m : Holder). m.0) c.join_seat.ensures.2);
      counts = counts_more c.in-Some.caller i.done c.loop-caller.got c.loop-caller.made c.caller.inside.caller _ _ who (omega arith) (omega arith) g m i.counts;
      got_long = length-set c.loop-caller.got c.caller.inside.caller c.caller.inside.got ∙ i.got_long;
      made_long = length-set c.loop-caller.made c.caller.inside.caller c.caller.inside.made ∙ i.made_long;
    }

pub returns-clause-joined : goal.returns-clause-joined
returns-clause-joined c =
    let i = c.loop-caller.invariant in
    let none = none_left c.loop-caller.callers.items (let z = c.in_default.ensures.cases.0 in let o = c.loop-caller.callers.ok in omega arith) in
    subst (AllJoined c.args.seat.now.me.0 c.loop-caller.seat.me.0) (sym (i.split ∙ ap (λ l. l ++ i.done) none)) i.joined

pub returns-clause-counts : goal.returns-clause-counts
returns-clause-counts c =
    let i = c.loop-caller.invariant in
    let none = none_left c.loop-caller.callers.items (let z = c.in_default.ensures.cases.0 in let o = c.loop-caller.callers.ok in omega arith) in
    subst (λ l. CountsOf l c.loop-caller.got c.loop-caller.made) (sym (i.split ∙ ap (λ l. l ++ i.done) none)) i.counts
