use Rattle.std.proofs.Common.{◌+◌, ◌*◌, ◌%◌, ◌<◌, [], ◌∷◌, slice_set, sym, refl, ap, ◌∙◌, subst, arith}
use Rattle.palm_desk.specs.Seats.{DeskState, CallerState}
use Rattle.palm_desk.specs.Holding.{CallerIsReady}
use Rattle.palm_desk.proofs.Submitting.{at_first, on_draft, on_arrive, draft_ok, arrive_ok, post_ok, on_post, in_words, all_stored}
use Rattle.palm_desk.proofs.caller.CallerSeat.submit.Goals as goal

pub store-requires : goal.store-requires
store-requires c =
    let s = c.self.inside.seat in let t = c.self.inside in let r = c.self.invariant in
    let own = ap (λ (d : DeskState). d.table) (ap (λ (v : CallerState). v.desk) c.self.view_is ∙ c.requires ∙ sym c.desk.view_is) in
    let g = r.got_le in let room = r.room in let left = r.left in
    let wd = in_words _ _ _ _ _ _ _ _ r in
    let some_room : t.made < t.got + t.window = (let no = c.if-self.false in omega arith) in
    let some_left : t.made < t.quota = (let no = c.if-self-2.false in omega arith) in
    let e0 = at_first s.me r.draft_is in (
      own,
      subst (λ z. 4 * (t.caller * t.window + t.made % t.window) + 3 < z.words) own (omega arith),
      draft_ok _ _ _ _ _ _ _ _ r _ _ _ s.me ([]) _ _ some_room (omega arith) (omega arith) e0,
    )

pub store-requires-2 : goal.store-requires-2
store-requires-2 c =
    let s = c.self.inside.seat in let t = c.self.inside in let r = c.self.invariant in
    let own = ap (λ (d : DeskState). d.table) (ap (λ (v : CallerState). v.desk) c.self.view_is ∙ c.requires ∙ sym c.desk.view_is) in
    let g = r.got_le in let room = r.room in let left = r.left in
    let wd = in_words _ _ _ _ _ _ _ _ r in
    let some_room : t.made < t.got + t.window = (let no = c.if-self.false in omega arith) in
    let some_left : t.made < t.quota = (let no = c.if-self-2.false in omega arith) in
    let e0 = at_first s.me r.draft_is in
    let e1 = on_draft s.me s.me c.store.new.seat.me ([]) _ e0 c.store.ensures.2 in (
      c.store.ensures.0 ∙ own,
      subst (λ z. 4 * (t.caller * t.window + t.made % t.window) + 4 < z.words) own (omega arith),
      draft_ok _ _ _ _ _ _ _ _ r _ _ _ c.store.new.seat.me (c.words_of-words.result.first ∷ []) _ _ some_room (omega arith) (omega arith) e1,
    )

pub store-requires-3 : goal.store-requires-3
store-requires-3 c =
    let s = c.self.inside.seat in let t = c.self.inside in let r = c.self.invariant in
    let own = ap (λ (d : DeskState). d.table) (ap (λ (v : CallerState). v.desk) c.self.view_is ∙ c.requires ∙ sym c.desk.view_is) in
    let g = r.got_le in let room = r.room in let left = r.left in
    let wd = in_words _ _ _ _ _ _ _ _ r in
    let some_room : t.made < t.got + t.window = (let no = c.if-self.false in omega arith) in
    let some_left : t.made < t.quota = (let no = c.if-self-2.false in omega arith) in
    let e0 = at_first s.me r.draft_is in
    let e1 = on_draft s.me s.me c.store.new.seat.me ([]) _ e0 c.store.ensures.2 in
    let e2 = on_draft s.me c.store.new.seat.me c.store-2.new.seat.me (c.words_of-words.result.first ∷ []) _ e1 c.store-2.ensures.2 in (
      c.store-2.ensures.0 ∙ c.store.ensures.0 ∙ own,
      subst (λ z. 4 * (t.caller * t.window + t.made % t.window) + 5 < z.words) own (omega arith),
      draft_ok _ _ _ _ _ _ _ _ r _ _ _ c.store-2.new.seat.me (c.words_of-words.result.first ∷ c.words_of-words.result.second ∷ []) _ _ some_room (omega arith) (omega arith) e2,
    )

pub fetch_add-number-requires : goal.fetch_add-number-requires
fetch_add-number-requires c =
    let s = c.self.inside.seat in let t = c.self.inside in let r = c.self.invariant in
    let own = ap (λ (d : DeskState). d.table) (ap (λ (v : CallerState). v.desk) c.self.view_is ∙ c.requires ∙ sym c.desk.view_is) in
    let g = r.got_le in let room = r.room in let left = r.left in
    let wd = in_words _ _ _ _ _ _ _ _ r in
    let some_room : t.made < t.got + t.window = (let no = c.if-self.false in omega arith) in
    let some_left : t.made < t.quota = (let no = c.if-self-2.false in omega arith) in
    let e0 = at_first s.me r.draft_is in
    let e1 = on_draft s.me s.me c.store.new.seat.me ([]) _ e0 c.store.ensures.2 in
    let e2 = on_draft s.me c.store.new.seat.me c.store-2.new.seat.me (c.words_of-words.result.first ∷ []) _ e1 c.store-2.ensures.2 in
    let e3 = on_draft s.me c.store-2.new.seat.me c.store-3.new.seat.me (c.words_of-words.result.first ∷ c.words_of-words.result.second ∷ []) _ e2 c.store-3.ensures.2 in
    let w = c.words_of-words.ensures in
    let sent = all_stored s.me c.store-3.new.seat.me c.args.call _ _ _ e3 w.first w.second w.third in (
      c.store-3.ensures.0 ∙ c.store-2.ensures.0 ∙ c.store.ensures.0 ∙ own,
      subst (λ z. 0 < z.words) own (omega arith),
      arrive_ok _ _ _ _ _ _ _ _ r _ _ _ c.store-3.new.seat.me c.args.call w.call some_room some_left sent,
    )

pub store-requires-4 : goal.store-requires-4
store-requires-4 c =
    let s = c.self.inside.seat in let t = c.self.inside in let r = c.self.invariant in
    let own = ap (λ (d : DeskState). d.table) (ap (λ (v : CallerState). v.desk) c.self.view_is ∙ c.requires ∙ sym c.desk.view_is) in
    let g = r.got_le in let room = r.room in let left = r.left in
    let wd = in_words _ _ _ _ _ _ _ _ r in
    let some_room : t.made < t.got + t.window = (let no = c.if-self.false in omega arith) in
    let some_left : t.made < t.quota = (let no = c.if-self-2.false in omega arith) in
    let e0 = at_first s.me r.draft_is in
    let e1 = on_draft s.me s.me c.store.new.seat.me ([]) _ e0 c.store.ensures.2 in
    let e2 = on_draft s.me c.store.new.seat.me c.store-2.new.seat.me (c.words_of-words.result.first ∷ []) _ e1 c.store-2.ensures.2 in
    let e3 = on_draft s.me c.store-2.new.seat.me c.store-3.new.seat.me (c.words_of-words.result.first ∷ c.words_of-words.result.second ∷ []) _ e2 c.store-3.ensures.2 in
    let w = c.words_of-words.ensures in
    let sent = all_stored s.me c.store-3.new.seat.me c.args.call _ _ _ e3 w.first w.second w.third in
    let a = on_arrive s.me c.store-3.new.seat.me c.fetch_add-number.new.seat.me c.args.call _ w.call sent c.fetch_add-number.ensures.2 in (
      c.fetch_add-number.ensures.0 ∙ c.store-3.ensures.0 ∙ c.store-2.ensures.0 ∙ c.store.ensures.0 ∙ own,
      subst (λ z. 4 * (t.caller * t.window + t.made % t.window) + 2 < z.words) own (omega arith),
      post_ok _ _ _ _ _ _ _ _ r _ _ _ c.fetch_add-number.new.seat.me c.args.call _ _ c.fetch_add-number.result some_room refl refl a.2,
    )

pub invariant_of-self : goal.invariant_of-self
invariant_of-self c =
    let s = c.self.inside.seat in let t = c.self.inside in let r = c.self.invariant in
    let own = ap (λ (d : DeskState). d.table) (ap (λ (v : CallerState). v.desk) c.self.view_is ∙ c.requires ∙ sym c.desk.view_is) in
    let g = r.got_le in let room = r.room in let left = r.left in
    let wd = in_words _ _ _ _ _ _ _ _ r in
    let some_room : t.made < t.got + t.window = (let no = c.if-self.false in omega arith) in
    let some_left : t.made < t.quota = (let no = c.if-self-2.false in omega arith) in
    let e0 = at_first s.me r.draft_is in
    let e1 = on_draft s.me s.me c.store.new.seat.me ([]) _ e0 c.store.ensures.2 in
    let e2 = on_draft s.me c.store.new.seat.me c.store-2.new.seat.me (c.words_of-words.result.first ∷ []) _ e1 c.store-2.ensures.2 in
    let e3 = on_draft s.me c.store-2.new.seat.me c.store-3.new.seat.me (c.words_of-words.result.first ∷ c.words_of-words.result.second ∷ []) _ e2 c.store-3.ensures.2 in
    let w = c.words_of-words.ensures in
    let sent = all_stored s.me c.store-3.new.seat.me c.args.call _ _ _ e3 w.first w.second w.third in
    let a = on_arrive s.me c.store-3.new.seat.me c.fetch_add-number.new.seat.me c.args.call _ w.call sent c.fetch_add-number.ensures.2 in
    let p = on_post _ _ _ _ _ _ _ _ r c.fetch_add-number.new.seat.me c.store-4.new.seat.me c.args.call c.fetch_add-number.result some_room some_left a.2 c.store-4.ensures.2 in
    subst (λ z. CallerIsReady z.words c.store-4.new.seat.me t.caller t.window t.quota (t.made + 1) t.got (slice_set t.numbers.items (t.made % t.window) c.fetch_add-number.result))
    (sym (c.store-4.ensures.0 ∙ c.fetch_add-number.ensures.0 ∙ c.store-3.ensures.0 ∙ c.store-2.ensures.0 ∙ c.store.ensures.0)) p.1
