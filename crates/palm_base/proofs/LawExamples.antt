-- Worked examples of the forms that the further laws speak of, which the checker computes.
use Rattle.std.proofs.Common.{◌≡◌, List, [], ◌∷◌, map, refl}
use Rattle.std.specs.Prelude.{None, Some}
use Rattle.palm_base.specs.Fronts.{first_front}
use Rattle.palm_base.specs.Table.{best_for}
use Rattle.palm_base.specs.Literal.{last_place}
use Rattle.palm_base.specs.LookUps.{edit_replies, looked}
use Rattle.palm_base.specs.declared.row.Row.{Row}
use Rattle.palm_base.specs.declared.call.Call.TheVariants.{Set, Get, Rate}
use Rattle.palm_base.specs.declared.call.Entry.{Entry}
use Rattle.palm_base.specs.declared.call.Reply.{Reply}
use Rattle.palm_base.specs.declared.call.Reply.TheVariants.{Was, Absent, Hit}

abbrev rows : List Row
rows =
    record { prefix = 4 ∷ []; rate = 1 } ∷ record { prefix = 4 ∷ 4 ∷ []; rate = 2 } ∷ record { prefix = 4 ∷ 5 ∷ []; rate = 3 } ∷ []

-- The fronts 442, 44 and 4 of 442 find the row of 44, and none of 52 finds one.
front-found : first_front 3 (4 ∷ 4 ∷ 2 ∷ []) rows ≡ Some (record { prefix = 4 ∷ 4 ∷ []; rate = 2 })
front-found = refl

front-best : best_for (4 ∷ 4 ∷ 2 ∷ []) rows ≡ first_front 3 (4 ∷ 4 ∷ 2 ∷ []) rows
front-best = refl

front-none : first_front 2 (5 ∷ 2 ∷ []) rows ≡ None
front-none = refl

-- With the lows 0, 19 and 28 the keys 18, 19, 27 and 28 go to the places 0, 1, 1 and 2.
places : map (λ k. last_place {X = Unit {0}} k ((0, tt) ∷ (19, tt) ∷ (28, tt) ∷ [])) (18 ∷ 19 ∷ 27 ∷ 28 ∷ []) ≡ 0 ∷ 1 ∷ 1 ∷ 2 ∷ []
places = refl

-- Of Get 5, Set 44 9, Rate 442 the look-ups are answered on the table, Absent and the row of 44. The edit alone is answered Was 2.
abbrev calls : List Entry
calls =
    record { caller = 0; place = 0; call = Get (5 ∷ []) } ∷ record { caller = 0; place = 1; call = Set (4 ∷ 4 ∷ []) 9 }
    ∷ record { caller = 0; place = 2; call = Rate (4 ∷ 4 ∷ 2 ∷ []) } ∷ []

abbrev hit : Reply
hit = Hit (record { prefix = 4 ∷ 4 ∷ []; rate = 2 })

looks : map (looked rows) calls ≡ Some Absent ∷ None ∷ Some hit ∷ []
looks = refl

edit-replies : edit_replies calls (Absent ∷ Was 2 ∷ hit ∷ []) ≡ Was 2 ∷ []
edit-replies = refl
