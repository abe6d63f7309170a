-- Worked examples of stormy runs, which the checker computes.
use Rattle.std.proofs.Common.{◌≡◌, ℕ, ◌<◌, Bool, true, false, cond, eqb, List, [], ◌∷◌, length, take, slice_index, slice_index_or, refl, sym, subst, ap, arith, ◌∙◌, eqb-true, All}
use Rattle.std.specs.Prelude.{codes}
use Rattle.std.specs.Fmt.{digits}
use Rattle.std.proofs.lemmas.List.Elements.{All-from_recursion}
use Rattle.palm_base.specs.History.{KeepsOrder, calls_of, entries_of, numbered}
use Rattle.palm_base.specs.declared.call.Call.TheVariants.{Set, Get}
use Rattle.palm_base.specs.declared.call.Entry.{Entry}
use Rattle.palm_script.specs.Script.{script_of}
use Rattle.palm_script.specs.Storms.{IsStormy, callers, places_after, calls_by_caller}
use Rattle.palm_script.specs.Transcript.{Section, text_of}
use Rattle.palm_script.specs.declared.dump.DumpWhen.TheVariants.{Never}
use Rattle.palm_script.specs.declared.line.Line.{Line}
use Rattle.palm_script.proofs.Callers.{each_caller, at_caller}
use Rattle.palm_script.proofs.Orders.{count_of}

-- The entries (3, 0, x), (0, 0, y) and (3, 1, z).
abbrev set_x : Entry
set_x = record { caller = 3; place = 0; call = Set (4 ∷ []) 5 }

abbrev get_y : Entry
get_y = record { caller = 0; place = 0; call = Get (4 ∷ []) }

abbrev set_z : Entry
set_z = record { caller = 3; place = 1; call = Set (4 ∷ []) 6 }

abbrev own : List Entry
own = set_x ∷ get_y ∷ set_z ∷ []

places-after : take 5 (places_after own) ≡ 1 ∷ 0 ∷ 0 ∷ 2 ∷ 0 ∷ []
unfolding callers
places-after = refl

calls-by_caller : take 5 (calls_by_caller own) ≡ (Get (4 ∷ []) ∷ []) ∷ [] ∷ [] ∷ (Set (4 ∷ []) 5 ∷ Set (4 ∷ []) 6 ∷ []) ∷ [] ∷ []
unfolding callers
calls-by_caller = refl

-- Their script.
abbrev items : List Line
items = (script_of (codes "3 set 4 5\n0 get 4\n3 set 4 6\n") true).items

-- A section of a history, in batches of 1 and of what is left.
abbrev section_of : List Entry → Section
section_of history = record { history = history; cutting = 1 ∷ 2 ∷ []; dumps = false }

-- The caller 0 may come first.
turned-order : (caller : ℕ) → entries_of caller (get_y ∷ set_x ∷ set_z ∷ []) ≡ numbered caller 0 (calls_of (entries_of caller own))
turned-order caller = by (eqb 0 caller) (eqb 3 caller) refl refl
  where
    by : (a b : Bool) → eqb 0 caller ≡ a → eqb 3 caller ≡ b
        → cond a (get_y ∷ cond b (set_x ∷ cond b (set_z ∷ []) []) (cond b (set_z ∷ []) [])) (cond b (set_x ∷ cond b (set_z ∷ []) []) (cond b (set_z ∷ []) []))
        ≡ numbered caller 0 (calls_of (cond b (set_x ∷ cond a (get_y ∷ cond b (set_z ∷ []) []) (cond b (set_z ∷ []) [])) (cond a (get_y ∷ cond b (set_z ∷ []) []) (cond b (set_z ∷ []) []))))
    by true true p q = absurd (omega (arith, eqb-true 0 caller p, eqb-true 3 caller q))
    by true false p q = subst (λ (who : ℕ). get_y ∷ [] ≡ numbered who 0 (Get (4 ∷ []) ∷ [])) (eqb-true 0 caller p) refl
    by false true p q = subst (λ (who : ℕ). set_x ∷ set_z ∷ [] ≡ numbered who 0 (Set (4 ∷ []) 5 ∷ Set (4 ∷ []) 6 ∷ [])) (eqb-true 3 caller q) refl
    by false false p q = refl

turned-keeps : KeepsOrder (places_after []) (calls_by_caller own) (get_y ∷ set_x ∷ set_z ∷ [])
turned-keeps =
    let calls = λ (caller : ℕ). calls_of (entries_of caller own) in
    let many : length (calls_by_caller own) ≡ 64 = each_caller calls in
    record {
      callers = subst (λ (n : ℕ). All (λ (entry : Entry). entry.caller < n) (get_y ∷ set_x ∷ set_z ∷ [])) (sym many)
          (All-from_recursion (λ (entry : Entry). entry.caller < 64) (get_y ∷ set_x ∷ set_z ∷ []) (omega arith, (omega arith, (omega arith, tt))));
      calls = λ caller among.
          let small : caller < 64 = omega (arith, many, among) in
          let place : slice_index (places_after []) caller ≡ 0 = at_caller (λ (who : ℕ). count_of who []) 0 caller small in
          let list : slice_index_or (calls_by_caller own) caller [] ≡ calls caller = at_caller calls [] caller small in
          turned-order caller ∙ (λ i. numbered caller (sym place i) (sym list i));
    }

turned-is_stormy : IsStormy items 2 (section_of (get_y ∷ set_x ∷ set_z ∷ []) ∷ [])
turned-is_stormy = (
  record {
    keeps = turned-keeps;
    cuts = record { some = (omega arith, (omega arith, tt)); whole = refl };
    few = (omega arith, (omega arith, tt));
    dumps = refl;
  },
  tt,
)

-- Its transcript says so, line by line.
turned-text : text_of Never (section_of (get_y ∷ set_x ∷ set_z ∷ []) ∷ []) ≡ codes "0 0 absent\n= 1\n1 3 new\n2 3 was 5\n= 2\n"
unfolding digits
turned-text = refl

-- The caller 3 may not make its second call first.
late-places : entries_of 3 (set_z ∷ set_x ∷ get_y ∷ []) ≡ set_x ∷ set_z ∷ [] → ⊥
late-places e =
    let first : set_z ≡ set_x = cc in
    let place : set_z.place ≡ set_x.place = ap (λ (entry : Entry). entry.place) first in
    omega (arith, place)

late-isnt_stormy : IsStormy items 2 (section_of (set_z ∷ set_x ∷ get_y ∷ []) ∷ []) → ⊥
unfolding callers
late-isnt_stormy stormy = late-places (stormy.0.keeps.calls 3 (omega arith))
