-- Generated calls and summaries written out.
use Rattle.std.proofs.Common.{◌≡◌, [], ◌∷◌, refl, codes}
use Rattle.std.specs.Fmt.{digits}
use Rattle.palm_base.specs.declared.call.Call.TheVariants.{Set, Del, Get, Rate, List as Range}
use Rattle.palm_base.specs.declared.call.Reply.TheVariants.{Was, Absent, Value, Hit}
use Rattle.palm_gen.specs.Generator.{next_state, drawn, last_digits, prefix_by, call_by, entry_by, generated_history, state_after}
use Rattle.palm_gen.specs.Summary.{hits_in, sum_in, summary_text}

first_state : next_state 0 ≡ 0x14057B7EF767814F
first_state = refl

first_draw : drawn (next_state 0) ≡ 335_903_614
first_draw = refl

leading_zeros : last_digits 4 12 ≡ 0 ∷ 0 ∷ 1 ∷ 2 ∷ []
leading_zeros = refl

short_prefix : prefix_by 13 2_007 ≡ 0 ∷ 0 ∷ 7 ∷ []
short_prefix = refl

-- the kinds 3 to 7
last_set : call_by 3 (4 ∷ 4 ∷ []) 9 ≡ Set (4 ∷ 4 ∷ []) 9
last_set = refl

del : call_by 4 (4 ∷ 4 ∷ []) 9 ≡ Del (4 ∷ 4 ∷ [])
del = refl

get : call_by 5 (4 ∷ 4 ∷ []) 9 ≡ Get (4 ∷ 4 ∷ [])
get = refl

rate : call_by 6 (4 ∷ 4 ∷ []) 9 ≡ Rate (4 ∷ 4 ∷ 5 ∷ 5 ∷ 5 ∷ 5 ∷ [])
rate = refl

list : call_by 7 (4 ∷ 4 ∷ []) 9 ≡ Range (4 ∷ 4 ∷ []) (4 ∷ 4 ∷ 9 ∷ 9 ∷ 9 ∷ 9 ∷ []) 8
list = refl

-- four callers call by turns
ninth : (entry_by 0 9).caller ≡ 1
ninth = refl

third_of_caller : (entry_by 0 9).place ≡ 2
third_of_caller = refl

-- the first calls of the seed 0
first_calls : generated_history 0 2
    ≡ (record { caller = 0; place = 0; call = Rate (8 ∷ 7 ∷ 4 ∷ 5 ∷ 5 ∷ 5 ∷ 5 ∷ []) })
    ∷ (record { caller = 1; place = 0; call = Set (8 ∷ 7 ∷ 3 ∷ 7 ∷ 8 ∷ 2 ∷ []) 1_647_660_250 })
    ∷ []
first_calls = refl

state_after_two : state_after 2 0 ≡ 10_346_034_117_385_188_870
state_after_two = refl

one_hit : hits_in (Value 5 ∷ Hit (record { prefix = 4 ∷ 4 ∷ []; rate = 7 }) ∷ Absent ∷ Was 9 ∷ []) ≡ 1
one_hit = refl

two_rates : sum_in (Value 5 ∷ Hit (record { prefix = 4 ∷ 4 ∷ []; rate = 7 }) ∷ Absent ∷ Was 9 ∷ []) ≡ 12
two_rates = refl

told : summary_text 3 2 1 1 12 ≡ codes "calls 3\nrows 2\nlevels 1\nhits 1\nsum 12\n"
unfolding digits
told = refl
