-- What the leaves of a tree answer the parts of a batch makes, joined by entry, the replies to the batch.
use Rattle.std.proofs.Common.{◌≡◌, ℕ, suc, ◌+◌, ◌<◌, ◌≤◌, List, [], ◌∷◌, ◌++◌, length, get_or, refl, sym, ap, subst, ◌∙◌, arith, inl, inr, ◌⊎◌}
use Rattle.std.specs.List.{fold, AllByRecursion}
use Rattle.std.proofs.lemmas.Bool.{eq-eqb, ne_eqb, cases_eq}
use Rattle.std.proofs.lemmas.List.{append-nil}
use Rattle.std.proofs.lemmas.List.Elements.{filter-append}
use Rattle.palm_base.specs.History.{replies_to}
use Rattle.palm_base.specs.Key.{key, IsKey}
use Rattle.palm_base.specs.Lows.{PrefixesHold, SetsPrefix}
use Rattle.palm_base.specs.Table.{after, answer, IsTable}
use Rattle.palm_base.specs.declared.row.Row.{Row}
use Rattle.palm_base.specs.declared.call.Call.{Call}
use Rattle.palm_base.specs.declared.call.Call.TheVariants.{Set, Del, Get, Rate, List as Listing}
use Rattle.palm_base.specs.declared.call.Entry.{Entry}
use Rattle.palm_base.specs.declared.call.Reply.{Reply}
use Rattle.palm_base.proofs.Every.{every_weaker, every_append}
use Rattle.palm_base.proofs.Keys.{digits_of-key}
use Rattle.palm_base.proofs.PrefixRows.{prefixes_all}
use Rattle.palm_base.proofs.Tables.{calls_keep_tables}
use Rattle.palm_tree.proofs.Limits.{take_short}
use Rattle.palm_arena.specs.Leaves.{LeafPlace}
use Rattle.palm_arena.proofs.ListParts.{all_map, all_both}
use Rattle.palm_route.specs.Edits.{EditsPrefix}
use Rattle.palm_route.specs.Groups.{LowsRise}
use Rattle.palm_route.specs.Parts.{lows_of, list_keys, front_keys, parts_by_keys, parts_of_call, parts_of}
use Rattle.palm_route.specs.declared.part.Ask.{Ask}
use Rattle.palm_route.specs.declared.part.Ask.TheVariants as ask
use Rattle.palm_route.specs.declared.part.Part.{Part}
use Rattle.palm_route.proofs.Routings.{filter_all, filter_none}
use Rattle.palm_leaf.specs.Answers.{answer_of, after_part}
use Rattle.palm_leaf.specs.Laws.{IsForRate}
use Rattle.palm_leaf.specs.Ranged.{rows_in_range, ranged_answers}
use Rattle.palm_leaf.specs.declared.answer.PartAnswer.{PartAnswer}
use Rattle.palm_leaf.proofs.KeptOrder.{NeverFall, filter_spread}
use Rattle.palm_leaf.proofs.Spreads.{all_spread}
use Rattle.palm_leaf.proofs.TableAnswers.{rates_in_range}
use Rattle.palm_batch.specs.Replies.{reply_joined, answers_to, replies_joined, Fits, FitsEntry, RatesPrefix, AreAnswers}
use Rattle.palm_batch.proofs.ListReplies.{Rise, list_joined, list_keys_rise}
use Rattle.palm_batch.proofs.RateReplies.{rate_joined, front_keys_are, front_keys_rise}

-- ---- parts one after another

ranged_append : (lows : List ℕ) (rows : List Row) (parts more : List Part) → ranged_answers lows rows (parts ++ more) ≡ ranged_answers lows rows parts ++ ranged_answers lows (fold after_part rows parts) more
ranged_append lows rows [] more = refl
ranged_append lows rows (part ∷ parts) more =
    ap (λ (l : List PartAnswer). record { part = part; answer = answer_of (rows_in_range lows part.key rows) part } ∷ l) (ranged_append lows (after_part rows part) parts more)

-- What holds of parts holds of those that are answered.
all_ranged : (P : Part → Type 0) (lows : List ℕ) (rows : List Row) (parts : List Part) → AllByRecursion P parts → AllByRecursion (λ a. P a.part) (ranged_answers lows rows parts)
all_ranged P lows rows [] all = tt
all_ranged P lows rows (part ∷ parts) all = (all.0, all_ranged P lows (after_part rows part) parts all.1)

never_ranged : (lows : List ℕ) (rows : List Row) (parts : List Part) → NeverFall (λ part. part.key) parts → NeverFall (λ a. a.part.key) (ranged_answers lows rows parts)
never_ranged lows rows [] never = tt
never_ranged lows rows (part ∷ parts) never =
    (all_ranged (λ later. part.key ≤ later.key) lows (after_part rows part) parts never.0, never_ranged lows (after_part rows part) parts never.1)

-- ---- the parts of one call

-- Parts that only look or list leave the rows.
looks_leave : (rows : List Row) (entry i : ℕ) (keys : List ℕ) → fold after_part rows (parts_by_keys entry i ask.Look keys) ≡ rows
looks_leave rows entry i [] = refl
looks_leave rows entry i (k ∷ keys) = looks_leave rows entry (suc i) keys

lists_leave : (rows : List Row) (entry i : ℕ) (from to : List ℕ) (limit : ℕ) (keys : List ℕ) → fold after_part rows (parts_by_keys entry i (ask.List from to limit) keys) ≡ rows
lists_leave rows entry i from to limit [] = refl
lists_leave rows entry i from to limit (k ∷ keys) = lists_leave rows entry (suc i) from to limit keys

call_leaves : (places : List LeafPlace) (rows : List Row) (entry : ℕ) (call : Call) → EditsPrefix call → fold after_part rows (parts_of_call places entry call) ≡ after rows call
call_leaves places rows entry (Set prefix rate) is = rw (digits_of-key prefix is) refl
call_leaves places rows entry (Del prefix) is = rw (digits_of-key prefix is) refl
call_leaves places rows entry (Get prefix) is = refl
call_leaves places rows entry (Rate number) is = looks_leave rows entry 0 (front_keys number)
call_leaves places rows entry (Listing from to limit) is = lists_leave rows entry 0 from to limit (list_keys (key from) (key to) (lows_of places))

keys_entry : (entry i : ℕ) (what : Ask) (keys : List ℕ) → AllByRecursion (λ part. part.entry ≡ entry) (parts_by_keys entry i what keys)
keys_entry entry i what [] = tt
keys_entry entry i what (k ∷ keys) = (refl, keys_entry entry (suc i) what keys)

call_entry : (places : List LeafPlace) (entry : ℕ) (call : Call) → AllByRecursion (λ part. part.entry ≡ entry) (parts_of_call places entry call)
call_entry places entry (Set prefix rate) = keys_entry entry 0 (ask.Set rate) (key prefix ∷ [])
call_entry places entry (Del prefix) = keys_entry entry 0 ask.Del (key prefix ∷ [])
call_entry places entry (Get prefix) = keys_entry entry 0 ask.Look (key prefix ∷ [])
call_entry places entry (Rate number) = keys_entry entry 0 ask.Look (front_keys number)
call_entry places entry (Listing from to limit) = keys_entry entry 0 (ask.List from to limit) (list_keys (key from) (key to) (lows_of places))

-- The keys of a call's parts never fall.
keys_all : (P : ℕ → Type 0) (entry i : ℕ) (what : Ask) (keys : List ℕ) → AllByRecursion P keys → AllByRecursion (λ part. P part.key) (parts_by_keys entry i what keys)
keys_all P entry i what [] all = tt
keys_all P entry i what (k ∷ keys) all = (all.0, keys_all P entry (suc i) what keys all.1)

keys_never : (entry i : ℕ) (what : Ask) (keys : List ℕ) → NeverFall (λ k. k) keys → NeverFall (λ part. part.key) (parts_by_keys entry i what keys)
keys_never entry i what [] never = tt
keys_never entry i what (k ∷ keys) never = (keys_all (λ later. k ≤ later) entry (suc i) what keys never.0, keys_never entry (suc i) what keys never.1)

call_never : (places : List LeafPlace) (entry : ℕ) (call : Call) → Rise (lows_of places) → NeverFall (λ part. part.key) (parts_of_call places entry call)
call_never places entry (Set prefix rate) rise = (tt, tt)
call_never places entry (Del prefix) rise = (tt, tt)
call_never places entry (Get prefix) rise = (tt, tt)
call_never places entry (Rate number) rise = keys_never entry 0 ask.Look (front_keys number) (front_keys_rise number)
call_never places entry (Listing from to limit) rise =
    keys_never entry 0 (ask.List from to limit) (list_keys (key from) (key to) (lows_of places)) (list_keys_rise (key from) (key to) (lows_of places) rise)

-- What answers a call's parts may do so.
looks_fit : (lows : List ℕ) (rows : List Row) (entry i : ℕ) (number keys : List ℕ) → AllByRecursion IsKey keys → AllByRecursion (Fits (Rate number)) (ranged_answers lows rows (parts_by_keys entry i ask.Look keys))
looks_fit lows rows entry i number [] are = tt
looks_fit lows rows entry i number (k ∷ keys) are = (are.0, looks_fit lows rows entry (suc i) number keys are.1)

lists_fit : (lows : List ℕ) (rows : List Row) (entry i : ℕ) (from to : List ℕ) (limit : ℕ) (keys : List ℕ) → AllByRecursion (Fits (Listing from to limit)) (ranged_answers lows rows (parts_by_keys entry i (ask.List from to limit) keys))
lists_fit lows rows entry i from to limit [] = tt
lists_fit lows rows entry i from to limit (k ∷ keys) = (take_short limit _, lists_fit lows rows entry (suc i) from to limit keys)

call_fits : (places : List LeafPlace) (lows : List ℕ) (rows : List Row) (entry : ℕ) (call : Call) → RatesPrefix call → AllByRecursion (Fits call) (ranged_answers lows rows (parts_of_call places entry call))
call_fits places lows rows entry (Set prefix rate) is = (tt, tt)
call_fits places lows rows entry (Del prefix) is = (tt, tt)
call_fits places lows rows entry (Get prefix) is = (tt, tt)
call_fits places lows rows entry (Rate number) is = looks_fit lows rows entry 0 number (front_keys number) (front_keys_are number is)
call_fits places lows rows entry (Listing from to limit) is = lists_fit lows rows entry 0 from to limit (list_keys (key from) (key to) (lows_of places))

-- Joined they make the table's reply.
looks_ask : (entry i : ℕ) (keys : List ℕ) → AllByRecursion IsForRate (parts_by_keys entry i ask.Look keys)
looks_ask entry i [] = tt
looks_ask entry i (k ∷ keys) = (tt, looks_ask entry (suc i) keys)

call_joined : (places : List LeafPlace) (lows : List ℕ) (rows : List Row) (entry : ℕ) (call : Call) → lows_of places ≡ 0 ∷ lows → Rise lows → IsTable rows → PrefixesHold rows → RatesPrefix call
    → reply_joined call (ranged_answers lows rows (parts_of_call places entry call)) ≡ answer rows call
call_joined places lows rows entry (Set prefix rate) begin rise table prefixes is = ap (reply_joined (Set prefix rate)) (rates_in_range lows rows (parts_of_call places entry (Set prefix rate)) (tt, tt))
call_joined places lows rows entry (Del prefix) begin rise table prefixes is = ap (reply_joined (Del prefix)) (rates_in_range lows rows (parts_of_call places entry (Del prefix)) (tt, tt))
call_joined places lows rows entry (Get prefix) begin rise table prefixes is = ap (reply_joined (Get prefix)) (rates_in_range lows rows (parts_of_call places entry (Get prefix)) (tt, tt))
call_joined places lows rows entry (Rate number) begin rise table prefixes is =
    ap (reply_joined (Rate number)) (rates_in_range lows rows (parts_of_call places entry (Rate number)) (looks_ask entry 0 (front_keys number))) ∙ rate_joined places rows entry number prefixes is
call_joined places lows rows entry (Listing from to limit) begin rise table prefixes is = list_joined places lows rows entry from to limit begin rise table

-- A call leaves prefixes.
call_prefixes : (rows : List Row) (call : Call) → EditsPrefix call → PrefixesHold rows → PrefixesHold (after rows call)
call_prefixes rows call is prefixes = prefixes_all rows (call ∷ []) prefixes (sets call is, tt)
  where
    sets : (call : Call) → EditsPrefix call → SetsPrefix call
    sets (Set prefix rate) is = is
    sets (Del prefix) is = tt
    sets (Get prefix) is = tt
    sets (Rate number) is = tt
    sets (Listing from to limit) is = tt

-- ---- the parts of a batch, entry by entry

abbrev AllEdit : List Entry → Type 0
AllEdit = AllByRecursion (λ entry. EditsPrefix entry.call)

abbrev AllRate : List Entry → Type 0
AllRate = AllByRecursion (λ entry. RatesPrefix entry.call)

-- Where the first entry has the place `first`, the answer may be one to a part of one of these entries.
record FitsAt (first : ℕ) (entries : List Entry) (a : PartAnswer) : Type 0 where
  i : ℕ
  place : a.part.entry ≡ first + i
  inside : i < length entries
  fits : (other : Entry) → Fits (get_or entries i other).call a

later_entries : (places : List LeafPlace) (first : ℕ) (entries : List Entry) → AllByRecursion (λ part. first ≤ part.entry) (parts_of places first entries)
later_entries places first [] = tt
later_entries places first (entry ∷ entries) =
    every_append (λ part. first ≤ part.entry) (parts_of_call places first entry.call) (parts_of places (suc first) entries)
    (every_weaker (λ part. part.entry ≡ first) (λ part. first ≤ part.entry) (λ part same. omega (arith, same)) (parts_of_call places first entry.call) (call_entry places first entry.call))
    (every_weaker (λ part. suc first ≤ part.entry) (λ part. first ≤ part.entry) (λ part less. omega (arith, less)) (parts_of places (suc first) entries) (later_entries places (suc first) entries))

module _ (places : List LeafPlace) (lows : List ℕ) where
  -- The answers to the parts of a call, and to those of entries.
  abbrev call_answers : List Row → ℕ → Call → List PartAnswer
  call_answers rows first call = ranged_answers lows rows (parts_of_call places first call)

  abbrev batch_answers : List Row → ℕ → List Entry → List PartAnswer
  batch_answers rows first entries = ranged_answers lows rows (parts_of places first entries)

  -- The answers to the first entry's parts stand before all others.
  first_before : (rows : List Row) (first : ℕ) (entry : Entry) (entries : List Entry) → EditsPrefix entry.call
      → batch_answers rows first (entry ∷ entries) ≡ call_answers rows first entry.call ++ batch_answers (after rows entry.call) (suc first) entries
  first_before rows first entry entries is =
      ranged_append lows rows (parts_of_call places first entry.call) (parts_of places (suc first) entries)
      ∙ ap (λ rows'. call_answers rows first entry.call ++ batch_answers rows' (suc first) entries) (call_leaves places rows first entry.call is)

  to_first : (rows : List Row) (first : ℕ) (entry : Entry) (entries : List Entry) → EditsPrefix entry.call → answers_to first (batch_answers rows first (entry ∷ entries)) ≡ call_answers rows first entry.call
  to_first rows first entry entries is =
      let own = call_answers rows first entry.call in
      let later = batch_answers (after rows entry.call) (suc first) entries in
      ap (answers_to first) (first_before rows first entry entries is)
      ∙ filter-append _ own later
      ∙ ap (λ l. l ++ answers_to first later) (filter_all _ own (every_weaker (λ a. a.part.entry ≡ first) _ (λ a same. eq-eqb a.part.entry first same) own (all_ranged (λ part. part.entry ≡ first) lows rows _ (call_entry places first entry.call))))
      ∙ ap (λ l. own ++ l)
      (filter_none _ later
      (every_weaker (λ a. suc first ≤ a.part.entry) _ (λ a less. ne_eqb a.part.entry first (λ e. omega (arith, e, less))) later (all_ranged (λ part. suc first ≤ part.entry) lows (after rows entry.call) _ (later_entries places (suc first) entries))))
      ∙ append-nil own

  to_later : (rows : List Row) (first : ℕ) (entry : Entry) (entries : List Entry) (place : ℕ) → EditsPrefix entry.call → (first ≡ place → ⊥)
      → answers_to place (batch_answers rows first (entry ∷ entries)) ≡ answers_to place (batch_answers (after rows entry.call) (suc first) entries)
  to_later rows first entry entries place is other =
      let own = call_answers rows first entry.call in
      let later = batch_answers (after rows entry.call) (suc first) entries in
      ap (answers_to place) (first_before rows first entry entries is)
      ∙ filter-append _ own later
      ∙ ap (λ l. l ++ answers_to place later)
      (filter_none _ own
      (every_weaker (λ a. a.part.entry ≡ first) _ (λ a same. ne_eqb a.part.entry place (λ e. other (sym same ∙ e))) own (all_ranged (λ part. part.entry ≡ first) lows rows _ (call_entry places first entry.call))))

  -- The answers to one entry go by keys that never fall.
  answers_kept : Rise (lows_of places) → (rows : List Row) (first : ℕ) (entries : List Entry) → AllEdit entries → (place : ℕ) → NeverFall (λ a. a.part.key) (answers_to place (batch_answers rows first entries))
  answers_kept rise rows first [] edits place = tt
  answers_kept rise rows first (entry ∷ entries) edits place = by (cases_eq first place) (answers_kept rise (after rows entry.call) (suc first) entries edits.1 place)
    where
      by : (first ≡ place) ⊎ (first ≡ place → ⊥) → NeverFall (λ a. a.part.key) (answers_to place (batch_answers (after rows entry.call) (suc first) entries)) → NeverFall (λ a. a.part.key) (answers_to place (batch_answers rows first (entry ∷ entries)))
      by (inl same) rest =
          subst (λ n. NeverFall (λ a. a.part.key) (answers_to n (batch_answers rows first (entry ∷ entries)))) same
          (subst (NeverFall (λ a. a.part.key)) (sym (to_first rows first entry entries edits.0)) (never_ranged lows rows _ (call_never places first entry.call rise)))
      by (inr other) rest = subst (NeverFall (λ a. a.part.key)) (sym (to_later rows first entry entries place edits.0 other)) rest

  -- Answers that are these to each entry make the table's replies.
  answers_joined : lows_of places ≡ 0 ∷ lows → Rise lows → (rows : List Row) (first : ℕ) (entries : List Entry) → IsTable rows → PrefixesHold rows → AllEdit entries → AllRate entries → (answers : List PartAnswer)
      → ((place : ℕ) → first ≤ place → answers_to place answers ≡ answers_to place (batch_answers rows first entries)) → replies_joined first entries answers ≡ replies_to rows entries
  answers_joined begin rise rows first [] table prefixes edits rates answers same = refl
  answers_joined begin rise rows first (entry ∷ entries) table prefixes edits rates answers same =
      let own = same first (omega arith) ∙ to_first rows first entry entries edits.0 in
      let later = answers_joined begin rise (after rows entry.call) (suc first) entries (calls_keep_tables rows entry.call table) (call_prefixes rows entry.call edits.0 prefixes) edits.1 rates.1 answers
      (λ place less. same place (omega (arith, less)) ∙ to_later rows first entry entries place edits.0 (λ e. omega (arith, e, less))) in
      ap (λ reply. reply ∷ replies_joined (suc first) entries answers) (ap (reply_joined entry.call) own ∙ call_joined places lows rows first entry.call begin rise table prefixes rates.0)
      ∙ ap (λ (replies : List Reply). answer rows entry.call ∷ replies) later

  -- Each answer may be one to its entry.
  all_fit : (rows : List Row) (first : ℕ) (entries : List Entry) → AllEdit entries → AllRate entries → AllByRecursion (FitsAt first entries) (batch_answers rows first entries)
  all_fit rows first [] edits rates = tt
  all_fit rows first (entry ∷ entries) edits rates =
      let own = call_answers rows first entry.call in
      let later = batch_answers (after rows entry.call) (suc first) entries in
      subst (AllByRecursion (FitsAt first (entry ∷ entries))) (sym (first_before rows first entry entries edits.0))
      (every_append (FitsAt first (entry ∷ entries)) own later
      (every_weaker (λ a. (a.part.entry ≡ first) × Fits entry.call a) (FitsAt first (entry ∷ entries)) (λ a is. record { i = 0; place = omega (arith, is.0); inside = omega arith; fits = λ other. is.1 }) own
      (all_both (λ a. a.part.entry ≡ first) (Fits entry.call) own (all_ranged (λ part. part.entry ≡ first) lows rows _ (call_entry places first entry.call)) (call_fits places lows rows first entry.call rates.0)))
      (every_weaker (FitsAt (suc first) entries) (FitsAt first (entry ∷ entries)) (λ a is. record { i = suc is.i; place = omega (arith, is.place); inside = (let h = is.inside in omega arith); fits = is.fits }) later
      (all_fit (after rows entry.call) (suc first) entries edits.1 rates.1)))

-- ---- all answers of a batch

lows_rise : (places : List LeafPlace) → LowsRise places → Rise (lows_of places)
lows_rise [] rise = tt
lows_rise (place ∷ places) rise = (all_map (λ low. place.low < low) (λ (place : LeafPlace). place.low) places rise.0, lows_rise places rise.1)

pub answers_fit : (places : List LeafPlace) (lows : List ℕ) (rows : List Row) (batch : List Entry) (answers : List PartAnswer) → AllEdit batch → AllRate batch → AreAnswers places lows rows batch answers
    → AllByRecursion (FitsEntry batch) answers
answers_fit places lows rows batch answers edits rates are =
    every_weaker (FitsAt 0 batch) (FitsEntry batch) at answers
    (subst (AllByRecursion (FitsAt 0 batch)) (sym are.are) (all_spread (FitsAt 0 batch) (λ a. a.part.key) lows _ (all_fit places lows rows 0 batch edits rates)))
  where
    at : (a : PartAnswer) → FitsAt 0 batch a → FitsEntry batch a
    at a is =
        let place : is.i ≡ a.part.entry = omega (arith, is.place) in
        ((let h = is.inside in omega (arith, place)), λ other. subst (λ n. Fits (get_or batch n other).call a) place (is.fits other))

pub all_joined : (places : List LeafPlace) (lows : List ℕ) (rows : List Row) (batch : List Entry) (answers : List PartAnswer) → AllEdit batch → AllRate batch → AreAnswers places lows rows batch answers
    → replies_joined 0 batch answers ≡ replies_to rows batch
all_joined places lows rows batch answers edits rates are =
    let rise = lows_rise places are.rise in
    answers_joined places lows are.begin (subst Rise are.begin rise).1 rows 0 batch are.table are.prefixes edits rates answers
    (λ place least. ap (answers_to place) are.are ∙ filter_spread _ (λ a. a.part.key) lows (batch_answers places lows rows 0 batch) (answers_kept places lows rise rows 0 batch edits place))
