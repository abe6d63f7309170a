-- The answers to the fronts of a Rate's number make the table's reply.
use Rattle.std.proofs.Common.{◌≡◌, ℕ, zero, suc, ◌+◌, ◌≤◌, List, [], ◌∷◌, length, map, take, length-take, refl, sym, ap, ◌∙◌, arith}
use Rattle.std.specs.Prelude.{Option, None, Some}
use Rattle.std.specs.List.{fold, range_with_len, AllByRecursion}
use Rattle.std.proofs.lemmas.List.FromFn.{map-range_with_len_more}
use Rattle.std.proofs.lemmas.List.Sums.{fold-append}
use Rattle.palm_base.specs.Fronts.{row_or, first_front}
use Rattle.palm_base.specs.Key.{packed, key, IsKey}
use Rattle.palm_base.specs.Lows.{PrefixesHold}
use Rattle.palm_base.specs.Prefix.{IsPrefix}
use Rattle.palm_base.specs.Table.{rate_at, or_absent, answer}
use Rattle.palm_base.specs.declared.row.Row.{Row}
use Rattle.palm_base.specs.declared.call.Call.TheVariants.{Rate}
use Rattle.palm_base.specs.declared.call.Reply.{Reply}
use Rattle.palm_base.specs.declared.call.Reply.TheVariants.{Absent, Hit}
use Rattle.palm_base.proofs.Fronts.{front-is_prefix}
use Rattle.palm_base.proofs.FrontSearch.{fronts_find_the_best}
use Rattle.palm_base.proofs.Keys.{digits_of-key, is_key}
use Rattle.palm_arena.specs.Leaves.{LeafPlace}
use Rattle.palm_route.specs.Parts.{front_keys, parts_by_keys, parts_of_call}
use Rattle.palm_route.specs.declared.part.Ask.TheVariants as ask
use Rattle.palm_leaf.specs.Answers.{answers_in}
use Rattle.palm_leaf.proofs.KeptOrder.{NeverFall}
use Rattle.palm_batch.specs.Replies.{hit_or, joined, reply_joined}

-- ---- the reply

-- The reply with what the row of a key has for it.
abbrev looked_up : List Row → Reply → ℕ → Reply
looked_up rows reply k = hit_or k reply (rate_at k rows)

looks_joined : (number : List ℕ) (rows : List Row) (entry i : ℕ) (keys : List ℕ) (reply : Reply) → fold (joined (Rate number)) reply (answers_in rows (parts_by_keys entry i ask.Look keys)) ≡ fold (looked_up rows) reply keys
looks_joined number rows entry i [] reply = refl
looks_joined number rows entry i (k ∷ keys) reply = looks_joined number rows entry (suc i) keys (looked_up rows reply k)

-- One front more, which is a longer one.
longer_front : (front : List ℕ) (other : Option Row) (rate : Option ℕ) → IsPrefix front → hit_or (key front) (or_absent Hit other) rate ≡ or_absent Hit (row_or front other rate)
longer_front front other None is = refl
longer_front front other (Some rate) is = ap (λ (prefix : List ℕ). Hit (record { prefix = prefix; rate = rate })) (digits_of-key front is)

abbrev front_key : List ℕ → ℕ → ℕ
front_key number n = key (take n number)

fronts_joined : (number : List ℕ) (rows : List Row) → IsPrefix number → (n : ℕ) → n ≤ length number → fold (looked_up rows) Absent (map (front_key number) (range_with_len 1 n)) ≡ or_absent Hit (first_front n number rows)
fronts_joined number rows is zero few = refl
fronts_joined number rows is (suc n) few =
    let more : suc n ≡ n + 1 = omega arith in
    ap (λ m. fold (looked_up rows) Absent (map (front_key number) (range_with_len 1 m))) more
    ∙ ap (fold (looked_up rows) Absent) (map-range_with_len_more (front_key number) 1 n (suc n) (omega arith))
    ∙ fold-append (looked_up rows) Absent (map (front_key number) (range_with_len 1 n)) (front_key number (suc n) ∷ [])
    ∙ ap (λ reply. looked_up rows reply (front_key number (suc n))) (fronts_joined number rows is n (omega arith))
    ∙ longer_front (take (suc n) number) (first_front n number rows) (rate_at (front_key number (suc n)) rows) (front-is_prefix (suc n) number is (omega arith) few)

pub rate_joined : (places : List LeafPlace) (rows : List Row) (entry : ℕ) (number : List ℕ) → PrefixesHold rows → IsPrefix number
    → reply_joined (Rate number) (answers_in rows (parts_of_call places entry (Rate number))) ≡ answer rows (Rate number)
rate_joined places rows entry number prefixes is =
    looks_joined number rows entry 0 (front_keys number) Absent ∙ fronts_joined number rows is (length number) (omega arith) ∙ ap (or_absent Hit) (sym (fronts_find_the_best rows number prefixes is))

-- ---- the keys

-- The keys of the fronts are those of prefixes.
fronts_are_keys : (number : List ℕ) (first n : ℕ) → IsPrefix number → 1 ≤ first → first + n ≤ suc (length number) → AllByRecursion IsKey (map (front_key number) (range_with_len first n))
fronts_are_keys number first zero is some few = tt
fronts_are_keys number first (suc n) is some few =
    (is_key (front_key number first) (take first number) (front-is_prefix first number is some (omega arith)) refl, fronts_are_keys number (first + 1) n is (omega arith) (omega arith))

pub front_keys_are : (number : List ℕ) → IsPrefix number → AllByRecursion IsKey (front_keys number)
front_keys_are number is = fronts_are_keys number 1 (length number) is (omega arith) (omega arith)

-- A longer front packs no less.
packed_rises : (k m n : ℕ) (digits : List ℕ) → m ≤ n → packed k (take m digits) ≤ packed k (take n digits)
packed_rises k zero n digits less = omega arith
packed_rises k (suc m) zero digits less = absurd (omega arith)
packed_rises k (suc m) (suc n) [] less = omega arith
packed_rises zero (suc m) (suc n) (d ∷ digits) less = omega arith
packed_rises (suc k) (suc m) (suc n) (d ∷ digits) less = omega (arith, packed_rises k m n digits (omega arith))

key_rises : (m n : ℕ) (number : List ℕ) → m ≤ n → front_key number m ≤ front_key number n
key_rises m n number less = omega (arith, packed_rises 15 m n number less, length-take m number, length-take n number)

-- The keys of the fronts rise.
fronts_above : (number : List ℕ) (least first n : ℕ) → least ≤ first → AllByRecursion (λ later. front_key number least ≤ later) (map (front_key number) (range_with_len first n))
fronts_above number least first zero less = tt
fronts_above number least first (suc n) less = (key_rises least first number less, fronts_above number least (first + 1) n (omega arith))

fronts_rise : (number : List ℕ) (first n : ℕ) → NeverFall (λ k. k) (map (front_key number) (range_with_len first n))
fronts_rise number first zero = tt
fronts_rise number first (suc n) = (fronts_above number first (first + 1) n (omega arith), fronts_rise number (first + 1) n)

pub front_keys_rise : (number : List ℕ) → NeverFall (λ k. k) (front_keys number)
front_keys_rise number = fronts_rise number 1 (length number)
