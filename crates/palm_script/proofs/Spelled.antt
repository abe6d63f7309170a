-- Lines in their plain spelling read as what they say.
use Rattle.std.proofs.Common.{◌≡◌, ℕ, ◌≤◌, ◌<◌, ◌^◌, true, false, cond, ltb, List, [], ◌∷◌, ◌++◌, length, Ok, Err, refl, ap, ◌∙◌, arith}
use Rattle.std.specs.Prelude.{codes, is_ok}
use Rattle.std.specs.Fmt.{decimal}
use Rattle.std.specs.Result.{result_map_both}
use Rattle.std.proofs.lemmas.Bool.{le-ltb}
use Rattle.std.proofs.lemmas.List.{length-append}
use Rattle.palm_base.specs.Numbers.{is_rate}
use Rattle.palm_base.specs.Prefix.{IsPrefix, is_dialled}
use Rattle.palm_base.specs.Text.{digits_text}
use Rattle.palm_base.specs.declared.digits.TheConstants.{MOST_DIGITS}
use Rattle.palm_base.specs.declared.amount.TheConstants.{MOST_RATE, MOST_LIMIT}
use Rattle.palm_base.specs.declared.call.Call.{Call}
use Rattle.palm_base.specs.declared.call.Call.TheVariants.{Set, Del, Get, Rate, List as Listing}
use Rattle.palm_base.proofs.Numerals.{IsDigitText, decimal_text, value_of-decimal, length-decimal, is_from_to-decimal, length-digits_text, prefix_text, digits_in-digits_text, read_of-digits_text}
use Rattle.palm_script.specs.Laws.{LinesReadBack}
use Rattle.palm_script.specs.Line.{fields, is_caller, is_limit, set_of, del_of, get_of, rate_of, list_of, call_of, made_by, said_by, meaning_of}
use Rattle.palm_script.specs.Spelling.{call_text, plain_text, IsSayableCall, IsSayable}
use Rattle.palm_script.specs.declared.line.TheConstants.{MOST_CALLER, MOST_LINE}
use Rattle.palm_script.specs.declared.line.Line.{Line}
use Rattle.palm_script.specs.declared.line.Line.TheVariants.{Skip, Made, Cut, Dump}
use Rattle.palm_script.specs.declared.line.LineWhy.TheVariants.{Long}
use Rattle.palm_script.proofs.Fields.{one_field, field_before}
use Rattle.palm_script.proofs.Numerals.{no_blank, other_first}

-- ---- fields

last_field : (text : List ℕ) → IsDigitText text → fields text ≡ text ∷ []
last_field text h = one_field text h.some (no_blank text h)

next_field : (text rest : List ℕ) → IsDigitText text → fields (text ++ 32 ∷ rest) ≡ text ∷ fields rest
next_field text rest h = field_before text 32 rest h.some (no_blank text h) refl

dialled : (ds : List ℕ) → IsPrefix ds → is_dialled (digits_text ds) ≡ true
dialled ds h = ap is_ok (read_of-digits_text ds h)

-- ---- calls

set_reads : (prefix : List ℕ) (rate : ℕ) → IsSayableCall (Set prefix rate) → set_of (fields (digits_text prefix ++ (codes " " ++ decimal rate))) ≡ Ok (Set prefix rate)
set_reads prefix rate (h, high) =
    let small : rate < 2 ^ 64 = omega arith in
    let parts : fields (digits_text prefix ++ (codes " " ++ decimal rate)) ≡ digits_text prefix ∷ decimal rate ∷ [] =
    next_field (digits_text prefix) (decimal rate) (prefix_text prefix h) ∙ ap (λ (l : List (List ℕ)). digits_text prefix ∷ l) (last_field (decimal rate) (decimal_text rate)) in
    let is : is_rate (decimal rate) ≡ true = is_from_to-decimal 0 MOST_RATE rate small (omega arith) high in
    ap set_of parts ∙ rw (dialled prefix h, is, digits_in-digits_text prefix, value_of-decimal rate small) refl

del_reads : (prefix : List ℕ) → IsPrefix prefix → del_of (fields (digits_text prefix)) ≡ Ok (Del prefix)
del_reads prefix h = ap del_of (last_field (digits_text prefix) (prefix_text prefix h)) ∙ rw (dialled prefix h, digits_in-digits_text prefix) refl

get_reads : (prefix : List ℕ) → IsPrefix prefix → get_of (fields (digits_text prefix)) ≡ Ok (Get prefix)
get_reads prefix h = ap get_of (last_field (digits_text prefix) (prefix_text prefix h)) ∙ rw (dialled prefix h, digits_in-digits_text prefix) refl

rate_reads : (number : List ℕ) → IsPrefix number → rate_of (fields (digits_text number)) ≡ Ok (Rate number)
rate_reads number h = ap rate_of (last_field (digits_text number) (prefix_text number h)) ∙ rw (dialled number h, digits_in-digits_text number) refl

list_reads : (from to : List ℕ) (limit : ℕ) → IsSayableCall (Listing from to limit)
    → list_of (fields (digits_text from ++ (codes " " ++ (digits_text to ++ (codes " " ++ decimal limit))))) ≡ Ok (Listing from to limit)
list_reads from to limit (h, k, low, high) =
    let small : limit < 2 ^ 64 = omega arith in
    let ends : fields (digits_text to ++ (codes " " ++ decimal limit)) ≡ digits_text to ∷ decimal limit ∷ [] =
    next_field (digits_text to) (decimal limit) (prefix_text to k) ∙ ap (λ (l : List (List ℕ)). digits_text to ∷ l) (last_field (decimal limit) (decimal_text limit)) in
    let parts : fields (digits_text from ++ (codes " " ++ (digits_text to ++ (codes " " ++ decimal limit)))) ≡ digits_text from ∷ digits_text to ∷ decimal limit ∷ [] =
    next_field (digits_text from) (digits_text to ++ (codes " " ++ decimal limit)) (prefix_text from h) ∙ ap (λ (l : List (List ℕ)). digits_text from ∷ l) ends in
    let is : is_limit (decimal limit) ≡ true = is_from_to-decimal 1 MOST_LIMIT limit small low high in
    ap list_of parts ∙ rw (dialled from h, dialled to k, is, digits_in-digits_text from, digits_in-digits_text to, value_of-decimal limit small) refl

call_reads : (call : Call) → IsSayableCall call → call_of (fields (call_text call)) ≡ Ok call
call_reads (Set prefix rate) h = set_reads prefix rate h
call_reads (Del prefix) h = del_reads prefix h
call_reads (Get prefix) h = get_reads prefix h
call_reads (Rate number) h = rate_reads number h
call_reads (Listing from to limit) h = list_reads from to limit h

-- ---- lengths

prefix_short : (ds : List ℕ) → IsPrefix ds → length (digits_text ds) ≤ MOST_DIGITS
prefix_short ds h = omega (arith, length-digits_text ds, h.few)

call_short : (call : Call) → IsSayableCall call → length (call_text call) ≤ 100
call_short (Set prefix rate) h = omega (arith, length-append (digits_text prefix) (codes " " ++ decimal rate), prefix_short prefix h.0, length-decimal rate (omega (arith, h.1)))
call_short (Del prefix) h = omega (arith, prefix_short prefix h)
call_short (Get prefix) h = omega (arith, prefix_short prefix h)
call_short (Rate number) h = omega (arith, prefix_short number h)
call_short (Listing from to limit) (h, k, low, high) =
    let back : List ℕ = digits_text to ++ (codes " " ++ decimal limit) in
    omega (arith, length-append (digits_text from) (codes " " ++ back), length-append (digits_text to) (codes " " ++ decimal limit), prefix_short from h, prefix_short to k, length-decimal limit (omega arith))

-- ---- lines

-- a line whose first field is a text of digits is neither skipped nor a word alone
no_word : (first : List ℕ) (others : List (List ℕ)) → IsDigitText first → said_by (first ∷ others) ≡ made_by first others
no_word [] others h = absurd (omega (arith, h.some))
no_word (b ∷ bs) others h = rw (other_first b 35 bs h refl, other_first b 99 bs h refl, other_first b 100 bs h refl) refl

made_reads : (caller : ℕ) (call : Call) → IsSayable (Made caller call) → meaning_of (plain_text (Made caller call)) ≡ Ok (Made caller call)
made_reads caller call (few, h) =
    let small : caller < 2 ^ 64 = omega arith in
    let text : List ℕ = plain_text (Made caller call) in
    let short : ltb MOST_LINE (length text) ≡ false = le-ltb MOST_LINE (length text) (omega (arith, length-append (decimal caller) (codes " " ++ call_text call), length-decimal caller small, call_short call h)) in
    let parts : fields text ≡ decimal caller ∷ fields (call_text call) = next_field (decimal caller) (call_text call) (decimal_text caller) in
    let is : is_caller (decimal caller) ≡ true = is_from_to-decimal 0 MOST_CALLER caller small (omega arith) few in
    ap (λ b. cond b (Err Long) (said_by (fields text))) short ∙ ap said_by parts ∙ no_word (decimal caller) (fields (call_text call)) (decimal_text caller)
    ∙ rw (is, value_of-decimal caller small, call_reads call h) refl

means : (line : Line) → IsSayable line → meaning_of (plain_text line) ≡ Ok line
means Skip h = refl
means (Made caller call) h = made_reads caller call h
means Cut h = refl
means Dump h = refl

pub reads_back : LinesReadBack
reads_back line n h = ap (result_map_both (λ line. line) (λ why. record { line = n; why = why })) (means line h)
