-- What the records that were read so far say.
use Rattle.std.proofs.Common.{◌≡◌, ℕ, suc, ◌+◌, Bool, true, false, cond, List, [], ◌∷◌, ◌++◌, length, Result, Ok, Err, refl, sym, ap, ap₂, ◌∙◌, arith, append_assoc}
use Rattle.std.proofs.lemmas.List.{length-append}
use Rattle.palm_base.specs.declared.call.Call.{Call}
use Rattle.palm_base.specs.declared.call.Entry.{Entry}
use Rattle.palm_base.specs.History.{numbered}
use Rattle.palm_deck.specs.declared.deck.DeckFault.{DeckFault}
use Rattle.palm_deck.specs.declared.deck.DeckFault.TheVariants.{Bad}
use Rattle.palm_deck.specs.declared.deck.DeckWhy.TheVariants.{Header}
use Rattle.palm_deck.specs.Deck.{Record, is_header, before, call_at, calls_from, calls_in, placed, IsNext}

-- ---- edits one after another

-- the header was read and these edits, or nothing yet
abbrev Said : Bool → List Record → List Call → Type 0
Said false rows calls = (rows ≡ []) × (calls ≡ [])
Said true rows calls =
    (header : Record) × (rest : List Record) × (rows ≡ header ∷ rest) × (is_header header ≡ true)
    × (calls_from 2 rest ≡ Ok calls) × (length rest ≡ length calls)

-- edits without a fault begin with one that has none
abbrev Splits : Result Call DeckFault → Result (List Call) DeckFault → List Call → Type 0
Splits first rest calls = (call : Call) × (more : List Call) × (first ≡ Ok call) × (rest ≡ Ok more) × (call ∷ more ≡ calls)

splits : (first : Result Call DeckFault) (rest : Result (List Call) DeckFault) (calls : List Call) → before first rest ≡ Ok calls → Splits first rest calls
splits (Err fault) rest calls h = absurd (cc)
splits (Ok call) (Err fault) calls h = absurd (cc)
splits (Ok call) (Ok more) calls h = (call, more, refl, refl, cc)

none_of : (calls : List Call) → ◌≡◌ {A = Result (List Call) DeckFault} (Ok []) (Ok calls) → [] ≡ calls
none_of calls h = cc

next_place : (n : ℕ) (x : Record) (xs : List Record) → n + length (x ∷ xs) ≡ (n + 1) + length xs
next_place n x xs = omega arith

-- one more record behind them, that says an edit
calls_more : (n : ℕ) (rows : List Record) (fields : Record) (calls : List Call) (call : Call) → calls_from n rows ≡ Ok calls
    → call_at (n + length rows) fields ≡ Ok call → calls_from n (rows ++ fields ∷ []) ≡ Ok (calls ++ call ∷ [])
calls_more n [] fields calls call all one =
    let here : n + length {A = Record} [] ≡ n = omega arith in
    ap (λ o. before o (Ok [])) (ap (λ k. call_at k fields) (sym here) ∙ one) ∙ ap (λ (l : List Call). Ok (l ++ call ∷ [])) (none_of calls all)
calls_more n (x ∷ xs) fields calls call all one =
    let s = splits (call_at n x) (calls_from (n + 1) xs) calls all in
    let rest = calls_more (n + 1) xs fields s.1 call s.3 (ap (λ k. call_at k fields) (sym (next_place n x xs)) ∙ one) in
    ap₂ before s.2 rest ∙ ap (λ (l : List Call). Ok (l ++ call ∷ [])) s.4

-- one that has a fault, whatever stands behind it
calls_fault : (n : ℕ) (rows : List Record) (fields : Record) (more : List Record) (calls : List Call) (fault : DeckFault) → calls_from n rows ≡ Ok calls
    → call_at (n + length rows) fields ≡ Err fault → calls_from n (rows ++ fields ∷ more) ≡ Err fault
calls_fault n [] fields more calls fault all one =
    let here : n + length {A = Record} [] ≡ n = omega arith in
    ap (λ o. before o (calls_from (n + 1) more)) (ap (λ k. call_at k fields) (sym here) ∙ one)
calls_fault n (x ∷ xs) fields more calls fault all one =
    let s = splits (call_at n x) (calls_from (n + 1) xs) calls all in
    ap₂ before s.2 (calls_fault (n + 1) xs fields more s.1 fault s.3 (ap (λ k. call_at k fields) (sym (next_place n x xs)) ∙ one))

-- ---- edits as entries

abbrev entry_at : ℕ → Call → Entry
entry_at place call = record { caller = 0; place = place; call = call }

length-numbered : (place : ℕ) (calls : List Call) → length (numbered 0 place calls) ≡ length calls
length-numbered place [] = refl
length-numbered place (call ∷ calls) = ap suc (length-numbered (place + 1) calls)

numbered_more : (place : ℕ) (calls : List Call) (call : Call) → numbered 0 place (calls ++ call ∷ []) ≡ numbered 0 place calls ++ entry_at (place + length calls) call ∷ []
numbered_more place [] call =
    let here : place ≡ place + length {A = Call} [] = omega arith in
    ap (λ n. entry_at n call ∷ []) here
numbered_more place (x ∷ xs) call =
    let there : (place + 1) + length xs ≡ place + length (x ∷ xs) = omega arith in
    ap (λ (l : List Entry). entry_at place x ∷ l) (numbered_more (place + 1) xs call ∙ ap (λ n. numbered 0 (place + 1) xs ++ entry_at n call ∷ []) there)

-- the header was read and the edits that these entries place, or nothing yet
abbrev pub Held : Bool → List Record → List Entry → Type 0
Held headed rows entries = (calls : List Call) × Said headed rows calls × (entries ≡ numbered 0 0 calls)

count_is : (entries : List Entry) (calls : List Call) → entries ≡ numbered 0 0 calls → length entries ≡ length calls
count_is entries calls e = ap length e ∙ length-numbered 0 calls

-- ---- record by record

pub held_none : Held false [] []
held_none = ([], (refl, refl), refl)

pub held_header : (rows : List Record) (entries : List Entry) (fields : Record) → Held false rows entries → is_header fields ≡ true → Held true (rows ++ fields ∷ []) entries
held_header rows entries fields (calls, said, is) header =
    (calls, (fields, [], ap (λ (l : List Record). l ++ fields ∷ []) said.0, header, ap (λ (l : List Call). Ok l) (sym said.1), sym (ap length said.1)), is)

pub held_more : (rows : List Record) (entries more : List Entry) (fields : Record) → Held true rows entries → IsNext fields entries more → Held true (rows ++ fields ∷ []) more
held_more rows entries more fields (calls, (header, rest, rows-are, is, said, size), entries-are) (call, one, more-are) =
    let count : length entries ≡ length calls = count_is entries calls entries-are in
    let place : length entries + 2 ≡ 2 + length rest = omega (arith, size, count) in
    let from_none : length entries ≡ 0 + length calls = omega (arith, count) in (
      calls ++ call ∷ [],
      (
        header,
        rest ++ fields ∷ [],
        ap (λ (l : List Record). l ++ fields ∷ []) rows-are,
        is,
        calls_more 2 rest fields calls call said (ap (λ k. call_at k fields) (sym place) ∙ one),
        length-append rest (fields ∷ []) ∙ ap (λ k. k + 1) size ∙ sym (length-append calls (call ∷ [])),
      ),
      more-are ∙ ap₂ (λ (l : List Entry) (n : ℕ). l ++ entry_at n call ∷ []) entries-are from_none ∙ sym (numbered_more 0 calls call),
    )

pub all_said : (all rows : List Record) (entries : List Entry) → all ≡ rows → Held true rows entries → placed (calls_in all) ≡ Ok entries
all_said all rows entries e (calls, (header, rest, rows-are, is, said, size), entries-are) =
    ap (λ (l : List Record). placed (calls_in l)) (e ∙ rows-are) ∙ ap (λ b. placed (cond b (calls_from 2 rest) (Err (Bad 1 Header)))) is
    ∙ ap placed said ∙ ap (λ (l : List Entry). Ok l) (sym entries-are)

pub nothing_said : (all rows : List Record) (entries : List Entry) → all ≡ rows → Held false rows entries → placed (calls_in all) ≡ Err (Bad 1 Header)
nothing_said all rows entries e (calls, said, is) = ap (λ (l : List Record). placed (calls_in l)) (e ∙ said.0)

-- ---- the first fault, whatever stands behind it

pub header_fault : (all rows : List Record) (entries : List Entry) (fields : Record) (more : List Record) → all ≡ (rows ++ fields ∷ []) ++ more
    → Held false rows entries → is_header fields ≡ false → placed (calls_in all) ≡ Err (Bad 1 Header)
header_fault all rows entries fields more e (calls, said, entries-are) is =
    ap (λ (l : List Record). placed (calls_in l)) (e ∙ ap (λ (l : List Record). (l ++ fields ∷ []) ++ more) said.0)
    ∙ ap (λ b. placed (cond b (calls_from 2 more) (Err (Bad 1 Header)))) is

pub edit_fault : (all rows : List Record) (entries : List Entry) (fields : Record) (more : List Record) (fault : DeckFault) → all ≡ (rows ++ fields ∷ []) ++ more
    → Held true rows entries → call_at (length entries + 2) fields ≡ Err fault → placed (calls_in all) ≡ Err fault
edit_fault all rows entries fields more fault e (calls, (header, rest, rows-are, is, said, size), entries-are) one =
    let count : length entries ≡ length calls = count_is entries calls entries-are in
    let place : length entries + 2 ≡ 2 + length rest = omega (arith, size, count) in
    ap (λ (l : List Record). placed (calls_in l)) (e ∙ ap (λ (l : List Record). (l ++ fields ∷ []) ++ more) rows-are)
    ∙ ap (λ b. placed (cond b (calls_from 2 ((rest ++ fields ∷ []) ++ more)) (Err (Bad 1 Header)))) is
    ∙ ap (λ (l : List Record). placed (calls_from 2 l)) (append_assoc rest (fields ∷ []) more)
    ∙ ap placed (calls_fault 2 rest fields more calls fault said (ap (λ k. call_at k fields) (sym place) ∙ one))
