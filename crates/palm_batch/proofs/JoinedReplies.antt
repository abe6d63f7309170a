-- The replies that answers make, one answer more at a time.
use Rattle.std.proofs.Common.{◌≡◌, ℕ, zero, suc, ◌+◌, ◌<◌, List, [], ◌∷◌, ◌++◌, length, map, get_or, set, refl, sym, ap, subst, ◌∙◌, arith}
use Rattle.std.specs.List.{fold}
use Rattle.std.proofs.lemmas.Bool.{eq-eqb, ne_eqb}
use Rattle.std.proofs.lemmas.List.{append-nil}
use Rattle.std.proofs.lemmas.List.Elements.{filter-append}
use Rattle.std.proofs.lemmas.List.Sums.{fold-append}
use Rattle.palm_base.specs.declared.row.Row.{Row}
use Rattle.palm_base.specs.declared.call.Call.{Call}
use Rattle.palm_base.specs.declared.call.Call.TheVariants.{Set, Del, Get, Rate, List as Listing}
use Rattle.palm_base.specs.declared.call.Entry.{Entry}
use Rattle.palm_base.specs.declared.call.Reply.{Reply}
use Rattle.palm_base.specs.declared.call.Reply.TheVariants.{New, Was, Gone, Absent, Value, Hit, Rows}
use Rattle.palm_tree.proofs.Limits.{take_short}
use Rattle.palm_leaf.specs.declared.answer.LeafAnswer.{LeafAnswer}
use Rattle.palm_leaf.specs.declared.answer.LeafAnswer.TheVariants.{Old, Found}
use Rattle.palm_leaf.specs.declared.answer.PartAnswer.{PartAnswer}
use Rattle.palm_batch.specs.Replies.{unanswered, with_more, with_answer, joined, reply_joined, answers_to, replies_joined, IsRows, IsSoFar}

-- ---- a List's reply is rows

more_rows : (limit : ℕ) (found : List Row) (reply : Reply) → IsRows limit reply → IsRows limit (with_more limit found reply)
more_rows limit found (Rows rows) is = take_short limit (rows ++ found)
more_rows limit found New is = absurd is
more_rows limit found (Was old) is = absurd is
more_rows limit found (Gone rate) is = absurd is
more_rows limit found Absent is = absurd is
more_rows limit found (Value rate) is = absurd is
more_rows limit found (Hit row) is = absurd is

answer_rows : (from to : List ℕ) (limit k : ℕ) (answer : LeafAnswer) (reply : Reply) → IsRows limit reply → IsRows limit (with_answer (Listing from to limit) k answer reply)
answer_rows from to limit k (Old old) reply is = is
answer_rows from to limit k (Found found) reply is = more_rows limit found reply is

all_rows : (from to : List ℕ) (limit : ℕ) (answers : List PartAnswer) (reply : Reply) → IsRows limit reply → IsRows limit (fold (joined (Listing from to limit)) reply answers)
all_rows from to limit [] reply is = is
all_rows from to limit (a ∷ answers) reply is = all_rows from to limit answers (joined (Listing from to limit) reply a) (answer_rows from to limit a.part.key a.answer reply is)

is_so_far : (call : Call) (answers : List PartAnswer) → IsSoFar call (reply_joined call answers)
is_so_far (Set prefix rate) answers = tt
is_so_far (Del prefix) answers = tt
is_so_far (Get prefix) answers = tt
is_so_far (Rate number) answers = tt
is_so_far (Listing from to limit) answers = all_rows from to limit answers (Rows []) (omega arith)

-- ---- the reply at a place

reply_at : (first : ℕ) (entries : List Entry) (answers : List PartAnswer) (i : ℕ) (d : Reply) (e : Entry) → i < length entries
    → get_or (replies_joined first entries answers) i d ≡ reply_joined (get_or entries i e).call (answers_to (first + i) answers)
reply_at first [] answers i d e inside = absurd (omega arith)
reply_at first (entry ∷ entries) answers zero d e inside = let same : first ≡ first + 0 = omega arith in ap (λ n. reply_joined entry.call (answers_to n answers)) same
reply_at first (entry ∷ entries) answers (suc i) d e inside =
    let same : suc first + i ≡ first + suc i = omega arith in
    reply_at (suc first) entries answers i d e (omega arith) ∙ ap (λ n. reply_joined (get_or entries i e).call (answers_to n answers)) same

pub so_far_at : (batch : List Entry) (answers : List PartAnswer) (replies : List Reply) (i : ℕ) (d : Reply) (e : Entry) → replies ≡ replies_joined 0 batch answers → i < length batch
    → IsSoFar (get_or batch i e).call (get_or replies i d)
so_far_at batch answers replies i d e are inside =
    let here = ap (λ replies. get_or replies i d) are ∙ reply_at 0 batch answers i d e inside in
    subst (IsSoFar (get_or batch i e).call) (sym here) (is_so_far (get_or batch i e).call (answers_to (0 + i) answers))

-- ---- no answer yet, and one more

pub none_joined : (first : ℕ) (entries : List Entry) → map (λ (entry : Entry). unanswered entry.call) entries ≡ replies_joined first entries []
none_joined first [] = refl
none_joined first (entry ∷ entries) = ap (λ (replies : List Reply). unanswered entry.call ∷ replies) (none_joined (suc first) entries)

-- The answers to an entry, with one more.
own_more : (entry : ℕ) (answers : List PartAnswer) (a : PartAnswer) → a.part.entry ≡ entry → answers_to entry (answers ++ a ∷ []) ≡ answers_to entry answers ++ a ∷ []
own_more entry answers a own = filter-append _ answers (a ∷ []) ∙ ap (λ more. answers_to entry answers ++ more) (rw (eq-eqb a.part.entry entry own) refl)

other_more : (entry : ℕ) (answers : List PartAnswer) (a : PartAnswer) → (a.part.entry ≡ entry → ⊥) → answers_to entry (answers ++ a ∷ []) ≡ answers_to entry answers
other_more entry answers a other =
    filter-append _ answers (a ∷ []) ∙ ap (λ more. answers_to entry answers ++ more) (rw (ne_eqb a.part.entry entry other) refl) ∙ append-nil (answers_to entry answers)

-- An answer to an earlier entry changes none of these replies.
earlier_more : (first : ℕ) (entries : List Entry) (answers : List PartAnswer) (a : PartAnswer) → a.part.entry < first → replies_joined first entries (answers ++ a ∷ []) ≡ replies_joined first entries answers
earlier_more first [] answers a earlier = refl
earlier_more first (entry ∷ entries) answers a earlier =
    ap (λ own. reply_joined entry.call own ∷ replies_joined (suc first) entries (answers ++ a ∷ [])) (other_more first answers a (λ e. omega (arith, e, earlier)))
    ∙ ap (λ replies. reply_joined entry.call (answers_to first answers) ∷ replies) (earlier_more (suc first) entries answers a (omega (arith, earlier)))

answer_more : (first : ℕ) (entries : List Entry) (answers : List PartAnswer) (a : PartAnswer) (i : ℕ) (d : Reply) (e : Entry) → a.part.entry ≡ first + i → i < length entries
    → replies_joined first entries (answers ++ a ∷ []) ≡ set (replies_joined first entries answers) i (joined (get_or entries i e).call (get_or (replies_joined first entries answers) i d) a)
answer_more first [] answers a i d e at inside = absurd (omega arith)
answer_more first (entry ∷ entries) answers a zero d e at inside =
    ap (λ own. reply_joined entry.call own ∷ replies_joined (suc first) entries (answers ++ a ∷ [])) (own_more first answers a (omega (arith, at)))
    ∙ ap (λ reply. reply ∷ replies_joined (suc first) entries (answers ++ a ∷ [])) (fold-append (joined entry.call) (unanswered entry.call) (answers_to first answers) (a ∷ []))
    ∙ ap (λ replies. joined entry.call (reply_joined entry.call (answers_to first answers)) a ∷ replies) (earlier_more (suc first) entries answers a (omega (arith, at)))
answer_more first (entry ∷ entries) answers a (suc i) d e at inside =
    ap (λ own. reply_joined entry.call own ∷ replies_joined (suc first) entries (answers ++ a ∷ [])) (other_more first answers a (λ same. omega (arith, same, at)))
    ∙ ap (λ replies. reply_joined entry.call (answers_to first answers) ∷ replies) (answer_more (suc first) entries answers a i d e (omega (arith, at)) (omega arith))

pub one_joined : (batch : List Entry) (answers : List PartAnswer) (a : PartAnswer) (replies : List Reply) (reply : Reply) (d : Reply) (e : Entry) → replies ≡ replies_joined 0 batch answers → a.part.entry < length batch
    → reply ≡ joined (get_or batch a.part.entry e).call (get_or replies a.part.entry d) a → set replies a.part.entry reply ≡ replies_joined 0 batch (answers ++ a ∷ [])
one_joined batch answers a replies reply d e are inside is =
    let at : a.part.entry ≡ 0 + a.part.entry = omega arith in
    ap (set replies a.part.entry) is ∙ ap (λ now. set now a.part.entry (joined (get_or batch a.part.entry e).call (get_or now a.part.entry d) a)) are
    ∙ sym (answer_more 0 batch answers a a.part.entry d e at inside)
