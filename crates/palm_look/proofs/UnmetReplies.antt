-- The answer to a look-up that no edit of its batch meets is its reply.
use Rattle.std.proofs.Common.{◌≡◌, ℕ, zero, suc, List, [], ◌∷◌, ◌++◌, length, take, filter, arith, refl, sym, ap, ◌∙◌, subst}
use Rattle.std.specs.Prelude.{slice_get, IsPermutation, Option, None, Some}
use Rattle.std.specs.List.{AllByRecursion, AllZip}
use Rattle.std.proofs.lemmas.Slice.Zip.{AllZip-long}
use Rattle.std.proofs.lemmas.List.Elements.{recursion_from_All, All-from_recursion}
use Rattle.std.proofs.lemmas.List.Sorted.{All-permutation, IsPermutation-sym}
use Rattle.palm_base.specs.Key.{key}
use Rattle.palm_base.specs.Lawful.{IsLawful}
use Rattle.palm_base.specs.Lows.{PrefixesHold, SetsPrefix, LowsAreKeys}
use Rattle.palm_base.specs.Tree.{Tree, rows_of}
use Rattle.palm_base.specs.Table.{answer, lies_within, IsTable}
use Rattle.palm_base.specs.History.{calls_of, replies_to}
use Rattle.palm_base.specs.LookUps.{NoEditAt, EditsAt, Matters, IsBetween, RatesDigits, row_at_limit, last_key}
use Rattle.palm_base.specs.declared.row.Row.{Row}
use Rattle.palm_base.specs.declared.call.Call.{Call}
use Rattle.palm_base.specs.declared.call.Call.TheVariants.{Set, Del, Get, Rate, List as Listing}
use Rattle.palm_base.specs.declared.call.Entry.{Entry}
use Rattle.palm_base.specs.declared.call.Reply.{Reply}
use Rattle.palm_base.proofs.LiteralTrees.{lawful_table}
use Rattle.palm_base.proofs.Lows.{prefixes_in}
use Rattle.palm_base.proofs.Replies.{replies_are_as_many}
use Rattle.palm_base.proofs.KeptAnswers.{no_edit_before, replies_hold}
use Rattle.palm_look.specs.EditKeys.{key_edited, keys_edited}
use Rattle.palm_look.specs.Met.{HasNone, HasOne, MattersTo}
use Rattle.palm_look.specs.Unmet.{IsKnown, IsKnownUnlessMet, IsJudged}

-- ---- which keys matter, by the table and by the reply

first_at : (n : ℕ) (rows : List Row) → slice_get (take (suc n) rows) n ≡ slice_get rows n
first_at n [] = refl
first_at zero (row ∷ rows) = refl
first_at (suc n) (row ∷ rows) = first_at n rows

-- As many rows as a limit allows reach it where all do.
limit_reached : (limit : ℕ) (rows : List Row) → row_at_limit limit (take limit rows) ≡ row_at_limit limit rows
limit_reached zero rows = refl
limit_reached (suc n) rows = first_at n rows

-- A call's answer on a table tells which keys matter to it.
pub matters_alike : (rows : List Row) (call : Call) → MattersTo call (answer rows call) ≡ Matters rows call
matters_alike rows (Set prefix rate) = refl
matters_alike rows (Del prefix) = refl
matters_alike rows (Get prefix) = refl
matters_alike rows (Rate number) = refl
matters_alike rows (Listing from to limit) =
    ap (λ last k. IsBetween (key from) (last_key (key to) last) k) (limit_reached limit (filter (lies_within (key from) (key to)) rows))

-- ---- edits and their keys

-- What holds of the keys of a call and of more holds of the call's edit and of these.
edit_by_key : (P : ℕ → Type 0) (call : Call) (keys : List ℕ) → AllByRecursion P (key_edited call ++ keys) → EditsAt P call × AllByRecursion P keys
edit_by_key P (Set prefix rate) keys all = all
edit_by_key P (Del prefix) keys all = all
edit_by_key P (Get prefix) keys all = (tt, all)
edit_by_key P (Rate number) keys all = (tt, all)
edit_by_key P (Listing from to limit) keys all = (tt, all)

key_by_edit : (P : ℕ → Type 0) (call : Call) (keys : List ℕ) → EditsAt P call → AllByRecursion P keys → AllByRecursion P (key_edited call ++ keys)
key_by_edit P (Set prefix rate) keys own all = (own, all)
key_by_edit P (Del prefix) keys own all = (own, all)
key_by_edit P (Get prefix) keys own all = all
key_by_edit P (Rate number) keys own all = all
key_by_edit P (Listing from to limit) keys own all = all

no_edit_by_keys : (P : ℕ → Type 0) (batch : List Entry) → AllByRecursion (λ k. P k → ⊥) (keys_edited batch) → NoEditAt P (calls_of batch)
no_edit_by_keys P [] none = tt
no_edit_by_keys P (entry ∷ batch) none =
    let both = edit_by_key (λ k. P k → ⊥) entry.call (keys_edited batch) none in
    (both.0, no_edit_by_keys P batch both.1)

no_key_by_edits : (P : ℕ → Type 0) (batch : List Entry) → NoEditAt P (calls_of batch) → AllByRecursion (λ k. P k → ⊥) (keys_edited batch)
no_key_by_edits P [] none = tt
no_key_by_edits P (entry ∷ batch) none = key_by_edit (λ k. P k → ⊥) entry.call (keys_edited batch) none.0 (no_key_by_edits P batch none.1)

-- No edit is at a key with a property exactly where none of the sorted keys has it.
pub unmet_by_keys : (P : ℕ → Type 0) (batch : List Entry) (keys : List ℕ) → IsPermutation (keys_edited batch) keys → HasNone P keys → NoEditAt P (calls_of batch)
unmet_by_keys P batch keys same none =
    no_edit_by_keys P batch (recursion_from_All (λ k. P k → ⊥) (keys_edited batch) (All-permutation (λ k. P k → ⊥) keys (keys_edited batch) (IsPermutation-sym (keys_edited batch) keys same) none))

pub met_by_keys : (P : ℕ → Type 0) (batch : List Entry) (keys : List ℕ) → IsPermutation (keys_edited batch) keys → HasOne P keys → ¬ NoEditAt P (calls_of batch)
met_by_keys P batch keys same one none =
    one (All-permutation (λ k. P k → ⊥) (keys_edited batch) keys same (All-from_recursion (λ k. P k → ⊥) (keys_edited batch) (no_key_by_edits P batch none)))

-- ---- the replies

at_both : {A B : Type 0} (R : A → B → Type 0) (xs : List A) (ys : List B) → length ys ≡ length xs
    → ((n : ℕ) (x : A) (y : B) → slice_get xs n ≡ Some x → slice_get ys n ≡ Some y → R x y) → AllZip R xs ys
at_both R [] [] same each = tt
at_both R [] (y ∷ ys) same each = absurd (omega (arith, same))
at_both R (x ∷ xs) [] same each = absurd (omega (arith, same))
at_both R (x ∷ xs) (y ∷ ys) same each = (each 0 x y refl refl, at_both R xs ys (omega (arith, same)) (λ n. each (suc n)))

some_is : {X : Type 0} (x y : X) → Some x ≡ Some y → x ≡ y
some_is x y e = cc

-- What a table has for the digits of a call.
pub record AreFair (rows : List Row) (batch : List Entry) : Type 0 where
  pub table : IsTable rows
  pub prefixes : PrefixesHold rows
  pub sets : AllByRecursion SetsPrefix (calls_of batch)

known_at : (rows : List Row) (batch : List Entry) (keys : List ℕ) (n : ℕ) (entry : Entry) (answer : Option Reply) (reply : Reply)
    → AreFair rows batch → IsPermutation (keys_edited batch) keys → slice_get batch n ≡ Some entry → slice_get (replies_to rows batch) n ≡ Some reply
    → IsJudged rows keys entry answer → IsKnown answer reply
known_at rows batch keys n entry None reply fair same at replied judged = tt
known_at rows batch keys n entry (Some known) reply fair same at replied judged =
    let none : NoEditAt (Matters rows entry.call) (calls_of batch) = unmet_by_keys (Matters rows entry.call) batch keys same (subst (λ P. HasNone P keys) (matters_alike rows entry.call) (subst (λ r. HasNone (MattersTo entry.call r) keys) judged.answer judged.none)) in
    let holds = replies_hold rows batch n entry fair.table fair.prefixes fair.sets judged.digits at (no_edit_before (Matters rows entry.call) n batch none) in
    judged.answer ∙ some_is (answer rows entry.call) reply (sym holds ∙ replied)

at_left : {A B : Type 0} (R : A → B → Type 0) (xs : List A) (ys : List B) (n : ℕ) (y : B) → AllZip R xs ys → slice_get ys n ≡ Some y → (x : A) × (slice_get xs n ≡ Some x) × R x y
at_left R [] [] n y zip at = cc
at_left R [] (w ∷ ys) n y zip at = absurd zip
at_left R (x ∷ xs) [] n y zip at = absurd zip
at_left R (x ∷ xs) (w ∷ ys) zero y zip at = (x, refl, subst (R x) (some_is w y at) zip.0)
at_left R (x ∷ xs) (w ∷ ys) (suc n) y zip at = at_left R xs ys n y zip.1 at

-- So what is known of the replies to a batch are these replies,
pub all_known : (rows : List Row) (batch : List Entry) (keys : List ℕ) (answers : List (Option Reply)) → AreFair rows batch → IsPermutation (keys_edited batch) keys
    → AllZip (IsJudged rows keys) batch answers → AllZip IsKnown answers (replies_to rows batch)
all_known rows batch keys answers fair same judged =
    at_both IsKnown answers (replies_to rows batch) (replies_are_as_many rows batch ∙ sym (AllZip-long (IsJudged rows keys) batch answers judged))
    (λ n answer reply at replied.
    let own = at_left (IsJudged rows keys) batch answers n answer judged at in
    known_at rows batch keys n own.0 answer reply fair same own.1 replied own.2)

-- and nothing is known of a look-up's only where an edit meets it.
unless_met : (rows : List Row) (batch : List Entry) (keys : List ℕ) (entry : Entry) (answer : Option Reply) → IsPermutation (keys_edited batch) keys → IsJudged rows keys entry answer → IsKnownUnlessMet rows batch answer entry
unless_met rows batch keys entry None same judged = λ look.
    met_by_keys (Matters rows entry.call) batch keys same (subst (λ P. HasOne P keys) (matters_alike rows entry.call) (judged look))
unless_met rows batch keys entry (Some known) same judged = judged.look-up

zip_other : {A B : Type 0} (R : A → B → Type 0) (S : B → A → Type 0) (xs : List A) (ys : List B) → ((x : A) (y : B) → R x y → S y x) → AllZip R xs ys → AllZip S ys xs
zip_other R S [] [] each zip = tt
zip_other R S [] (y ∷ ys) each zip = absurd zip
zip_other R S (x ∷ xs) [] each zip = absurd zip
zip_other R S (x ∷ xs) (y ∷ ys) each zip = (each x y zip.0, zip_other R S xs ys each zip.1)

pub all_unless_met : (rows : List Row) (batch : List Entry) (keys : List ℕ) (answers : List (Option Reply)) → IsPermutation (keys_edited batch) keys
    → AllZip (IsJudged rows keys) batch answers → AllZip (IsKnownUnlessMet rows batch) answers batch
all_unless_met rows batch keys answers same judged =
    zip_other (IsJudged rows keys) (IsKnownUnlessMet rows batch) batch answers (λ entry answer. unless_met rows batch keys entry answer same) judged

-- ---- the table of a tree

calls_set : (batch : List Entry) → AllByRecursion (λ entry. SetsPrefix entry.call) batch → AllByRecursion SetsPrefix (calls_of batch)
calls_set [] sets = tt
calls_set (entry ∷ batch) sets = (sets.0, calls_set batch sets.1)

pub fair_tree : (tree : Tree) (batch : List Entry) → IsLawful tree → LowsAreKeys tree → AllByRecursion (λ entry. SetsPrefix entry.call) batch → AreFair (rows_of tree) batch
fair_tree tree batch lawful lows sets = record { table = lawful_table tree lawful; prefixes = prefixes_in tree.0 tree.1 lows; sets = calls_set batch sets }
