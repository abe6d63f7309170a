-- The answers of a share, one after another, and those of all shares.
use Rattle.std.proofs.Common.{◌≡◌, ℕ, zero, suc, ◌+◌, ◌<◌, List, [], ◌∷◌, ◌++◌, length, map, take, drop, get_or, Bor, Vec, Global, refl, sym, ap, ◌∙◌, arith, add-one, subst}
use Rattle.std.specs.Prelude.{slice_set, Option, None, Some, Result, Ok, Err, IfOk, OnOk, IsOk}
use Rattle.std.specs.List.{AllZip, AllByRecursion, flat_map}
use Rattle.std.proofs.lemmas.List.Folds.{flat_map-map}
use Rattle.palm_share.specs.Jobs.{Holds, Relates}
use Rattle.palm_base.specs.LookUps.{looked}
use Rattle.palm_base.specs.Tree.{rows_of}
use Rattle.palm_base.specs.declared.row.Row.{Row}
use Rattle.palm_base.specs.declared.call.Entry.{Entry}
use Rattle.palm_base.specs.declared.call.Reply.{Reply}
use Rattle.palm_tree.specs.TreeValue.{TreeState, tree_in}
use Rattle.palm_look.specs.Unmet.{IsJudged}
use Rattle.palm_look.specs.Shares.{entries_of, answers_in, answers_of, IsDone}
use Rattle.palm_base.specs.declared.memory.NoMemory.{NoMemory}
use Rattle.palm_look.specs.declared.look_ups.LookWork.{LookWork}

-- ---- a share

-- The first i answers are judged, and the others are those on the table.
pub record AreSoFar (rows : List Row) (keys : List ℕ) (entries : List Entry) (i : ℕ) (answers : List (Option Reply)) : Type 0 where
  pub done : List (Option Reply)
  pub judged : AllZip (IsJudged rows keys) (take i entries) done
  pub joined : answers ≡ done ++ map (looked rows) (drop i entries)

zip_more : {A B : Type 0} (R : A → B → Type 0) (i : ℕ) (xs : List A) (ys : List B) (x : A) (y : B) → i < length xs → x ≡ get_or xs i x → AllZip R (take i xs) ys → R x y
    → AllZip R (take (suc i) xs) (ys ++ y ∷ [])
zip_more R i [] ys x y inside is so_far now = absurd (omega arith)
zip_more R zero (z ∷ xs) [] x y inside is so_far now = (subst (λ z. R z y) is now, tt)
zip_more R zero (z ∷ xs) (w ∷ ys) x y inside is so_far now = absurd so_far
zip_more R (suc i) (z ∷ xs) [] x y inside is so_far now = absurd so_far
zip_more R (suc i) (z ∷ xs) (w ∷ ys) x y inside is so_far now = (so_far.0, zip_more R i xs ys x y (omega arith) is so_far.1 now)

-- What stands at the place behind what is done, and that place written.
next_is : {X A : Type 0} (R : A → X → Type 0) (f : A → X) (i : ℕ) (xs : List A) (ys : List X) (x : A) (d : X) → i < length xs → x ≡ get_or xs i x → AllZip R (take i xs) ys
    → get_or (ys ++ map f (drop i xs)) i d ≡ f x
next_is R f i [] ys x d inside is so_far = absurd (omega arith)
next_is R f zero (z ∷ xs) [] x d inside is so_far = ap f (sym is)
next_is R f zero (z ∷ xs) (w ∷ ys) x d inside is so_far = absurd so_far
next_is R f (suc i) (z ∷ xs) [] x d inside is so_far = absurd so_far
next_is R f (suc i) (z ∷ xs) (w ∷ ys) x d inside is so_far = next_is R f i xs ys x d (omega arith) is so_far.1

next_set : {X A : Type 0} (R : A → X → Type 0) (f : A → X) (i : ℕ) (xs : List A) (ys : List X) (y : X) → i < length xs → AllZip R (take i xs) ys
    → slice_set (ys ++ map f (drop i xs)) i y ≡ (ys ++ y ∷ []) ++ map f (drop (suc i) xs)
next_set R f i [] ys y inside so_far = absurd (omega arith)
next_set R f zero (z ∷ xs) [] y inside so_far = refl
next_set R f zero (z ∷ xs) (w ∷ ys) y inside so_far = absurd so_far
next_set R f (suc i) (z ∷ xs) [] y inside so_far = absurd so_far
next_set R f (suc i) (z ∷ xs) (w ∷ ys) y inside so_far = ap (λ l. w ∷ l) (next_set R f i xs ys y (omega arith) so_far.1)

-- The answer at the next place is that on the table,
pub next_looked : (rows : List Row) (keys : List ℕ) (entries : List Entry) (i : ℕ) (answers : List (Option Reply)) (entry : Entry) (old : Option Reply) → i < length entries
    → entry ≡ get_or entries i entry → old ≡ get_or answers i old → AreSoFar rows keys entries i answers → old ≡ looked rows entry
next_looked rows keys entries i answers entry old inside is at so_far =
    at ∙ ap (λ l. get_or l i old) so_far.joined ∙ next_is (IsJudged rows keys) (looked rows) i entries so_far.done entry old inside is so_far.judged

-- and once it is judged, one more is.
pub one_judged : (rows : List Row) (keys : List ℕ) (entries : List Entry) (i : ℕ) (answers : List (Option Reply)) (entry : Entry) (new : Option Reply) → i < length entries
    → entry ≡ get_or entries i entry → IsJudged rows keys entry new → AreSoFar rows keys entries i answers → AreSoFar rows keys entries (i + 1) (slice_set answers i new)
one_judged rows keys entries i answers entry new inside is judged so_far = record {
  done = so_far.done ++ new ∷ [];
  judged = rw (add-one i) (zip_more (IsJudged rows keys) i entries so_far.done entry new inside is so_far.judged judged);
  joined = rw (add-one i, so_far.joined) (next_set (IsJudged rows keys) (looked rows) i entries so_far.done new inside so_far.judged);
}

-- ---- all shares

zip_append : {A B : Type 0} (R : A → B → Type 0) (xs zs : List A) (ys ws : List B) → AllZip R xs ys → AllZip R zs ws → AllZip R (xs ++ zs) (ys ++ ws)
zip_append R [] zs [] ws one two = two
zip_append R [] zs (y ∷ ys) ws one two = absurd one
zip_append R (x ∷ xs) zs [] ws one two = absurd one
zip_append R (x ∷ xs) zs (y ∷ ys) ws one two = (one.0, zip_append R xs zs ys ws one.1 two)

-- How a share as it was stands to the share that was run.
abbrev pub Ran : LookWork → LookWork → Type 0
Ran before after = IfOk after.answers (λ answers. AllZip (IsJudged (rows_of (tree_in before.tree.now)) before.keys.now) before.entries.now answers.items)

-- The share is of this tree and these keys.
abbrev pub IsOf : TreeState → List ℕ → LookWork → Type 0
IsOf tree keys work = (work.tree.now ≡ tree) × (work.keys.now ≡ keys)

one_share : (tree : TreeState) (keys : List ℕ) (before after : LookWork) → IsOf tree keys before → Ran before after → IsDone (Some after)
    → AllZip (IsJudged (rows_of (tree_in tree)) keys) before.entries.now (answers_of (Some after))
one_share tree keys before after begin ran done =
    subst (λ (t : TreeState). AllZip (IsJudged (rows_of (tree_in t)) keys) before.entries.now (answers_in after.answers)) begin.0
    (subst (λ (ks : List ℕ). AllZip (IsJudged (rows_of (tree_in before.tree.now)) ks) before.entries.now (answers_in after.answers)) begin.1 (by after.answers ran done))
  where
    by : (r : Result (Vec (Option Reply) Global) NoMemory) → IfOk r (λ answers. AllZip (IsJudged (rows_of (tree_in before.tree.now)) before.keys.now) before.entries.now answers.items) → IsOk r
        → AllZip (IsJudged (rows_of (tree_in before.tree.now)) before.keys.now) before.entries.now (answers_in r)
    by (Ok answers) ran done = ran
    by (Err refused) ran done = cc

pub all_judged : (tree : TreeState) (keys : List ℕ) (before after : List (Option LookWork)) → AllByRecursion (Holds (IsOf tree keys)) before → AllZip (Relates Ran) before after → AllByRecursion IsDone after
    → AllZip (IsJudged (rows_of (tree_in tree)) keys) (flat_map entries_of before) (flat_map answers_of after)
all_judged tree keys [] [] begin ran done = tt
all_judged tree keys [] (item ∷ after) begin ran done = absurd ran
all_judged tree keys (item ∷ before) [] begin ran done = absurd ran
all_judged tree keys (None ∷ before) (other ∷ after) begin ran done = absurd ran.0
all_judged tree keys (Some item ∷ before) (None ∷ after) begin ran done = absurd ran.0
all_judged tree keys (Some item ∷ before) (Some other ∷ after) begin ran done =
    zip_append (IsJudged (rows_of (tree_in tree)) keys) item.entries.now (flat_map entries_of before) (answers_of (Some other)) (flat_map answers_of after)
    (one_share tree keys item other begin.0 ran.0 done.0) (all_judged tree keys before after begin.1 ran.1 done.1)

-- What holds of the answers of all shares, where all are done, holds of the joined ones.
pub joined_hold : (P : List (Option Reply) → Type 0) (works : List (Option LookWork)) (joined : Result (Vec (Option Reply) Global) NoMemory)
    → IfOk joined (λ answers. answers.items ≡ flat_map answers_of works) → OnOk joined (AllByRecursion IsDone works) → (AllByRecursion IsDone works → P (flat_map answers_of works))
    → IfOk joined (λ answers. P answers.items)
joined_hold P works (Ok answers) are done holds = subst P (sym are) (holds done)
joined_hold P works (Err refused) are done holds = tt

-- The answers of a batch's shares are judged, where all are done.
pub batch_judged : (tree : TreeState) (keys : List ℕ) (batch : List Entry) (shares : List (Bor (List Entry))) (before after : List (Option LookWork)) → flat_map (λ share. share.now) shares ≡ batch
    → map entries_of before ≡ map (λ share. share.now) shares → AllByRecursion (Holds (IsOf tree keys)) before → AllZip (Relates Ran) before after → AllByRecursion IsDone after
    → AllZip (IsJudged (rows_of (tree_in tree)) keys) batch (flat_map answers_of after)
batch_judged tree keys batch shares before after whole cut begin ran done =
    let same : flat_map entries_of before ≡ batch =
    sym (flat_map-map (λ l. l) entries_of before) ∙ ap (flat_map (λ l. l)) cut ∙ flat_map-map (λ l. l) (λ (share : Bor (List Entry)). share.now) shares ∙ whole in
    subst (λ entries. AllZip (IsJudged (rows_of (tree_in tree)) keys) entries (flat_map answers_of after)) same (all_judged tree keys before after begin ran done)
