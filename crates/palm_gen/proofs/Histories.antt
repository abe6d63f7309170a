-- Generated histories, one after another.
use Rattle.std.proofs.Common.{◌≡◌, ℕ, zero, suc, ◌+◌, ◌-◌, ◌<◌, List, [], ◌∷◌, ◌++◌, refl, ap, append_assoc, ◌∙◌, arith}
use Rattle.palm_base.specs.declared.call.Entry.{Entry}
use Rattle.palm_gen.specs.Generator.{generated, entry_by, history_from, state_after}
use Rattle.palm_gen.specs.Laws.{HistoriesJoin, HistoriesAreLong}

pub join : HistoriesJoin
join zero m state i = (λ j. history_from (none m j) state (start i j))
  where
    none : (m : ℕ) → 0 + m ≡ m
    none m = omega arith

    start : (i : ℕ) → i ≡ i + 0
    start i = omega arith
join (suc n) m state i =
    ap (λ k. history_from k state i) more
    ∙ ap (λ (l : List Entry). entry_by state i ∷ l) (join n m (generated state i).state (i + 1) ∙ ap (λ k. history_from n (generated state i).state (i + 1) ++ history_from m (state_after (suc n) state) k) ends)
  where
    more : suc n + m ≡ suc (n + m)
    more = omega arith

    ends : i + 1 + n ≡ i + suc n
    ends = omega arith

pub long : HistoriesAreLong
long zero state i = refl
long (suc n) state i = omega (arith, long n (generated state i).state (i + 1))

-- ---- while calls are appended

-- Once k of n calls stand there, with the next one there are k + 1, and the others are drawn from the state after it.
pub one_more : (now new all : List Entry) (n k latest i : ℕ) (entry : Entry) (state : ℕ) → k < n
    → entry ≡ entry_by latest (i + k) → state ≡ (generated latest (i + k)).state → new ≡ now ++ entry ∷ []
    → now ++ history_from (n - k) latest (i + k) ≡ all → new ++ history_from (n - (k + 1)) state (i + (k + 1)) ≡ all
one_more now new all n k latest i entry state inside entry-is state-is new-is so_far =
    (λ j. new-is j ++ history_from (n - (k + 1)) (state-is j) (i + (k + 1)))
    ∙ append_assoc now (entry ∷ []) (history_from (n - (k + 1)) (generated latest (i + k)).state (i + (k + 1)))
    ∙ (λ j. now ++ entry-is j ∷ history_from (n - (k + 1)) (generated latest (i + k)).state (place j))
    ∙ ap (λ m. now ++ history_from m latest (i + k)) more
    ∙ so_far
  where
    more : suc (n - (k + 1)) ≡ n - k
    more = omega (arith, inside)

    place : i + (k + 1) ≡ i + k + 1
    place = omega arith

-- The state after the calls that are left to make is the same.
pub same_end : (n k latest i state end : ℕ) → k < n → state ≡ (generated latest i).state → state_after (n - k) latest ≡ end → state_after (n - (k + 1)) state ≡ end
same_end n k latest i state end inside state-is so_far = ap (state_after (n - (k + 1))) state-is ∙ ap (λ m. state_after m latest) more ∙ so_far
  where
    more : suc (n - (k + 1)) ≡ n - k
    more = omega (arith, inside)
