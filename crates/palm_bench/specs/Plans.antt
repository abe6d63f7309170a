-- What a program's words plan.
use Rattle.std.specs.Prelude.{◌≡◌, ℕ, ◌≤◌, List, [], ◌∷◌, Some}
use Rattle.std.specs.Str.Parse.{IsNumeral, digits_value, without_leading_plus}
use Rattle.palm_share.specs.declared.share.TheConstants.{MOST_WORKERS}
use Rattle.palm_batch.specs.declared.batch.TheConstants.{MOST_CALLS}
use Rattle.palm_bench.specs.declared.plan.Plan.{Plan}
use Rattle.palm_bench.specs.declared.plan.TheConstants.{MOST_COUNT}
use Rattle.palm_bench.specs.Kinds.{kind_named}

-- The number that a word of digits spells. So "17" and "+17" spell 17.
abbrev pub value_of : List ℕ → ℕ
value_of word = digits_value 10 (without_leading_plus word)

-- The word spells a number from 1 to the greatest one: digits, which one plus may lead.
-- So "17" and "+17" do where the greatest is 20, and "0" and "21" don't.
pub record IsCount (most : ℕ) (word : List ℕ) : Type 0 where
  pub digits : IsNumeral 10 (without_leading_plus word)
  pub least : 1 ≤ value_of word
  pub greatest : value_of word ≤ most

-- The words KIND COUNT BATCH WORKERS, where each is well formed, plan this.
-- So "gets", "100", "8", "2" plan 100 Gets in batches of 8 by 2 workers.
pub record SaysPlan (kind count batch workers : List ℕ) (plan : Plan) : Type 0 where
  pub kind-is : kind_named kind ≡ Some plan.kind
  pub count-is : IsCount MOST_COUNT count × (plan.count ≡ value_of count)
  pub batch-is : IsCount MOST_CALLS batch × (plan.batch ≡ value_of batch)
  pub workers-is : IsCount MOST_WORKERS workers × (plan.workers ≡ value_of workers)

-- The words plan this. So "load", "9", "4", "1" plan nine Sets in batches of four, and "load" alone plans nothing.
abbrev pub SayPlan : List (List ℕ) → Plan → Type 0
SayPlan [] plan = ⊥
SayPlan (kind ∷ []) plan = ⊥
SayPlan (kind ∷ count ∷ []) plan = ⊥
SayPlan (kind ∷ count ∷ batch ∷ []) plan = ⊥
SayPlan (kind ∷ count ∷ batch ∷ workers ∷ []) plan = SaysPlan kind count batch workers plan
SayPlan (kind ∷ count ∷ batch ∷ workers ∷ other ∷ words) plan = ⊥
