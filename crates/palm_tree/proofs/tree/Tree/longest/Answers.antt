use Rattle.std.proofs.Common.{ℕ, take, subst, sym, ap, arith, ◌∙◌}
use Rattle.palm_base.specs.Fronts.{first_front}
use Rattle.palm_base.specs.Key.{key}
use Rattle.palm_base.specs.Lows.{LowsAreKeys}
use Rattle.palm_base.specs.Tree.{rows_of}
use Rattle.palm_tree.specs.Floors.{IsFloor}
use Rattle.palm_tree.specs.TreeValue.{tree_in}
use Rattle.palm_tree.proofs.FrontRates.{fronts_find}
use Rattle.palm_tree.proofs.tree.Tree.longest.Goals as goal
use Rattle.palm_tree.proofs.tree.Tree.longest.Goals.{After-floor}

-- what stands last at or before the front that is looked up
at_front : (c : After-floor) → IsFloor (rows_of (tree_in c.args.self.now)) (key (take c.loop-row.len c.args.number.now)) c.floor.result
at_front c = rw c.front.ensures at c.floor.ensures

pub loop-row-init : goal.loop-row-init
loop-row-init c = record {
  front = record { prefix = c.len-len.ensures.prefix; some = omega arith; few = omega arith };
  same = ap (λ (n : ℕ). first_front n c.args.number.now (rows_of (tree_in c.args.self.now))) c.len-len.ensures.len;
}

pub returns-in-Done : goal.returns-in-Done
returns-in-Done c =
    let lows : LowsAreKeys (tree_in c.args.self.now) = subst (λ s. LowsAreKeys (tree_in s)) c.self.view_is c.self.invariant.lows in
    c.in-Done.ensures _ _ c.loop-row.invariant.front (at_front (goal.at.returns-in-Done c).After-floor)
    ∙ c.loop-row.invariant.same
    ∙ fronts_find (tree_in c.args.self.now) c.args.number.now lows c.len-len.ensures.prefix

pub loop-row-smaller : goal.loop-row-smaller
loop-row-smaller c = (c.in-To.ensures _ _ c.loop-row.invariant.front (at_front (goal.at.loop-row-smaller c).After-floor)).less

pub loop-row-preserved : goal.loop-row-preserved
loop-row-preserved c =
    let made = c.in-To.ensures _ _ c.loop-row.invariant.front (at_front (goal.at.loop-row-preserved c).After-floor) in
    let front = c.loop-row.invariant.front in
    record {
      front = record { prefix = front.prefix; some = made.some; few = omega (arith, made.less, front.few) };
      same = sym made.same ∙ c.loop-row.invariant.same;
    }
