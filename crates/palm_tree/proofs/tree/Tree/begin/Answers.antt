use Rattle.std.proofs.Common.{◌≡◌, length, Some, sym, ap, subst, arith, ◌∙◌}
use Rattle.std.proofs.Math.Seq.{take-length}
use Rattle.palm_base.specs.Key.{key}
use Rattle.palm_base.specs.Lows.{LowsAreKeys}
use Rattle.palm_base.specs.Tree.{rows_of}
use Rattle.palm_tree.specs.TreeValue.{TreeState, tree_in}
use Rattle.palm_tree.proofs.FrontRates.{fronts_find, no_rows_rate}
use Rattle.palm_tree.proofs.tree.Tree.begin.Goals as goal

pub returns-in-Rate : goal.returns-in-Rate
returns-in-Rate c =
    let none : length (rows_of (tree_in c.args.self.now)) ≡ 0 =
    ap (λ (s : TreeState). length (rows_of (tree_in s))) (sym c.self.view_is) ∙ c.self.invariant.count ∙ c.if-self-eq0.true in
    rw c.in-Rate.is (ap Some (no_rows_rate (rows_of (tree_in c.args.self.now)) c.in-Rate.number none))

pub returns-in-Rate-2 : goal.returns-in-Rate-2
returns-in-Rate-2 c =
    let lows : LowsAreKeys (tree_in c.args.self.now) = subst (λ s. LowsAreKeys (tree_in s)) c.self.view_is c.self.invariant.lows in
    let prefix = c.key-in-Rate-2.ensures.prefix in
    rw c.in-Rate-2.is (record {
      digits = length c.in-Rate-2.number;
      front = record { prefix = prefix; some = omega (arith, prefix.some); few = omega arith };
      key = ap key (take-length c.in-Rate-2.number) ∙ sym c.key-in-Rate-2.ensures.key;
      best = fronts_find (tree_in c.args.self.now) c.in-Rate-2.number lows prefix;
    })
