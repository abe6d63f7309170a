use Rattle.std.proofs.Common.{◌≡◌, length, sym, subst, ◌∙◌, IfOk}
use Rattle.std.proofs.lemmas.Bool.{eqb-true}
use Rattle.palm_base.specs.Tree.{Tree}
use Rattle.palm_tree.specs.TreeValue.{tree_in}
use Rattle.palm_tree.proofs.BuiltTrees.{none_built, holds_built, value_built}
use Rattle.palm_tree.proofs.tree.Tree.build.Goals as goal

pub returns-then-is_empty : goal.returns-then-is_empty
returns-then-is_empty c =
    let none = eqb-true (length c.args.rows.now) 0 (sym c.is_empty.ensures ∙ c.if-is_empty.true) in
    subst (λ (t : Tree). IfOk c.new.result (λ tree. tree_in tree ≡ t)) (none_built c.args.rows.now none) c.new.ensures

pub invariant_of-result : goal.invariant_of-result
invariant_of-result c =
    holds_built c.in_ok-arena.arena c.in_ok-arena.shape c.args.rows.now c.len.result c.in_ok-arena.ensures.idle c.in_ok-arena.ensures.none_lent
    c.in_ok-arena.ensures.whole (rw (sym c.as_slice.ensures) c.in_ok-arena.ensures.tree) c.requires (rw (sym c.as_slice.ensures) c.in_ok-arena.ensures.prefixes) c.len.ensures

pub returns : goal.returns
returns c = value_built c.in_ok-arena.arena c.in_ok-arena.shape c.args.rows.now (rw (sym c.as_slice.ensures) c.in_ok-arena.ensures.tree) c.requires
