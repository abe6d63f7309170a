use Rattle.std.proofs.Common.{◌≡◌, List, ℕ, [], ◌∷◌, ◌++◌, sym, ap, subst, ◌∙◌}
use Rattle.std.specs.Prelude.{OnOk, length, codes}
use Rattle.std.specs.Fmt.{decimal}
use Rattle.palm_base.specs.Tree.{Tree, levels_of, rows_of}
use Rattle.palm_base.specs.Shape.{level_lines, shape_text}
use Rattle.palm_arena.specs.Reads.{map_of}
use Rattle.palm_tree.specs.TreeValue.{TreeState, tree_of, tree_in}
use Rattle.palm_tree.proofs.Values.{value_reads}
use Rattle.palm_tree.proofs.LevelTexts.{tree_text, tree_printable, five_pieces}
use Rattle.palm_tree.proofs.dump.append_shape.Goals as goal

pub append_levels-requires : goal.append_levels-requires
append_levels-requires c =
    let arena = c.tree.inside.arena in
    let shape = c.tree.inside.shape in
    let r = value_reads arena shape c.tree.inside.rows c.tree.invariant in
    tree_printable (map_of arena.places) shape.levels shape.root (tree_of arena.places shape) r.0 r.1 c.tree.invariant.lows

pub returns-clause-ok : goal.returns-clause-ok
returns-clause-ok c =
    let arena = c.tree.inside.arena in
    let shape = c.tree.inside.shape in
    let tree : Tree = tree_of arena.places shape in
    let r = value_reads arena shape c.tree.inside.rows c.tree.invariant in
    let levels : decimal c.from.result ≡ decimal (levels_of tree) = ap decimal (c.from.ensures ∙ r.0) in
    let rows : decimal c.tree.inside.rows ≡ decimal (length (rows_of tree)) = ap decimal (sym c.tree.invariant.count) in
    let lines = tree_text (map_of arena.places) shape.levels shape.root tree r.0 r.1 in
    let second = c.in_ok-append_number.ensures.ok ∙ ap (λ (l : List ℕ). c.append.new.out.items ++ l) levels in
    let fourth = c.in_ok-append_number-2.ensures.ok ∙ ap (λ (l : List ℕ). c.append-2.new.out.items ++ l) rows in
    let whole =
    ap (λ (l : List ℕ). c.append-3.new.out.items ++ l) lines
    ∙ five_pieces c.args.out.now.items c.append.new.out.items c.append_number.new.out.items c.append-2.new.out.items c.append_number-2.new.out.items c.append-3.new.out.items
    (codes "tree ") (decimal (levels_of tree)) (codes " ") (decimal (length (rows_of tree))) (codes "\n") (level_lines tree.0 (tree.1 ∷ []))
    c.in_ok-append.ensures.ok second c.in_ok-append-2.ensures.ok fourth c.in_ok-append-3.ensures.ok
    ∙ ap (λ (s : TreeState). c.args.out.now.items ++ shape_text (tree_in s)) c.tree.view_is in
    subst (λ (l : List ℕ). OnOk c.append_levels.result (c.append_levels.new.out.items ≡ l)) whole c.append_levels.ensures.ok
