use Rattle.std.proofs.Common.{◌≡◌, List, ℕ, [], ◌∷◌, ◌++◌, sym, ap, subst, ◌∙◌}
use Rattle.std.specs.List.{AllByRecursion}
use Rattle.std.proofs.lemmas.List.{append-nil}
use Rattle.palm_node.specs.declared.id.NodeId.{NodeId}
use Rattle.palm_arena.specs.Reads.{map_of}
use Rattle.palm_base.proofs.Appended.{extends_more, extended}
use Rattle.palm_tree.specs.Walk.{IsPrintable}
use Rattle.palm_tree.proofs.LevelTexts.{level_printable, none_left, first_text, first_printable, next_text, next_printable}
use Rattle.palm_tree.proofs.dump.append_levels.Goals as goal

pub loop-level-init : goal.loop-level-init
loop-level-init c =
    let nodes = map_of c.args.arena.now.places in
    let ids : c.push.new.self.items ≡ c.args.shape.root ∷ [] = c.in_ok-push.ensures.items ∙ ap (λ (l : List NodeId). l ++ c.args.shape.root ∷ []) c.new-ids.ensures.items in
    record {
      text = ([], sym (append-nil c.args.out.now.items), first_text nodes c.args.shape.levels c.args.shape.root c.push.new.self.items ids);
      printable = first_printable nodes c.args.shape.levels c.args.shape.root c.push.new.self.items ids c.requires;
      below = c.new-below.ensures.items;
    }

pub append_level-requires : goal.append_level-requires
append_level-requires c =
    let nodes = map_of c.args.arena.now.places in
    subst (AllByRecursion (λ (id : NodeId). IsPrintable (nodes id))) (sym c.deref.ensures.value)
    (level_printable nodes c.loop-level.ids.items c.args.shape.levels c.loop-level._level c.loop-level-test.true c.loop-level.invariant.printable).0

pub returns-in_err-append_level-clause-kept : goal.returns-in_err-append_level-clause-kept
returns-in_err-append_level-clause-kept c = extends_more _ _ _ _ c.loop-level.invariant.text.1 c.in_err-append_level.ensures.kept

pub loop-level-preserved : goal.loop-level-preserved
loop-level-preserved c =
    let nodes = map_of c.args.arena.now.places in
    let so_far = c.loop-level.invariant in
    let written = c.in_ok-append_level.ensures in
    let next : c.swap.new.x.items ≡ c.append_level.new.below.items = ap (λ v. v.items) c.swap.ensures.x_after in
    record {
      text = next_text nodes c.args.shape.levels c.loop-level._level c.loop-level.ids.items c.deref.result.now c.loop-level.below.items c.swap.new.x.items _ so_far.text.0 _ _ _
          c.loop-level-test.true c.deref.ensures.value so_far.below (next ∙ written.below) so_far.text.1 written.text so_far.text.2;
      printable = next_printable nodes c.args.shape.levels c.loop-level._level c.loop-level.ids.items c.deref.result.now c.loop-level.below.items c.swap.new.x.items
          c.loop-level-test.true c.deref.ensures.value so_far.below (next ∙ written.below) so_far.printable;
      below = c.clear.ensures.items;
    }

pub returns-clause-ok : goal.returns-clause-ok
returns-clause-ok c =
    let nodes = map_of c.args.arena.now.places in
    c.loop-level.invariant.text.1 ∙ ap (λ (l : List ℕ). c.args.out.now.items ++ l)
    (none_left nodes c.loop-level.ids.items c.args.shape.levels c.loop-level._level c.loop-level.invariant.text.0 _ c.loop-level-test.false c.loop-level.invariant.text.2)

pub returns-clause-kept : goal.returns-clause-kept
returns-clause-kept c = extended _ _ _ c.loop-level.invariant.text.1
