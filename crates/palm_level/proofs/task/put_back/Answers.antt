use Rattle.std.proofs.Common.{arith, ap, ◌∙◌, sym, subst, ◌≡◌, ◌++◌, List, [], ◌∷◌, refl, eqb-true, true, false}
use Rattle.std.specs.Prelude.{IsSome}
use Rattle.std.specs.Vec.{vec_len}
use Rattle.palm_base.specs.Pass.{is_small}
use Rattle.palm_base.specs.declared.bounds.TheConstants.{LEAST_CHILDREN}
use Rattle.palm_node.specs.declared.id.NodeId.{NodeId}
use Rattle.palm_node.specs.declared.id.Piece.{Piece}
use Rattle.palm_arena.specs.ArenaState.{node_at, with_place}
use Rattle.palm_arena.specs.declared.place.Place.TheVariants.{Empty}
use Rattle.palm_level.proofs.LaterParts.{some_item}
use Rattle.palm_level.proofs.Taking.{home_given, stays_same, drop_same, given_held}
use Rattle.palm_level.proofs.PuttingBack.{back_none, back_few, back_many}
use Rattle.palm_level.proofs.task.put_back.Goals as goal

pub drop_node-requires-clause-held : goal.drop_node-requires-clause-held
drop_node-requires-clause-held g c =
    subst (λ id. IsSome (node_at c.give_back.new.self.places id)) (sym c.id-id.ensures)
    (subst IsSome (sym (given_held c.args.arena.now c.give_back.new.self c.args.work.lease.id c.args.work.lease.node c.give_back.ensures)) refl)

pub returns-in_err-drop_node-clause-home : goal.returns-in_err-drop_node-clause-home
returns-in_err-drop_node-clause-home g c =
    home_given c.args.arena.now c.give_back.new.self c.drop_node.new.self c.args.work c.requires.lent c.give_back.ensures (stays_same c.give_back.new.self c.drop_node.new.self c.in_err-drop_node.ensures.err)

pub returns-then-is_empty-clause-ok : goal.returns-then-is_empty-clause-ok
returns-then-is_empty-clause-ok g c = λ node changes path made.
    let none = eqb-true (vec_len c.args.work.children) 0 (sym c.is_empty.ensures ∙ c.if-is_empty.true) in
    back_none c.args.level c.args.low c.args.work c.args.arena.now c.give_back.new.self c.drop_node.new.self c.args.removed.now c.new-pieces.result node changes path made (omega (arith, none)) c.requires.lent c.give_back.ensures
    (c.in_ok-drop_node.ensures.ok ∙ ap (λ (id : NodeId). record c.give_back.new.self { places = with_place c.give_back.new.self.places id Empty }) c.id-id.ensures) c.new-pieces.ensures

pub returns-then-is_empty-clause-home : goal.returns-then-is_empty-clause-home
returns-then-is_empty-clause-home g c =
    home_given c.args.arena.now c.give_back.new.self c.drop_node.new.self c.args.work c.requires.lent c.give_back.ensures
    (drop_same c.give_back.new.self c.drop_node.new.self c.args.work.lease.id c.args.work.lease.node (given_held c.args.arena.now c.give_back.new.self c.args.work.lease.id c.args.work.lease.node c.give_back.ensures)
    (c.in_ok-drop_node.ensures.ok ∙ ap (λ (id : NodeId). record c.give_back.new.self { places = with_place c.give_back.new.self.places id Empty }) c.id-id.ensures))

pub returns-in_err-push-clause-home : goal.returns-in_err-push-clause-home
returns-in_err-push-clause-home g c = home_given c.args.arena.now c.give_back.new.self c.give_back.new.self c.args.work c.requires.lent c.give_back.ensures (stays_same c.give_back.new.self c.give_back.new.self refl)

pub returns-then-is_few-clause-ok : goal.returns-then-is_few-clause-ok
returns-then-is_few-clause-ok g c = λ node changes path made.
    let small : is_small LEAST_CHILDREN c.args.work.children.items ≡ true = ap (is_small LEAST_CHILDREN) (sym c.deref.ensures.value) ∙ sym c.is_few.ensures ∙ c.if-is_few.true in
    back_few c.args.level c.args.low c.args.work c.args.arena.now c.give_back.new.self c.args.removed.now c.push.new.self c.new-pieces.result node changes path made small c.requires.lent c.give_back.ensures
    (c.in_ok-push.ensures.ok ∙ ap (λ (id : NodeId). c.args.removed.now ++ record { level = c.args.level; id = id } ∷ []) c.id-id.ensures) c.new-pieces.ensures

pub returns-then-is_few-clause-home : goal.returns-then-is_few-clause-home
returns-then-is_few-clause-home g c = home_given c.args.arena.now c.give_back.new.self c.give_back.new.self c.args.work c.requires.lent c.give_back.ensures (stays_same c.give_back.new.self c.give_back.new.self refl)

pub returns-in_err-push-2-clause-home : goal.returns-in_err-push-2-clause-home
returns-in_err-push-2-clause-home g c = home_given c.args.arena.now c.give_back.new.self c.give_back.new.self c.args.work c.requires.lent c.give_back.ensures (stays_same c.give_back.new.self c.give_back.new.self refl)

pub returns-in_err-take_later-clause-home : goal.returns-in_err-take_later-clause-home
returns-in_err-take_later-clause-home g c = home_given c.args.arena.now c.give_back.new.self c.take_later.new.arena c.args.work c.requires.lent c.give_back.ensures c.take_later.ensures.same_lent

pub returns-clause-ok : goal.returns-clause-ok
returns-clause-ok g c = λ node changes path made.
    let some = some_item (vec_len c.args.work.children) (sym c.is_empty.ensures ∙ c.if-is_empty.false) in
    let large : is_small LEAST_CHILDREN c.args.work.children.items ≡ false = ap (is_small LEAST_CHILDREN) (sym c.deref.ensures.value) ∙ sym c.is_few.ensures ∙ c.if-is_few.false in
    let one : List Piece = record { low = c.args.low; id = c.args.work.lease.id } ∷ [] in
    back_many c.args.level c.args.low c.args.work c.args.arena.now c.give_back.new.self c.take_later.new.arena c.args.removed.now c.push-2.new.self c.take_later.new.pieces node changes path made (omega (arith, some)) large c.requires.lent c.give_back.ensures
    (c.in_ok-push-2.ensures.ok ∙ ap (λ (ps : List Piece). ps ++ record { low = c.args.low; id = c.id-id.result } ∷ []) c.new-pieces.ensures ∙ ap (λ (id : NodeId). record { low = c.args.low; id = id } ∷ []) c.id-id.ensures)
    c.in_ok-take_later.ensures.ok

pub returns-clause-home : goal.returns-clause-home
returns-clause-home g c = home_given c.args.arena.now c.give_back.new.self c.take_later.new.arena c.args.work c.requires.lent c.give_back.ensures c.take_later.ensures.same_lent
