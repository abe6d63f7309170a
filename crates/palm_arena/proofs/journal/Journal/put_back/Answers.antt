use Rattle.std.proofs.Common.{◌≡◌, ◌≤◌, ℕ, length, arith, refl, sym, ◌∙◌, subst}
use Rattle.std.proofs.Math.ListN.{length-set}
use Rattle.palm_arena.specs.Journal.{Covers}
use Rattle.palm_arena.proofs.Undoing.{covers_less, popped_within, undo-pop, undo-all}
use Rattle.palm_arena.proofs.journal.Journal.put_back.Goals as goal

pub index_mut-requires : goal.index_mut-requires
index_mut-requires c =
    let within = popped_within _ c.loop-id.self _ c.in-Some.field-0 c.in-Some.ensures.items c.loop-id.invariant.0 in
    omega (arith, within, c.loop-id.invariant.0.marks)

pub index_mut-requires-in-Some : goal.index_mut-requires-in-Some
index_mut-requires-in-Some c =
    let within = popped_within _ c.loop-id.self _ c.in-Some.field-0 c.in-Some.ensures.items c.loop-id.invariant.0 in
    omega (arith, within)

pub loop-id-preserved : goal.loop-id-preserved
loop-id-preserved c =
    let covers = c.loop-id.invariant.0 in
    let entry = c.in-Some.field-0 in
    let len = length-set c.loop-id.places.items entry.id.place entry.place in (
      covers_less _ c.loop-id.self _ entry c.in-Some.ensures.items refl (length-set _ _ _ ∙ covers.marks ∙ sym len) (subst (λ (n : ℕ). Covers n c.loop-id.self) (sym len) covers),
      subst (λ (n : ℕ). c.args.count ≤ n) (sym len) c.loop-id.invariant.1,
      undo-pop c.args.count _ _ entry c.loop-id.places.items c.in-Some.ensures.items ∙ c.loop-id.invariant.2,
    )

pub returns-clause-places : goal.returns-clause-places
returns-clause-places c =
    let none : length c.loop-id.self.saved.items ≡ 0 = grind (arith, c.in_default.ensures.variant, c.in_default.ensures.cases) in
    c.truncate.ensures.items ∙ sym (undo-all c.args.count c.loop-id.self.saved.items c.loop-id.places.items none) ∙ c.loop-id.invariant.2
