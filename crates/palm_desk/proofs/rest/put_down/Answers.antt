use Rattle.std.proofs.Common.{◌≡◌, ℕ, Some, sym, subst}
use Rattle.std.specs.Prelude.{slice_get}
use Rattle.palm_base.specs.declared.call.Reply.{Reply}
use Rattle.palm_desk.specs.Views.{filled}
use Rattle.palm_desk.proofs.rest.put_down.Goals as goal

pub take_reply-answered-requires : goal.take_reply-answered-requires
take_reply-answered-requires c =
    subst (λ l. (n : ℕ) × ((r : Reply) × (slice_get l c.args.cell ≡ Some (filled n r)))) (sym c.deref_mut.ensures.value) (c.requires.reply c.if-is_answered.true)
