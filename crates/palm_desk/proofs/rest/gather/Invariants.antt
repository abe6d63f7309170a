use Rattle.std.proofs.Common.{◌≡◌, ℕ, ◌+◌, length}
use Rattle.std.specs.Prelude.{vec_capacity}
use Rattle.std.specs.Slots.{slots_items}
use Rattle.palm_desk.specs.Leftovers.{End, IsStart}
use Rattle.palm_desk.proofs.Gathering.{Gathered, remaining}
use Rattle.palm_desk.proofs.rest.gather.Given as goal

abbrev pub invariant-loop-caller : goal.invariant-loop-caller
invariant-loop-caller l = record {
  long : length l.left.got.items ≡ length l.fn.left.got.items;
  made : l.left.made.items ≡ l.fn.left.made.items;
  gathered : (x : End) → IsStart x (slots_items l.closed.words) l.firsts l.window l.first_waiting l.fn.left → (m : ℕ) × Gathered x m l.left.got.items l.left.slots.items l.left.waiting.items l.left.unread.items;
  count : length l.left.waiting.items + length l.left.unread.items + remaining l.left.got.items l.left.made.items ≡ remaining l.fn.left.got.items l.fn.left.made.items;
  waiting_room : vec_capacity l.left.waiting ≡ vec_capacity l.fn.left.waiting;
  unread_room : vec_capacity l.left.unread ≡ vec_capacity l.fn.left.unread;
}

abbrev pub decreases-loop-caller : goal.decreases-loop-caller
decreases-loop-caller l = remaining l.left.got.items l.left.made.items
