use Rattle.std.proofs.Common.{◌≡◌, ℕ, ◌<◌, ◌≤◌, true, false, take, get_or}
use Rattle.std.specs.Prelude.{vec_capacity}
use Rattle.std.specs.Slots.{slots_items, slots_filled, slots_len}
use Rattle.palm_desk.proofs.rest.take_slots.Given as goal

abbrev pub invariant-loop-k : goal.invariant-loop-k
invariant-loop-k l = record {
  words : l.closed.words ≡ l.fn.closed.words;
  items : slots_items l.closed.slots ≡ slots_items l.fn.closed.slots;
  len : slots_len l.closed.slots ≡ slots_len l.fn.closed.slots;
  full : (k : ℕ) → l.k ≤ k → k < slots_len l.closed.slots → get_or (slots_filled l.closed.slots) k false ≡ true;
  empty : (k : ℕ) → k < l.k → get_or (slots_filled l.closed.slots) k false ≡ false;
  taken : l.slots.items ≡ take l.k (slots_items l.fn.closed.slots);
  room : vec_capacity l.slots ≡ vec_capacity l.fn.slots;
}
