use Rattle.std.proofs.Common.{◌≡◌, ◌≤◌, ◌+◌, ◌++◌, vec_len, vec_capacity, map, take, drop, length}
use Rattle.palm_base.specs.Table.{after_all, IsTable}
use Rattle.palm_route.specs.Edits.{edits_of}
use Rattle.palm_leaf.specs.Answers.{answers_in}
use Rattle.palm_leaf.specs.Asked.{set_count, answered, part_of}
use Rattle.palm_leaf.proofs.rows.resolve.Given as goal

-- What is answered with what is still to be answered is the whole answer.
abbrev pub invariant-loop-one : goal.invariant-loop-one
invariant-loop-one l = record {
  answers : map answered (take l.one-index l.asked) ++ answers_in l.rows.items (map part_of (drop l.one-index l.fn.asked)) ≡ answers_in l.fn.rows.items (map part_of l.fn.asked);
  rows : after_all l.rows.items (edits_of (map part_of (drop l.one-index l.fn.asked))) ≡ after_all l.fn.rows.items (edits_of (map part_of l.fn.asked));
  rest : drop l.one-index l.asked ≡ drop l.one-index l.fn.asked;
  same : length l.asked ≡ length l.fn.asked;
  table : IsTable l.rows.items;
  few : vec_len l.rows + set_count (map part_of (drop l.one-index l.fn.asked)) ≤ vec_len l.fn.rows + set_count (map part_of l.fn.asked);
  capacity : vec_capacity l.rows ≡ vec_capacity l.fn.rows;
}
