use Rattle.std.proofs.Common.{◌≡◌, ◌≤◌, ◌+◌, ◌++◌, true, map, take, drop, length}
use Rattle.std.specs.List.{AllByRecursion}
use Rattle.palm_base.specs.Table.{after_all}
use Rattle.palm_base.specs.declared.bounds.TheConstants.{MOST_LEAF_ROWS}
use Rattle.palm_route.specs.Edits.{edits_of}
use Rattle.palm_leaf.specs.Answers.{answers_in}
use Rattle.palm_leaf.specs.Asked.{all_keep, set_count, answered, part_of}
use Rattle.palm_leaf.specs.Routed.{HasKey}
use Rattle.palm_leaf.proofs.rows.write_all.Given as goal

-- What is answered with what is still to be answered is the whole answer, and what is written with what is still to be written
-- is all that the parts leave.
abbrev pub invariant-loop-one : goal.invariant-loop-one
invariant-loop-one l = record {
  answers : map answered (take l.one-index l.asked) ++ answers_in l.leaf (map part_of (drop l.one-index l.fn.asked)) ≡ answers_in l.fn.leaf (map part_of l.fn.asked);
  rows : after_all l.leaf (edits_of (map part_of (drop l.one-index l.fn.asked))) ≡ after_all l.fn.leaf (edits_of (map part_of l.fn.asked));
  keep : all_keep (map part_of (drop l.one-index l.fn.asked)) ≡ true;
  keys : AllByRecursion (λ one. HasKey one.part) (drop l.one-index l.fn.asked);
  rest : drop l.one-index l.asked ≡ drop l.one-index l.fn.asked;
  same : length l.asked ≡ length l.fn.asked;
  no_fewer : length l.fn.leaf ≤ length l.leaf;
  room : length l.leaf + set_count (map part_of (drop l.one-index l.fn.asked)) ≤ MOST_LEAF_ROWS;
}
