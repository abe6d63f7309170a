use Rattle.std.proofs.Common.{◌≡◌, ◌≤◌, map, take, vec_len, vec_capacity, length}
use Rattle.std.specs.List.{AllByRecursion}
use Rattle.palm_leaf.specs.Asked.{part_of, HasRoom}
use Rattle.palm_leaf.proofs.room.ask_all.Given as goal

abbrev pub invariant-loop-part : goal.invariant-loop-part
invariant-loop-part l = record {
  parts : map part_of l.all.items ≡ take l.part-index l.parts;
  room : AllByRecursion (HasRoom l.most) l.all.items;
  no_more : AllByRecursion (λ one. vec_capacity one.found ≤ l.most) l.all.items;
  len : vec_len l.all ≡ l.part-index;
  capacity : length l.parts ≤ vec_capacity l.all;
}
