-- What a source and a sink in memory are seen as.
use Rattle.std.specs.Prelude.{ℕ, List}

-- A source in memory: the bytes that it has left, the most that a read gives, the numbers of the reads that fail
-- counted from 0, and how many reads and faults there have been.
-- So where a read gave 5, 6 of 5, 6, 7 and then the read 1 failed, 7 is left, after 2 reads and 1 fault.
pub record Feed : Type 0 where
  pub left : List ℕ
  pub most : ℕ
  pub fails : List ℕ
  pub reads : ℕ
  pub faults : ℕ

-- A sink in memory: the bytes that it has taken, the most that it takes in all and in a write, the numbers of the
-- writes that fail counted from 0, and how many writes and faults there have been.
-- So where a write took 5, 6 and then the write 1 failed, 5, 6 are taken, after 2 writes and 1 fault.
pub record Drain : Type 0 where
  pub taken : List ℕ
  pub room : ℕ
  pub most : ℕ
  pub fails : List ℕ
  pub writes : ℕ
  pub faults : ℕ
