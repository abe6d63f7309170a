-- What text is appended to stays at its front.
use Rattle.std.specs.Prelude.{◌≡◌, List, length, take}

-- The new list begins with the old one. So 1, 2, 3 extends 1, 2, and 2, 3 doesn't.
pub record Extends {X : Type 0} (old new : List X) : Type 0 where
  pub front : take (length old) new ≡ old
