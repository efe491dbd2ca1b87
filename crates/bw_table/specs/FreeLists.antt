-- The ids of free slots, in the order in which they came free, and for how many there is room.
use Rattle.std.specs.Prelude.{ℕ, List}

pub record FreeIds : Type 0 where
  pub ids : List ℕ
  pub room : ℕ
