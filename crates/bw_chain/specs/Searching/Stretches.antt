-- Stretches of keys at which two lists say the same.
use Rattle.std.specs.Prelude.{◌≡◌, ℕ, ◌<◌, ◌≤◌, List}
use Rattle.bw_delta.specs.Entries.{at}

-- the same stands at each key from the low on and below the end
abbrev pub AreSameWithin : {X : Type 0} → ℕ → ℕ → List (ℕ × X) → List (ℕ × X) → Type 0
AreSameWithin low end xs ys = (q : ℕ) → low ≤ q → q < end → at q xs ≡ at q ys
