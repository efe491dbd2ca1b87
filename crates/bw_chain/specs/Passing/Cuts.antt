-- Ends that a change of the entries doesn't reach below.
use Rattle.std.specs.Prelude.{ℕ, ◌≤◌}
use Rattle.bw_chain.specs.declared.entries.change.Change.{Change}
use Rattle.bw_chain.specs.declared.entries.change.Change.TheVariants.{Put, Without, Below, Nothing}

-- the change leaves the keys below the end, but for its own
abbrev pub IsUncut : {X : Type 0} → ℕ → Change X → Type 0
IsUncut end (Put key x) = Unit {0}
IsUncut end (Without key) = Unit {0}
IsUncut end (Below bound) = end ≤ bound
IsUncut end Nothing = Unit {0}
