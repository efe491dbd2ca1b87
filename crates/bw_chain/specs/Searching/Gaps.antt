-- Stretches of keys at which nothing stands.
use Rattle.std.specs.Prelude.{◌≡◌, ℕ, ◌<◌, ◌≤◌, min, List, None}
use Rattle.bw_delta.specs.Entries.{at}
use Rattle.bw_chain.specs.declared.entries.change.Change.{Change}
use Rattle.bw_chain.specs.declared.entries.change.Change.TheVariants.{Put, Without, Below, Nothing}

-- nothing stands from the first number on and below the second
abbrev pub HasGap : {X : Type 0} → ℕ → ℕ → List (ℕ × X) → Type 0
HasGap low end es = (q : ℕ) → low ≤ q → q < end → at q es ≡ None

-- where those keys below an end stop that a change leaves
abbrev pub end_under : {X : Type 0} → Change X → ℕ → ℕ
end_under (Put key x) end = end
end_under (Without key) end = end
end_under (Below bound) end = min end bound
end_under Nothing end = end
