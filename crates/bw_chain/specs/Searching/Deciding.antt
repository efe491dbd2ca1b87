-- Where a search down a chain for one key stops.
use Rattle.std.specs.Prelude.{ℕ, Bool, true, false, ◌==◌, nat_le}
use Rattle.bw_delta.specs.declared.chain.Delta.{Delta}
use Rattle.bw_delta.specs.Records.{Records, bare, above, merged}
use Rattle.bw_chain.specs.declared.entries.change.Change.{Change}
use Rattle.bw_chain.specs.declared.entries.change.Change.TheVariants.{Put, Without, Below, Nothing}

-- whether the change alone decides what stands at the key
abbrev pub decides : {X : Type 0} → ℕ → Change X → Bool
decides q (Put key x) = key == q
decides q (Without key) = key == q
decides q (Below bound) = nat_le bound q
decides q Nothing = false

-- whether the newest record of the chain, or the page with none above it, decides what stands at the key
abbrev pub ends_search : {X : Type 0} → ℕ → (Delta → Change X) → Records → Bool
ends_search q change (bare page) = true
ends_search q change (above delta chain) = decides q (change delta)
ends_search q change (merged merging left right) = false
