-- Records that say where a chain's range ends.
use Rattle.std.specs.Prelude.{Bool, true, false}
use Rattle.bw_delta.specs.declared.chain.Delta.{Delta}
use Rattle.bw_delta.specs.declared.chain.Delta.TheVariants.{Insert, Modify, Delete, Split, Remove, TermAdd, TermDelete}
use Rattle.bw_delta.specs.Records.{Records, bare, above, merged}

-- whether the record ends the range at its separator
abbrev pub is_split : Delta → Bool
is_split (Insert key value) = false
is_split (Modify key value) = false
is_split (Delete key) = false
is_split (Split separator right) = true
is_split Remove = false
is_split (TermAdd separator child) = false
is_split (TermDelete separator) = false

-- whether the newest record of the chain, or the page with none above it, ends the range
abbrev pub ends_range : Records → Bool
ends_range (bare page) = true
ends_range (above delta chain) = is_split delta
ends_range (merged merging left right) = true
