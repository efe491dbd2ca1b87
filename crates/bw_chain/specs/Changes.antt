-- The entries of a chain, of either kind: a pair's value is a number, a route's a page.
use Rattle.std.specs.Prelude.{ℕ, List, ◌++◌}
use Rattle.bw_keys.specs.declared.page.Pid.{Pid}
use Rattle.bw_delta.specs.declared.chain.Delta.{Delta}
use Rattle.bw_delta.specs.declared.chain.Delta.TheVariants.{Insert, Modify, Delete, Split, Remove, TermAdd, TermDelete}
use Rattle.bw_delta.specs.Entries.{put, without, below, from}
use Rattle.bw_delta.specs.Pages.{Listed}
use Rattle.bw_delta.specs.Records.{Records, bare, above, merged}
use Rattle.bw_chain.specs.declared.entries.change.Change.{Change}
use Rattle.bw_chain.specs.declared.entries.change.Change.TheVariants.{Put, Without, Below, Nothing}

-- the entries with the change
abbrev pub changed : {X : Type 0} → Change X → List (ℕ × X) → List (ℕ × X)
changed (Put key x) es = put key x es
changed (Without key) es = without key es
changed (Below bound) es = below bound es
changed Nothing es = es

-- what a record changes of the pairs below it
abbrev pub pair_change : Delta → Change ℕ
pair_change (Insert key value) = Put key value
pair_change (Modify key value) = Put key value
pair_change (Delete key) = Without key
pair_change (Split separator right) = Below separator
pair_change Remove = Nothing
pair_change (TermAdd separator child) = Nothing
pair_change (TermDelete separator) = Nothing

-- what a record changes of the routes below it
abbrev pub route_change : Delta → Change Pid
route_change (Insert key value) = Nothing
route_change (Modify key value) = Nothing
route_change (Delete key) = Nothing
route_change (Split separator right) = Below separator
route_change Remove = Nothing
route_change (TermAdd separator child) = Put separator child
route_change (TermDelete separator) = Without separator

-- the entries of a chain, by what a page lists and what a record changes
abbrev pub entries_by : {X : Type 0} → (Listed → List (ℕ × X)) → (Delta → Change X) → Records → List (ℕ × X)
entries_by own change (bare page) = own page.listed
entries_by own change (above delta chain) = changed (change delta) (entries_by own change chain)
entries_by own change (merged merging left right) =
    below merging.separator (entries_by own change left) ++ from merging.separator (entries_by own change right)
