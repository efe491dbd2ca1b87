-- The pairs of a leaf chain and the routes of an inner chain, built upward from the oldest record.
use Rattle.std.specs.Prelude.{ℕ, List, [], ◌++◌}
use Rattle.bw_keys.specs.declared.page.Pid.{Pid}
use Rattle.bw_delta.specs.declared.chain.Delta.{Delta}
use Rattle.bw_delta.specs.declared.chain.Delta.TheVariants.{Insert, Modify, Delete, Split, Remove, TermAdd, TermDelete}
use Rattle.bw_delta.specs.Entries.{put, without, below, from}
use Rattle.bw_delta.specs.Pages.{Listed, pairs_of, routes_of}
use Rattle.bw_delta.specs.Records.{Records, bare, above, merged}

abbrev pub pairs_listed : Listed → List (ℕ × ℕ)
pairs_listed (pairs_of es) = es
pairs_listed (routes_of es) = []

-- what a record makes of the pairs below it
abbrev pub pairs_after : Delta → List (ℕ × ℕ) → List (ℕ × ℕ)
pairs_after (Insert key value) es = put key value es
pairs_after (Modify key value) es = put key value es
pairs_after (Delete key) es = without key es
pairs_after (Split separator right) es = below separator es
pairs_after Remove es = es
pairs_after (TermAdd separator child) es = es
pairs_after (TermDelete separator) es = es

-- below the separator of a merge the left chain's, and from it on the right chain's
abbrev pub pairs : Records → List (ℕ × ℕ)
pairs (bare page) = pairs_listed page.listed
pairs (above delta chain) = pairs_after delta (pairs chain)
pairs (merged merging left right) = below merging.separator (pairs left) ++ from merging.separator (pairs right)

abbrev pub routes_listed : Listed → List (ℕ × Pid)
routes_listed (pairs_of es) = []
routes_listed (routes_of es) = es

-- what a record makes of the routes below it
abbrev pub routes_after : Delta → List (ℕ × Pid) → List (ℕ × Pid)
routes_after (Insert key value) es = es
routes_after (Modify key value) es = es
routes_after (Delete key) es = es
routes_after (Split separator right) es = below separator es
routes_after Remove es = es
routes_after (TermAdd separator child) es = put separator child es
routes_after (TermDelete separator) es = without separator es

abbrev pub routes : Records → List (ℕ × Pid)
routes (bare page) = routes_listed page.listed
routes (above delta chain) = routes_after delta (routes chain)
routes (merged merging left right) = below merging.separator (routes left) ++ from merging.separator (routes right)
