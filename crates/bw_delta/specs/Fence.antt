-- Where a chain's range begins and ends, its right link, and its kind.
use Rattle.std.specs.Prelude.{Some, Bool}
use Rattle.bw_keys.specs.declared.range.Fence.TheVariants.{Key}
use Rattle.bw_delta.specs.declared.chain.Delta.{Delta}
use Rattle.bw_delta.specs.declared.chain.Delta.TheVariants.{Insert, Modify, Delete, Split, Remove, TermAdd, TermDelete}
use Rattle.bw_delta.specs.declared.fences.Fences.{Fences}
use Rattle.bw_delta.specs.Pages.{Page, lists_pairs}
use Rattle.bw_delta.specs.Records.{Records, bare, above, merged}

abbrev pub page_fences : Page → Fences
page_fences page = record { low = page.low; high = page.high; right = page.right }

-- what a record makes of the fence below it: a split ends the range at its separator, before the new page
abbrev pub fences_after : Delta → Fences → Fences
fences_after (Insert key value) fence = fence
fences_after (Modify key value) fence = fence
fences_after (Delete key) fence = fence
fences_after (Split separator right) fence = record { low = fence.low; high = Key separator; right = Some right }
fences_after Remove fence = fence
fences_after (TermAdd separator child) fence = fence
fences_after (TermDelete separator) fence = fence

abbrev pub fences : Records → Fences
fences (bare page) = page_fences page
fences (above delta chain) = fences_after delta (fences chain)
fences (merged merging left right) = record { low = (fences left).low; high = merging.high; right = merging.right }

-- whether the chain is that of a leaf
abbrev pub is_leaf : Records → Bool
is_leaf (bare page) = lists_pairs page.listed
is_leaf (above delta chain) = is_leaf chain
is_leaf (merged merging left right) = is_leaf left
