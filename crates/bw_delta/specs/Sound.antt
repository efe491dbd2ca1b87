-- Which chains are sound, and the page that a sound chain stands for.
use Rattle.std.specs.Prelude.{◌≡◌, ℕ, ◌+◌, ◌<◌, ◌≤◌, Bool, true, false, if◌then◌else◌, ◌&&◌, ◌||◌, not, is_some, length}
use Rattle.bw_keys.specs.declared.range.Fence.TheVariants.{Key}
use Rattle.bw_keys.specs.declared.page.TheConstants.{MAX_DEPTH}
use Rattle.bw_keys.specs.Ranges.{end_of}
use Rattle.bw_delta.specs.declared.chain.Delta.{Delta}
use Rattle.bw_delta.specs.declared.chain.Delta.TheVariants.{Insert, Modify, Delete, Split, Remove, TermAdd, TermDelete}
use Rattle.bw_delta.specs.declared.chain.Merging.{Merging}
use Rattle.bw_delta.specs.declared.fences.Fences.{Fences}
use Rattle.bw_delta.specs.Pages.{Page, Listed, IsPage, pairs_of, routes_of}
use Rattle.bw_delta.specs.Records.{Records, bare, above, merged, depth}
use Rattle.bw_delta.specs.Entries.{at, starts_at}
use Rattle.bw_delta.specs.Fence.{fences, is_leaf}
use Rattle.bw_delta.specs.Pairs.{pairs, routes}

-- the key lies in the range
pub record LiesIn (key : ℕ) (fence : Fences) : Type 0 where
  pub from_low : fence.low ≤ key
  pub below_high : key < end_of fence.high

-- the record may stand over the chain: a modification wants its key among the pairs
abbrev pub MayStandOver : Delta → Records → Type 0
MayStandOver (Insert key value) chain = (is_leaf chain ≡ true) × LiesIn key (fences chain)
MayStandOver (Modify key value) chain = (is_leaf chain ≡ true) × (is_some (at key (pairs chain)) ≡ true)
MayStandOver (Delete key) chain = (is_leaf chain ≡ true) × LiesIn key (fences chain)
MayStandOver (Split separator right) chain = ((fences chain).low < separator) × LiesIn separator (fences chain)
MayStandOver Remove chain = Unit {0}
MayStandOver (TermAdd separator child) chain = (is_leaf chain ≡ false) × LiesIn separator (fences chain)
MayStandOver (TermDelete separator) chain = (is_leaf chain ≡ false) × LiesIn separator (fences chain)

-- the halves of a merge meet at its separator, and it ends where the right half does
pub record Joins (merging : Merging) (left right : Fences) : Type 0 where
  pub left_ends : left.high ≡ Key merging.separator
  pub right_begins : right.low ≡ merging.separator
  pub same_high : right.high ≡ merging.high
  pub same_right : right.right ≡ merging.right

-- each record may stand where it stands
abbrev pub IsWellBuilt : Records → Type 0
IsWellBuilt (bare page) = IsPage page
IsWellBuilt (above delta chain) = IsWellBuilt chain × MayStandOver delta chain
IsWellBuilt (merged merging left right) = IsWellBuilt left × IsWellBuilt right × (is_leaf left ≡ is_leaf right) × Joins merging (fences left) (fences right)

pub record IsSound (chain : Records) : Type 0 where
  pub built : IsWellBuilt chain
  pub not_deep : depth chain ≤ MAX_DEPTH

-- what a chain lists: pairs where it is a leaf's, and routes otherwise
abbrev pub listed_for : Bool → Records → Listed
listed_for leaf chain = if leaf then pairs_of (pairs chain) else routes_of (routes chain)

abbrev pub page_with : Fences → Listed → Page
page_with fence listed = record { low = fence.low; high = fence.high; right = fence.right; listed = listed }

-- the base page with all of a chain's effects
abbrev pub page_for : Records → Page
page_for chain = page_with (fences chain) (listed_for (is_leaf chain) chain)

-- how many pairs or routes the chain has; one of the lists is empty
abbrev pub entry_count : Records → ℕ
entry_count chain = length (pairs chain) + length (routes chain)

-- the key is that of an entry of the chain, and not of the first: a page can be split there
abbrev pub is_later_key : ℕ → Records → Bool
is_later_key key chain =
    (is_some (at key (pairs chain)) || is_some (at key (routes chain))) && not (starts_at key (pairs chain) || starts_at key (routes chain))
