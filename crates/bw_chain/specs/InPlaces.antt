-- What a change in place makes of a chain, and the record with the same effect.
use Rattle.std.specs.Prelude.{◌≡◌, ℕ, Bool, true, false, List, [], ◌∷◌, Option, Some, None}
use Rattle.bw_keys.specs.declared.page.Pid.{Pid}
use Rattle.bw_delta.specs.declared.chain.Delta.{Delta}
use Rattle.bw_delta.specs.declared.chain.Delta.TheVariants as deltas
use Rattle.bw_delta.specs.Entries.{at}
use Rattle.bw_delta.specs.Fence.{fences, is_leaf}
use Rattle.bw_delta.specs.Pages.{Page}
use Rattle.bw_delta.specs.Pairs.{pairs, pairs_after, routes}
use Rattle.bw_delta.specs.Records.{Records, bare, above, merged}
use Rattle.bw_delta.specs.Sound.{IsSound, page_for}
use Rattle.bw_keys.specs.declared.wished.Wished.{Wished}
use Rattle.bw_keys.specs.declared.wished.Wished.TheVariants as wishes

-- the record that makes the change of a key with this value, or with none: no record where nothing has to change
abbrev pub delta_for : Wished → ℕ → Option ℕ → Option Delta
delta_for (wishes.Put value) key None = Some (deltas.Insert key value)
delta_for (wishes.Put value) key (Some had) = None
delta_for (wishes.Set value) key None = Some (deltas.Insert key value)
delta_for (wishes.Set value) key (Some had) = Some (deltas.Modify key value)
delta_for wishes.Delete key None = None
delta_for wishes.Delete key (Some had) = Some (deltas.Delete key)

-- the wish puts a new pair where the key has this value, or none
abbrev pub inserts : Wished → Option ℕ → Bool
inserts (wishes.Put value) None = true
inserts (wishes.Put value) (Some had) = false
inserts (wishes.Set value) None = true
inserts (wishes.Set value) (Some had) = false
inserts wishes.Delete None = false
inserts wishes.Delete (Some had) = false

-- no record stands on the chain, or only that of a split
abbrev pub is_flat : Records → Bool
is_flat (bare page) = true
is_flat (above (deltas.Split separator right) (bare page)) = true
is_flat chain = false

-- on a sound leaf with no other record than that of its split, only a new pair can want memory
abbrev pub WantsMemory : Records → ℕ → Wished → Type 0
WantsMemory chain key wished =
    IsSound chain → is_leaf chain ≡ true → is_flat chain ≡ true
    → inserts wished (at key (pairs chain)) ≡ true

-- the pairs with what the record makes of them, if there is one
abbrev pub pairs_with : Option Delta → List (ℕ × ℕ) → List (ℕ × ℕ)
pairs_with None es = es
pairs_with (Some delta) es = pairs_after delta es

-- the chain that is consolidated with the record on top, if there is one
abbrev pub chain_with : Option Delta → Records → Records
chain_with None chain = chain
chain_with (Some delta) chain = bare (page_for (above delta chain))

-- the chain with the pairs inserted one after the other, consolidated with each
abbrev pub chain_with_each : List (ℕ × ℕ) → Records → Records
chain_with_each [] chain = chain
chain_with_each (pair ∷ pairs) chain =
    chain_with_each pairs (chain_with (Some (deltas.Insert pair.0 pair.1)) chain)

-- the chain of a base page and the record of its split
abbrev pub split_page : ℕ → Pid → Page → Records
split_page separator right page = above (deltas.Split separator right) (bare page)

-- the base page that a split ended, with the record that stands over the split's taken in, if there is one
abbrev pub page_behind_split : ℕ → Pid → Option Delta → Page → Page
page_behind_split separator right None page = page
page_behind_split separator right (Some delta) page = page_for (above delta (split_page separator right page))

-- the record of a split stands over a base page, which became another
pub record IsBehindSplit (delta : Option Delta) (old new : Records) : Type 0 where
  pub separator : ℕ
  pub right : Pid
  pub page : Page
  pub before : old ≡ split_page separator right page
  pub changed : new ≡ split_page separator right (page_behind_split separator right delta page)

-- the chain without its newest record
abbrev pub uncovered : Records → Records
uncovered (above delta chain) = chain
uncovered chain = chain

-- the inner page had no route at the separator, and is consolidated with this one
pub record IsRouted (separator : ℕ) (child : Pid) (old new : Records) : Type 0 where
  pub inner : is_leaf old ≡ false
  pub absent : at separator (routes old) ≡ None
  pub routed : new ≡ bare (page_for (above (deltas.TermAdd separator child) old))

-- the chain with its right neighbour's taken in, over which the record of its removal stands
abbrev pub joined_chain : Records → Records → Records
joined_chain left right =
    let fence = fences right in
    merged (record { separator = fence.low; high = fence.high; right = fence.right }) left (above deltas.Remove right)
