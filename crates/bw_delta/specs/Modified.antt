-- What a modification makes of a sound chain.
use Rattle.std.specs.Prelude.{◌≡◌, ◌≢◌, ℕ, Some}
use Rattle.bw_delta.specs.declared.chain.Delta.TheVariants.{Modify}
use Rattle.bw_delta.specs.Entries.{at}
use Rattle.bw_delta.specs.Fence.{fences}
use Rattle.bw_delta.specs.Pairs.{pairs, routes}
use Rattle.bw_delta.specs.Records.{Records, above}
use Rattle.bw_delta.specs.Sound.{IsSound, entry_count}

-- the key has the value, and all else is as it was: the other keys, the number of the entries, the routes and the fence
pub record IsModified (key value : ℕ) (old new : Records) : Type 0 where
  pub at_key : at key (pairs new) ≡ Some value
  pub elsewhere : (other : ℕ) → key ≢ other → at other (pairs new) ≡ at other (pairs old)
  pub as_many : entry_count new ≡ entry_count old
  pub same_routes : routes new ≡ routes old
  pub same_fence : fences new ≡ fences old

abbrev pub ModifyLaw : Type 0
ModifyLaw = (key value : ℕ) (chain : Records) → IsSound (above (Modify key value) chain) → IsModified key value chain (above (Modify key value) chain)
