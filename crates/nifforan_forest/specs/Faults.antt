-- Where a fault comes from that ends a call over several trees.
use Rattle.std.specs.Prelude.{◌≡◌, ℕ, ◌<◌, ◌≤◌, List, Some, slice_get}
use Rattle.bw_forest.specs.Bounds.{IsTreeOf}
use Rattle.bw_procedures.specs.declared.fault.Fault.{Fault}
use Rattle.bw_procedures.specs.Calls.{Earned}
use Rattle.bw_procedures.specs.Seen.{Seen}

-- the hand on the tree of one of the keys, from the low on and below the end, earned the fault
pub record EarnsInATree {H : Type 0} (bounds : List ℕ) (seen : H → Seen) (low end : ℕ)
    (old new : List H) (fault : Fault) : Type 0 where
  pub key : ℕ
  pub tree : ℕ
  pub before : H
  pub after : H
  pub from_low : low ≤ key
  pub below_end : key < end
  pub holds : IsTreeOf bounds key tree
  pub was : slice_get old tree ≡ Some before
  pub now : slice_get new tree ≡ Some after
  pub earned : Earned (seen before) (seen after) fault
