-- What trees may still count.
use Rattle.std.specs.Prelude.{◌≡◌, ℕ, ◌*◌, ◌≤◌, ◌-◌, Bool, true, false, Option, Some, None, refl}
use Rattle.std.specs.Coded.{Coded, code_by, coded×, coded_ℕ}
use Rattle.std.specs.declared.sync.ledger.Ledger.{Ghosts as Ledger}
use Rattle.bw_keys.specs.declared.config.Config.{Config}
use Rattle.bw_tree.specs.Shares.{ShareValue, no_changes, share_code, share_of, Opens}
use Rattle.bw_tree.specs.declared.share.Blanks.{Blanks}

-- how many insertions, and how many removals, a tree counts at most
abbrev pub most : ℕ
most = 18446744073709551615

-- what a tree counted that may still count so much
abbrev pub counted_of : ℕ → ℕ → ShareValue
counted_of insertions removals = share_of (most - insertions) (most - removals)

-- what so many trees counted that may still count so much together
abbrev pub counted_by : ℕ → ℕ → ℕ → ShareValue
counted_by trees insertions removals =
    share_of (trees * most - insertions) (trees * most - removals)

-- the ledgers of trees at work: the numbers of the trees and the workers,
-- how many of the trees' stocks are back, and what those trees counted
pub record TotalsValue : Type 0 where
  pub trees : ℕ
  pub workers : ℕ
  pub back : ℕ
  pub counted : ShareValue

-- how the logic distinguishes them
abbrev pub totals_code : Coded TotalsValue
totals_code =
    code_by ((ℕ × ℕ) × (ℕ × ShareValue))
    (coded× (coded× coded_ℕ coded_ℕ) (coded× coded_ℕ share_code))
    (λ t. ((t.trees, t.workers), (t.back, t.counted)))
    (λ p. record { trees = p.0.0; workers = p.0.1; back = p.1.0; counted = p.1.1 }) (λ _. refl)

-- as they begin
abbrev pub fresh : ℕ → ℕ → TotalsValue
fresh trees workers = record { trees = trees; workers = workers; back = 0; counted = no_changes }

-- what closes the count of a tree: its ledgers where it is alone, nothing in a forest
abbrev pub closing : Bool → ℕ → Option TotalsValue
closing true workers = Some (fresh 1 workers)
closing false workers = None

-- a tree may count so much
abbrev pub Fits : ShareValue → Type 0
Fits counted = (counted.inserted ≤ most) × (counted.removed ≤ most)

-- two types may stand for the blank ledgers of a forest, and the first of them
-- names the configuration that its trees are made by
pub record OpensForest {I D : Type 0} (insertions : Ledger I) (named : Config)
    (removals : Ledger D) (config : Config) (blanks : Blanks) : Type 0 where
  pub inserted : Opens insertions.name insertions.parts blanks.insertions
  pub removed : Opens removals.name removals.parts blanks.removals
  pub made : named ≡ config
