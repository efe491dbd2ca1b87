-- Why a forest wasn't shared, once its configuration and its workers were found fine.
use Rattle.std.proofs.Common.{◌≡◌, ℕ, ◌+◌, ◌*◌, ◌≤◌, List, sym, subst, arith}
use Rattle.bw_keys.specs.declared.config.Config.{Config}
use Rattle.bw_forest.specs.Forests.{ForestValue, config_of}
use Rattle.nifforan_forest.specs.declared.unshared.UnsharedForest.{UnsharedForest}
use Rattle.nifforan_forest.specs.Sharing.{ComesBack, IsForestBack, IsLate}

-- one place for each tree is there if there are some for each worker at each tree
pub at_least_one : (workers more trees : ℕ) → workers ≡ more + 1 → trees ≤ workers * trees
at_least_one workers more trees is = subst (λ (n : ℕ). trees ≤ n * trees) (sym is) (omega arith)

-- as many as one worker more has
pub one_more_each : (opening given workers trees : ℕ) → opening ≡ trees → given + 1 ≡ workers → opening + given * trees ≡ workers * trees
one_more_each opening given workers trees same more =
    subst (λ (n : ℕ). opening + given * trees ≡ n * trees) more (omega (arith, same))

-- the room that was taken is enough for all shares
pub room_for_all : (opening given workers trees room more : ℕ) → opening + given * trees ≡ workers * trees → workers * trees ≤ room
    → room ≤ more → opening + given * trees ≤ more
room_for_all opening given workers trees room more whole fits grows = omega (arith, whole, fits, grows)

-- a closed forest that comes back once its trees were under their locks
pub back_late : (given : ForestValue) (bounds : List ℕ) (made : Config) (unshared : UnsharedForest) → given.bounds ≡ bounds
    → made ≡ config_of given.tables → IsLate unshared.fault → ComesBack bounds made unshared → IsForestBack given unshared
back_late given bounds made unshared divided config late back = record {
  back = subst (λ (b : List ℕ). ComesBack b (config_of given.tables) unshared) (sym divided)
      (subst (λ (c : Config). ComesBack bounds c unshared) config back);
  same = λ early. absurd (early late);
}
