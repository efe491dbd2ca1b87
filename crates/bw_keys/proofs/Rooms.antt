-- How many pages there are on all levels: from level to level they thin out by 32, so that there are five levels at most.
use Rattle.std.proofs.Common.{ℕ, ◌+◌, ◌-◌, ◌*◌, ◌<◌, ◌≤◌, List, [], ◌∷◌, arith}
use Rattle.std.specs.Prelude.{sum}
use Rattle.bw_keys.specs.Rooms.{half, AreLevels}

pub pages_in_all : (pairs leaves : ℕ) (above : List ℕ) → pairs < 33554432 → half * (leaves - 1) ≤ pairs → AreLevels leaves above → 31 * (leaves + sum above) ≤ pairs + 155
pages_in_all pairs leaves [] few enough levels = omega (arith, levels, enough)
pages_in_all pairs leaves (a ∷ []) few enough levels = omega (arith, enough, levels.0, levels.1, levels.2)
pages_in_all pairs leaves (a ∷ b ∷ []) few enough levels = omega (arith, enough, levels.0, levels.1, levels.2.0, levels.2.1, levels.2.2)
pages_in_all pairs leaves (a ∷ b ∷ c ∷ []) few enough levels =
    let up = levels.2.2 in
    omega (arith, enough, levels.0, levels.1, levels.2.0, levels.2.1, up.0, up.1, up.2)
pages_in_all pairs leaves (a ∷ b ∷ c ∷ d ∷ []) few enough levels =
    let up = levels.2.2 in
    omega (arith, enough, levels.0, levels.1, levels.2.0, levels.2.1, up.0, up.1, up.2.0, up.2.1, up.2.2)
pages_in_all pairs leaves (a ∷ b ∷ c ∷ d ∷ e ∷ above) few enough levels =
    let up = levels.2.2 in
    let top = up.2.2 in
    absurd (omega (arith, few, enough, levels.1, levels.2.1, up.1, up.2.1, top.0))
