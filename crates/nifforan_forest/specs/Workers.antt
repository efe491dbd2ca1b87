-- What the workers of a forest bring back.
use Rattle.std.specs.Prelude.{◌≡◌, ℕ, List, [], ◌∷◌, ◌++◌, map}
use Rattle.bw_keys.specs.declared.range.Range.{Range}
use Rattle.bw_step.specs.declared.receipt.Receipt.{Receipt}
use Rattle.bw_forest.specs.Bounds.{ranges_of}
use Rattle.bw_crew.specs.Workers.{ByNumber}
use Rattle.nifforan_forest.specs.declared.returned.Returned.{Returned}

-- each hand is on the tree of its number
abbrev pub ArePlaced : {H : Type 0} → (H → Range) → List ℕ → List H → Type 0
ArePlaced range bounds hands = map range hands ≡ ranges_of bounds

-- what is promised of the trees' bounds, of a worker's number, of what that worker brings back, and
-- of its trails at the end, by the trees
abbrev pub PromisedOf : Type 0 → Type 1
PromisedOf O = List ℕ → ℕ → O → List (List Receipt) → Type 0

-- where these are the bounds, the promise holds of each worker's number, output and trails
abbrev pub AllReturn : {O L : Type 0} → (L → List Receipt) → PromisedOf O → List ℕ
    → List (Returned O L) → Type 0
AllReturn added promised bounds all =
    ByNumber (λ worker it. promised bounds worker it.output (map added it.trails.items)) 0 all

-- all trails, worker by worker and tree by tree
abbrev pub trails_of : {O L : Type 0} → (L → List Receipt) → List (Returned O L)
    → List (List Receipt)
trails_of added [] = []
trails_of added (it ∷ rest) = map added it.trails.items ++ trails_of added rest
