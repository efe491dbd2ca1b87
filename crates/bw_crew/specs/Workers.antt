-- Workers by their numbers, and what their trails tell.
use Rattle.std.specs.Prelude.{◌≡◌, ◌+◌, ℕ, List, [], ◌∷◌, fold, map, slice_get, Option, Ok, Some, None, MatchOption}
use Rattle.bw_keys.specs.declared.range.Range.{Range}
use Rattle.bw_step.specs.declared.receipt.Receipt.{Receipt}
use Rattle.bw_step.specs.declared.view.Look.{Look}
use Rattle.bw_tree.specs.Shares.{ShareValue, counted, no_changes, sum_of}
use Rattle.bw_procedures.specs.declared.steps.Keep.TheVariants.{Always}
use Rattle.bw_procedures.specs.Seen.{Seen, Looked}

-- a worker of a tree: what its account is, and the range of the keys that the tree is for
pub record MemberValue : Type 0 where
  pub seen : Seen
  pub range : Range

-- what is promised of a worker's number, of what that worker brings back, and of its trail at the
-- end
abbrev pub Promised : Type 0 → Type 1
Promised O = ℕ → O → List Receipt → Type 0

-- What is promised where the jobs are by the workers' numbers: what the worker's own job promises.
-- A worker past the last job brings nothing back, and its trail stays empty.
abbrev pub promised_of_each : {J O : Type 0} → (J → Promised O) → List J → Promised (Option O)
promised_of_each promised jobs worker output trail =
    MatchOption (slice_get jobs worker) ((output ≡ None) × (trail ≡ []))
    (λ job. MatchOption output ⊥ (λ it. promised job worker it trail))

-- the share of a worker with this trail
abbrev pub share_by : List Receipt → ShareValue
share_by trail = fold counted no_changes trail

-- all insertions and all removals of the trails
abbrev pub changes_in : List (List Receipt) → ShareValue
changes_in trails = sum_of (map share_by trails)

-- the fact holds of each worker's number and its value, from this worker on
abbrev pub ByNumber : {X : Type 0} → (ℕ → X → Type 0) → ℕ → List X → Type 0
ByNumber fact worker [] = Unit {0}
ByNumber fact worker (x ∷ xs) = fact worker x × ByNumber fact (worker + 1) xs

-- these have the numbers from the first on, in this order
abbrev pub AreNumbered : {X : Type 0} → (X → ℕ) → ℕ → List X → Type 0
AreNumbered number first xs = ByNumber (λ worker x. number x ≡ worker) first xs

-- the promise holds of each worker's number, output and trail, of the workers from this one on
abbrev pub AreAsPromised : {O : Type 0} → Promised O → ℕ → List O → List (List Receipt) → Type 0
AreAsPromised promised worker [] [] = Unit {0}
AreAsPromised promised worker (output ∷ outputs) (trail ∷ trails) =
    promised worker output trail × AreAsPromised promised (worker + 1) outputs trails
AreAsPromised promised worker outputs trails = ⊥

-- the promise holds of all workers, to whose trails these receipts were added
abbrev pub AllAsPromised : {O L : Type 0} → (L → List Receipt) → Promised O → List O → List L
    → Type 0
AllAsPromised added promised outputs trails = AreAsPromised promised 0 outputs (map added trails)

-- the look was added to the trail, and nothing else has changed
abbrev pub AddsNote : ℕ → Look → Seen → Seen → Type 0
AddsNote key look old new = Looked Always key (Ok (Some look)) old new
