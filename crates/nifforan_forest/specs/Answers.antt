-- What a worker's hands on several trees answer in turn.
use Rattle.std.specs.Prelude.{◌≡◌, ℕ, ◌+◌, ◌<◌, ◌≤◌, List, [], ◌∷◌, Option, Some, None, slice_get}

-- the trees from one on and before another have no answer
abbrev pub HaveNone : {H X : Type 0} → (H → Option X → Type 0) → List H → ℕ → ℕ → Type 0
HaveNone {H} answers hands first end =
    (tree : ℕ) (hand : H) → first ≤ tree → tree < end → slice_get hands tree ≡ Some hand
    → answers hand None

-- the answer of the first tree, from one on, that has any
abbrev pub IsFirstAnswer : {H X : Type 0} → (H → Option X → Type 0) → List H → ℕ → Option X → Type 0
IsFirstAnswer {H} answers hands first None = (end : ℕ) → HaveNone answers hands first end
IsFirstAnswer {H} answers hands first (Some pair) =
    (tree : ℕ) × (hand : H) × (first ≤ tree) × (slice_get hands tree ≡ Some hand) × answers hand
    (Some pair) × HaveNone answers hands first tree

-- the answer of the last tree, up to one, that has any
abbrev pub IsLastAnswer : {H X : Type 0} → (H → Option X → Type 0) → List H → ℕ → Option X → Type 0
IsLastAnswer {H} answers hands last None = HaveNone answers hands 0 (last + 1)
IsLastAnswer {H} answers hands last (Some pair) =
    (tree : ℕ) × (hand : H) × (tree ≤ last) × (slice_get hands tree ≡ Some hand) × answers hand
    (Some pair) × HaveNone answers hands (tree + 1) (last + 1)

-- the counts of all trees, each of a moment of its own, are this together
abbrev pub HaveTogether : {H : Type 0} → (H → ℕ → Type 0) → List H → ℕ → Type 0
HaveTogether has [] all = all ≡ 0
HaveTogether has (hand ∷ rest) all =
    (own others : ℕ) × has hand own × HaveTogether has rest others × (all ≡ own + others)
