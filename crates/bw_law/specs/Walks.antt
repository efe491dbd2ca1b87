-- The row of a level as a list of pages, and the walk of a search.
use Rattle.std.specs.Prelude.{◌≡◌, ◌≢◌, ◌⊎◌, ◌↔◌, ℕ, ◌+◌, ◌<◌, ◌≤◌, List, [], ◌∷◌, Some, None}
use Rattle.bw_step.specs.declared.view.Stage.TheVariants.{Merged}
use Rattle.bw_law.specs.Rows.{Outline, Spans, InRow}

-- each page but the last leads to the next by its right link, and the last has none
abbrev pub Linked : (ℕ → Outline) → List ℕ → Type 0
Linked at [] = ⊥
Linked at (p ∷ []) = (at p).right ≡ None
Linked at (p ∷ q ∷ rest) = ((at p).right ≡ Some q) × Linked at (q ∷ rest)

-- the row of a level begins with its page whose low is 0, goes on by right
-- links, and ends at a page without one
abbrev pub IsRow : (ℕ → Outline) → ℕ → List ℕ → Type 0
IsRow at level [] = ⊥
IsRow at level (p ∷ rest) =
    InRow (at p) × ((at p).level ≡ level) × ((at p).low ≡ 0) × Linked at (p ∷ rest)

-- the ranges partition the keys from `start` to `top`: none is empty, each begins where the one
-- before ends, and the last ends at `top`
abbrev pub Partitions : (ℕ → Outline) → ℕ → ℕ → List ℕ → Type 0
Partitions at start top [] = start ≡ top
Partitions at start top (p ∷ rest) =
    ((at p).low ≡ start) × ((at p).low < (at p).high) × Partitions at (at p).high top rest

abbrev pub IsAmong : List ℕ → ℕ → Type 0
IsAmong [] q = ⊥
IsAmong (p ∷ rest) q = (q ≡ p) ⊎ IsAmong rest q

abbrev pub RepeatsNone : List ℕ → Type 0
RepeatsNone [] = Unit {0}
RepeatsNone (p ∷ rest) = (IsAmong rest p → ⊥) × RepeatsNone rest

-- the row of a level, whose ranges partition the keys, that repeats no page and
-- has just the pages in a row of the level
pub record IsRowOf (at : ℕ → Outline) (top level : ℕ) (row : List ℕ) : Type 0 where
  pub is_row : IsRow at level row
  pub partitions : Partitions at 0 top row
  pub repeats_none : RepeatsNone row
  pub members : (p : ℕ) → IsAmong row p ↔ (InRow (at p) × ((at p).level ≡ level))

-- a route that a search may take: one whose child isn't merged
abbrev pub IsLive : (ℕ → Outline) → Outline → ℕ → ℕ → Type 0
IsLive at page separator child = (page.routes separator ≡ Some child) × ((at child).stage ≢ Merged)

-- right, where the key is past the page's high
abbrev pub GoesRight : (ℕ → Outline) → ℕ → ℕ → ℕ → Type 0
GoesRight at key p q = ((at p).high ≤ key) × ((at p).right ≡ Some q)

-- otherwise down, by the greatest live route at or below the key
pub record GoesDown (at : ℕ → Outline) (key p q : ℕ) : Type 0 where
  pub inner : (level : ℕ) × ((at p).level ≡ level + 1)
  pub within : key < (at p).high
  pub route : ℕ
  pub at_or_below : route ≤ key
  pub live : IsLive at (at p) route q
  pub greatest : (k c : ℕ) → route < k → k ≤ key → IsLive at (at p) k c → ⊥

abbrev pub GoesOn : (ℕ → Outline) → ℕ → ℕ → ℕ → Type 0
GoesOn at key p q = GoesRight at key p q ⊎ GoesDown at key p q

-- a list of pages that ends at a leaf whose range holds the key
abbrev pub IsWalk : (ℕ → Outline) → ℕ → List ℕ → Type 0
IsWalk at key [] = ⊥
IsWalk at key (p ∷ []) = ((at p).level ≡ 0) × Spans (at p) key
IsWalk at key (p ∷ q ∷ rest) = GoesOn at key p q × IsWalk at key (q ∷ rest)

abbrev pub IsWalkFrom : (ℕ → Outline) → ℕ → ℕ → List ℕ → Type 0
IsWalkFrom at root key [] = ⊥
IsWalkFrom at root key (p ∷ rest) = (p ≡ root) × IsWalk at key (p ∷ rest)

-- the last page of a list that goes on after this one
abbrev pub last_of : ℕ → List ℕ → ℕ
last_of p [] = p
last_of p (q ∷ rest) = last_of q rest
