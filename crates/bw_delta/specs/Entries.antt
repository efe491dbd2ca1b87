-- Maps from keys as lists of entries, whose keys rise strictly.
use Rattle.std.specs.Prelude.{ℕ, ◌+◌, Bool, true, false, ◌&&◌, not, if◌then◌else◌, ◌==◌, nat_lt, nat_le, List, [], ◌∷◌, Option, Some, None, unwrap_or, filter}

-- what stands at the key
abbrev pub at : {X : Type 0} → ℕ → List (ℕ × X) → Option X
at key [] = None
at key (e ∷ es) = if e.0 == key then Some e.1 else at key es

-- the entries with this one at its key
abbrev pub put : {X : Type 0} → ℕ → X → List (ℕ × X) → List (ℕ × X)
put key x [] = (key, x) ∷ []
put key x (e ∷ es) = if nat_lt e.0 key then e ∷ put key x es else (if e.0 == key then (key, x) ∷ es else (key, x) ∷ e ∷ es)

-- the entries without the one at the key
abbrev pub without : {X : Type 0} → ℕ → List (ℕ × X) → List (ℕ × X)
without key es = filter (λ e. not (e.0 == key)) es

-- the entries with smaller keys
abbrev pub below : {X : Type 0} → ℕ → List (ℕ × X) → List (ℕ × X)
below bound es = filter (λ e. nat_lt e.0 bound) es

-- the entries from the key on
abbrev pub from : {X : Type 0} → ℕ → List (ℕ × X) → List (ℕ × X)
from bound es = filter (λ e. nat_le bound e.0) es

-- the keys rise strictly, from the bound on and below the end
abbrev pub rises : {X : Type 0} → ℕ → ℕ → List (ℕ × X) → Bool
rises bound end [] = true
rises bound end (e ∷ es) = nat_le bound e.0 && nat_lt e.0 end && rises (e.0 + 1) end es

abbrev pub first_entry : {X : Type 0} → List (ℕ × X) → Option (ℕ × X)
first_entry [] = None
first_entry (e ∷ es) = Some e

abbrev pub last_entry : {X : Type 0} → List (ℕ × X) → Option (ℕ × X)
last_entry [] = None
last_entry (e ∷ es) = Some (unwrap_or (last_entry es) e)

-- the least entry at or above the key
abbrev pub first_from : {X : Type 0} → ℕ → List (ℕ × X) → Option (ℕ × X)
first_from key es = first_entry (from key es)

-- the greatest entry strictly below the key
abbrev pub last_below : {X : Type 0} → ℕ → List (ℕ × X) → Option (ℕ × X)
last_below key es = last_entry (below key es)

-- the greatest entry at or below the key
abbrev pub last_upto : {X : Type 0} → ℕ → List (ℕ × X) → Option (ℕ × X)
last_upto key es = last_below (key + 1) es

-- the key is that of the first entry
abbrev pub starts_at : {X : Type 0} → ℕ → List (ℕ × X) → Bool
starts_at key [] = false
starts_at key (e ∷ es) = e.0 == key
