-- What a function makes of the pairs of a map in a range.
use Rattle.std.specs.Prelude.{◌≡◌, ℕ, ◌==◌, [], ◌∷◌, ◌++◌, Option, Some, None}
use Rattle.std.specs.Bool.{MatchBool}
use Rattle.nifforan.specs.declared.update.Altered.{Altered}
use Rattle.nifforan.specs.Maps.{PairList, within, outside}

-- each key of the pairs has the value that the function made of it then, one after the other
abbrev pub Makes : {F : Type 0} → (F → ℕ × ℕ → ℕ → F → Type 0) → F → PairList → PairList → F
    → Type 0
Makes new f [] made g = (made ≡ []) × (f ≡ g)
Makes {F} new f (pair ∷ pairs) made g =
    (value : ℕ) × (mid : F) × (rest : PairList) × new f pair value mid × Makes new mid pairs rest g
    × (made ≡ (pair.0, value) ∷ rest)

-- pairs outside the range are as they were. Of those in it the first ones have what the function
-- made of them, in their order, and those left are as they were: none, unless the call ended before
pub record Updates {F : Type 0} (new : F → ℕ × ℕ → ℕ → F → Type 0) (f : F) (low end : ℕ)
    (Whole : Type 0) (old after : PairList) : Type 0 where
  pub others : outside low end after ≡ outside low end old
  pub first : PairList
  pub made : PairList
  pub left : PairList
  pub last : F
  pub had : within low end old ≡ first ++ left
  pub has : within low end after ≡ made ++ left
  pub makes : Makes new f first made last
  pub whole : Whole → left ≡ []

-- the key and the value of a pair that gets another one
abbrev pub pair_of : Option Altered → Option (ℕ × ℕ)
pair_of None = None
pair_of (Some altered) = Some (altered.key, altered.value)

-- the function made of the first pairs the values that they have, and another one, which is found,
-- of the next; or of all those that they have, and none is found
abbrev pub Alters : {F : Type 0} → (F → ℕ × ℕ → ℕ → F → Type 0) → Option (ℕ × ℕ) → F → PairList
    → F → Type 0
Alters new found f [] g = (found ≡ None) × (f ≡ g)
Alters {F} new found f (pair ∷ pairs) g =
    (value : ℕ) × (mid : F) × new f pair value mid
    × MatchBool (value == pair.1) (Alters new found mid pairs g)
    ((found ≡ Some (pair.0, value)) × (mid ≡ g))
