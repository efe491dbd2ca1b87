-- What a test leaves of the pairs of a map.
use Rattle.std.specs.Prelude.{◌≡◌, ℕ, ◌+◌, Bool, [], ◌∷◌, ◌++◌, length, Option, Some, None}
use Rattle.std.specs.Bool.{MatchBool}
use Rattle.std.specs.List.Retain.{IsFiltered}
use Rattle.nifforan.specs.Maps.{PairList}

-- the test went over the first pairs in their order, and those of which it said false are gone. It
-- went over all of them, unless the call ended before
pub record Leaves {F : Type 0} (test : F → ℕ × ℕ → Bool → F → Type 0) (f : F) (Whole : Type 0)
    (old new : PairList) : Type 0 where
  pub tested : PairList
  pub kept : PairList
  pub left : PairList
  pub before : old ≡ tested ++ left
  pub after : new ≡ kept ++ left
  pub filtered : IsFiltered test f tested kept
  pub whole : Whole → left ≡ []

-- the same, and n of them are gone
pub record Retains {F : Type 0} (test : F → ℕ × ℕ → Bool → F → Type 0) (f : F) (n : ℕ)
    (Whole : Type 0) (old new : PairList) : Type 0 where
  pub leaves : Leaves test f Whole old new
  pub count : length new + n ≡ length old

-- the test went over the pairs up to the first of which it said
-- false, which has the key found, or over all
abbrev pub Refuses : {F : Type 0} → (F → ℕ × ℕ → Bool → F → Type 0) → Option ℕ → F → PairList → F
    → Type 0
Refuses test found f [] g = (found ≡ None) × (f ≡ g)
Refuses {F} test found f (pair ∷ pairs) g =
    (stays : Bool) × (mid : F) × test f pair stays mid
    × MatchBool stays (Refuses test found mid pairs g) ((found ≡ Some pair.0) × (mid ≡ g))
