-- The field at a place, as an element of a list.
use Rattle.std.proofs.Common.{◌≡◌, ℕ, zero, suc, List, [], ◌∷◌, Some, None, refl, slice_index_or}
use Rattle.csv.specs.Records.{field_at}

pub field_there : (fs : List (List ℕ)) (i : ℕ) (f : List ℕ) → Some f ≡ field_at fs i → f ≡ slice_index_or fs i []
unfolding field_at
field_there [] i f e = cc
field_there (g ∷ fs) zero f e = cc
field_there (g ∷ fs) (suc i) f e = field_there fs i f e

pub field_away : (fs : List (List ℕ)) (i : ℕ) → None ≡ field_at fs i → slice_index_or fs i [] ≡ []
unfolding field_at
field_away [] i e = refl
field_away (g ∷ fs) zero e = cc
field_away (g ∷ fs) (suc i) e = field_away fs i e
