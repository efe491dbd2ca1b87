-- Pairs in C's array.
use Rattle.std.specs.Prelude.{ℕ, List, [], ◌∷◌, Option, Some, None, map}
use Rattle.nifforan.specs.Maps.{PairList}
use Rattle.nifforan_handle.specs.declared.answer.Pair.{Pair}

abbrev pub are_pairs : List Pair → PairList
are_pairs places = map (λ pair. (pair.key, pair.value)) places

-- the key of the first pair, if there is one
abbrev pub first_key : PairList → Option ℕ
first_key [] = None
first_key (pair ∷ pairs) = Some pair.0
