-- What is written of a history.
use Rattle.std.specs.Prelude.{ℕ, ◌+◌, ◌∷◌, ◌++◌, [], List, Option, Some, None, codes, decimal, flat_map}
use Rattle.csv.specs.Writing.{row_text}
use Rattle.bw_step.specs.declared.receipt.Receipt.{Receipt}
use Rattle.bw_step.specs.declared.receipt.Receipt.TheVariants.{Inserted, Deleted, Modified, Looked, Shaped}
use Rattle.bw_texts.specs.Written.{flexible_writer}

abbrev pub look_fields : ℕ → ℕ → ℕ → Option ℕ → List (List ℕ)
look_fields worker seen key None = decimal worker ∷ codes "none" ∷ decimal seen ∷ decimal key ∷ [] ∷ []
look_fields worker seen key (Some value) = decimal worker ∷ codes "hit" ∷ decimal seen ∷ decimal key ∷ decimal value ∷ []

-- the text of a worker's receipt; a receipt of a changed shape has none
abbrev pub receipt_text : ℕ → Receipt → List ℕ
receipt_text worker (Inserted number key value) = row_text flexible_writer (decimal worker ∷ codes "ins" ∷ decimal number ∷ decimal key ∷ decimal value ∷ [])
receipt_text worker (Deleted number key value) = row_text flexible_writer (decimal worker ∷ codes "del" ∷ decimal number ∷ decimal key ∷ decimal value ∷ [])
receipt_text worker (Modified number key old value) =
    row_text flexible_writer (decimal worker ∷ codes "mod" ∷ decimal number ∷ decimal key ∷ decimal value ∷ decimal old ∷ [])
receipt_text worker (Looked seen key found) = row_text flexible_writer (look_fields worker seen key found)
receipt_text worker (Shaped kind page other) = []

abbrev pub trail_text : ℕ → List Receipt → List ℕ
trail_text worker trail = flat_map (receipt_text worker) trail

-- the trails of the workers from this one on
abbrev pub trails_text : ℕ → List (List Receipt) → List ℕ
trails_text worker [] = []
trails_text worker (trail ∷ trails) = trail_text worker trail ++ trails_text (worker + 1) trails

abbrev pub pair_text : ℕ × ℕ → List ℕ
pair_text pair = row_text flexible_writer (codes "end" ∷ codes "pair" ∷ decimal 0 ∷ decimal pair.0 ∷ decimal pair.1 ∷ [])

-- the trails worker by worker, and then the pairs
abbrev pub history_text : List (List Receipt) → List (ℕ × ℕ) → List ℕ
history_text trails pairs = trails_text 0 trails ++ flat_map pair_text pairs
