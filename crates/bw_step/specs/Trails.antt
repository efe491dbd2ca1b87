-- The receipts of each worker, as lists.
use Rattle.std.specs.Prelude.{List, map, Vec}

-- the list of each of these vectors
abbrev pub lists_of : {T A : Type 0} → List (Vec T A) → List (List T)
lists_of trails = map (λ trail. trail.items) trails
