-- The ids of a new table's free slots.
use Rattle.std.proofs.Common.{◌≡◌, ℕ, ◌+◌, ◌-◌, ◌<◌, ◌≤◌, ◌++◌, List, [], ◌∷◌, length, zero, suc, Option, Some, None, IsSome, refl, ap, sym, ◌∙◌, arith, append_assoc}
use Rattle.std.specs.Prelude.{slice_get, unwrap_or, option_to_list}
use Rattle.bw_law.specs.Tables.{ids_down}
use Rattle.bw_law.specs.MorePages.{ids_from}
use Rattle.bw_law.specs.Refusals.{last_id, all_but_last}

-- the first id, and those after it
pub next_id : (n : ℕ) → 1 < n → ids_down n ≡ (n - 1) ∷ ids_down (n - 1)
next_id zero more = absurd (omega arith)
next_id (suc zero) more = absurd (omega arith)
next_id (suc (suc n)) more = let same : suc (suc n) - 1 ≡ suc n = omega arith in rw same refl

pub pushed_id : (ids all : List ℕ) (n : ℕ) → 1 < n → ids ++ ids_down n ≡ all → (ids ++ (n - 1) ∷ []) ++ ids_down (n - 1) ≡ all
pushed_id ids all n more h = append_assoc ids _ _ ∙ ap (λ rest. ids ++ rest) (sym (next_id n more)) ∙ h

-- and there is none at the end
pub no_ids : (n : ℕ) → n ≤ 1 → ids_down n ≡ []
no_ids zero few = refl
no_ids (suc zero) few = refl
no_ids (suc (suc n)) few = absurd (omega arith)

pub ruleset next_ids = (next_id, pushed_id)

-- the last id is the one at the end
pub last_id_at_end : (ids : List ℕ) → slice_get ids (length ids - 1) ≡ last_id ids
last_id_at_end [] = refl
last_id_at_end (id ∷ []) = refl
last_id_at_end (id ∷ next ∷ rest) =
    let shorter : length (id ∷ next ∷ rest) - 1 ≡ suc (length (next ∷ rest) - 1) = omega arith in
    rw shorter (last_id_at_end (next ∷ rest))

last_id-append : (ids : List ℕ) (id : ℕ) → last_id (ids ++ id ∷ []) ≡ Some id
last_id-append [] id = refl
last_id-append (first ∷ []) id = refl
last_id-append (first ∷ next ∷ rest) id = last_id-append (next ∷ rest) id

all_but_last-append : (ids : List ℕ) (id : ℕ) → all_but_last (ids ++ id ∷ []) ≡ ids
all_but_last-append [] id = refl
all_but_last-append (first ∷ []) id = refl
all_but_last-append (first ∷ next ∷ rest) id = ap (λ ids. first ∷ ids) (all_but_last-append (next ∷ rest) id)

-- what was popped was the last id, and the others are left
pub popped : (old new : List ℕ) (popped : Option ℕ) → IsSome (last_id old) → old ≡ new ++ option_to_list popped → IsSome popped → (last_id old ≡ Some (unwrap_or popped 0)) × (new ≡ all_but_last old)
popped old new None there parts some = cc
popped old new (Some id) there parts some = (ap last_id parts ∙ last_id-append new id, sym (ap all_but_last parts ∙ all_but_last-append new id))

pub ruleset last_ids = (last_id_at_end)

pub ruleset taken_ids = (popped)

-- the ids from the first on: the greatest, and those below it
pub next_from : (first id : ℕ) → first < id → ids_from first (id - first) ≡ (id - 1) ∷ ids_from first ((id - 1) - first)
next_from first id more =
    let n : ℕ = (id - 1) - first in
    let count : id - first ≡ suc n = omega arith in
    let greatest : first + n ≡ id - 1 = omega arith in
    rw count (ap (λ x. x ∷ ids_from first n) greatest)

pub pushed_from : (ids all : List ℕ) (first id : ℕ) → first < id → ids ++ ids_from first (id - first) ≡ all → (ids ++ (id - 1) ∷ []) ++ ids_from first ((id - 1) - first) ≡ all
pushed_from ids all first id more h = append_assoc ids _ _ ∙ ap (λ rest. ids ++ rest) (sym (next_from first id more)) ∙ h

pub none_from : (first id : ℕ) → id ≤ first → ids_from first (id - first) ≡ []
none_from first id few = let none : id - first ≡ 0 = omega arith in rw none refl

pub ruleset more_ids = (next_from, pushed_from)
