-- What a reader answers: what there is in a table where a list of accepted steps leads.
use Rattle.std.specs.Prelude.{◌≡◌, ℕ, ◌+◌, List, Option, MatchOption, MatchResult}
use Rattle.std.specs.List.{AllZip}
use Rattle.bw_keys.specs.declared.config.Config.{Config}
use Rattle.bw_keys.specs.Ranges.{key_count, end_of}
use Rattle.bw_step.specs.Proposals.{Proposal}
use Rattle.bw_step.specs.declared.view.Look.{Look}
use Rattle.bw_law.specs.Tables.{TableValue, number_of}
use Rattle.bw_table.specs.Gets.{IsMapAt, IsListing}
use Rattle.bw_table.specs.Orders.{HasNoKeyWithin, IsNextAt, IsPreviousAt, HasPairs, last_key}
use Rattle.bw_snap.specs.declared.question.Listed.{Listed}
use Rattle.bw_snap.specs.declared.question.Listing.{Listing}
use Rattle.bw_snap.specs.Snapshots.{IsSnapshot}

-- What a table answers.

-- what was found is the value at the key, beside the number of changes of the map
abbrev pub IsLookAt : TableValue → ℕ → Look → Type 0
IsLookAt table key look = IsMapAt table key look.found × (look.at ≡ number_of table.book)

-- what was found at each of the keys is the value there
abbrev pub AreMapAt : TableValue → List ℕ → List (Option ℕ) → Type 0
AreMapAt table = AllZip (IsMapAt table)

-- what was found is the first pair at the key or past it, or none where there is no such pair
abbrev pub IsFirstFrom : TableValue → ℕ → Option (ℕ × ℕ) → Type 0
IsFirstFrom table key found =
    MatchOption found (HasNoKeyWithin table key key_count) (IsNextAt table key)

-- what was found is the last pair at the key or before it, or none where there is no such pair
abbrev pub IsLastUpTo : TableValue → ℕ → Option (ℕ × ℕ) → Type 0
IsLastUpTo table key found =
    MatchOption found (HasNoKeyWithin table 0 (key + 1)) (IsPreviousAt table key)

-- the list has the first pairs of the range, no more than the limit, or
-- is as it was where memory was refused
abbrev pub Lists : TableValue → Listing → Listed → Type 0
Lists table question listed =
    MatchResult listed.done
    (λ _. IsListing table question.low (end_of question.high) question.limit listed.list.items)
    (λ _. listed.list ≡ question.list)

-- What a reader answers.

-- the answer is one that the table has where these steps lead
abbrev pub IsAnswerIn : {A : Type 0} → Config → (TableValue → A → Type 0) → List Proposal → A
    → Type 0
IsAnswerIn config answers steps answer =
    (table : TableValue) × IsSnapshot config steps table × answers table answer

-- what was found is the value that the map has at the key after these steps
abbrev pub IsFoundIn : Config → ℕ → List Proposal → Option ℕ → Type 0
IsFoundIn config key = IsAnswerIn config (λ table. IsMapAt table key)

-- what was found at each of the keys is the value that the map has there after these same steps
abbrev pub AreFoundIn : Config → List ℕ → List Proposal → List (Option ℕ) → Type 0
AreFoundIn config keys = IsAnswerIn config (λ table. AreMapAt table keys)

-- what was found is the value at the key after these steps, and this
-- number of changes of the map is among them
abbrev pub IsLookIn : Config → ℕ → List Proposal → Look → Type 0
IsLookIn config key = IsAnswerIn config (λ table. IsLookAt table key)

-- what was found is the first pair of the map at the key or past
-- it after these steps, if there is one
abbrev pub IsNextIn : Config → ℕ → List Proposal → Option (ℕ × ℕ) → Type 0
IsNextIn config key = IsAnswerIn config (λ table. IsFirstFrom table key)

-- what was found is the last pair of the map at the key or before
-- it after these steps, if there is one
abbrev pub IsPreviousIn : Config → ℕ → List Proposal → Option (ℕ × ℕ) → Type 0
IsPreviousIn config key = IsAnswerIn config (λ table. IsLastUpTo table key)

-- what was found is the pair of the least key after these steps, if the map has any pair
abbrev pub IsFirstIn : Config → List Proposal → Option (ℕ × ℕ) → Type 0
IsFirstIn config = IsNextIn config 0

-- what was found is the pair of the greatest key after these steps, if the map has any pair
abbrev pub IsLastIn : Config → List Proposal → Option (ℕ × ℕ) → Type 0
IsLastIn config = IsPreviousIn config last_key

-- the map has this number of pairs after these steps
abbrev pub IsLenIn : Config → List Proposal → ℕ → Type 0
IsLenIn config = IsAnswerIn config HasPairs

-- this number of changes of the map is among these steps
abbrev pub IsNumberIn : Config → List Proposal → ℕ → Type 0
IsNumberIn config = IsAnswerIn config (λ table number. number ≡ number_of table.book)

-- these are the first pairs of the map from the low on and below the end after
-- these steps, and no more than the limit
abbrev pub IsRangeIn : Config → ℕ → ℕ → ℕ → List Proposal → List (ℕ × ℕ) → Type 0
IsRangeIn config low end limit = IsAnswerIn config (λ table. IsListing table low end limit)

-- these are the first pairs of the map from the key on after
-- these steps, and no more than the limit
abbrev pub IsListedIn : Config → ℕ → ℕ → List Proposal → List (ℕ × ℕ) → Type 0
IsListedIn config low limit = IsRangeIn config low key_count limit
