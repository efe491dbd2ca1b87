-- What an index of changes keeps: the first place of each number up to their count, and each numbered change by its key.
use Rattle.std.specs.Prelude.{ℕ, ◌+◌, ◌≤◌, ◌≡◌, ◌==◌, ◌&&◌, ◌||◌, cond, suc, zero, List, [], ◌∷◌, ◌++◌, length, Bool, Option, Some, None, option_map, nat_lt, nat_le, slice_index_or, ◌-◌, not, true, false, map}
use Rattle.std.specs.List.Sorted.{IsPartitionPoint, IsPermutation, IsSorted}
use Rattle.std.specs.Ordering.{nat_cmp, ordering_then}
use Rattle.std.specs.declared.cmp.Ordering.{Ordering}
use Rattle.bw_delta.specs.Entries.{at}
use Rattle.bw_chain.specs.Ascends.{IsAscending}
use Rattle.bw_audit.specs.declared.change.Change.{Change}
use Rattle.bw_audit.specs.Changes.{bearer, value_at}

-- the place of the first change that bears a number
abbrev pub first_place : List Change → ℕ → Option ℕ
first_place [] number = None
first_place (c ∷ cs) number = cond (c.number == number) (Some 0) (option_map suc (first_place cs number))

-- the first places of the numbers from 0 to n
pub record ArePlaces (changes : List Change) (n : ℕ) (places : List (Option ℕ)) : Type 0 where
  pub counted : length places ≡ n + 1
  pub placed : (number : ℕ) → number ≤ n → slice_index_or places number None ≡ first_place changes number

-- what the key of a change has after it
abbrev pub after_of : Option Change → Option ℕ
after_of None = None
after_of (Some c) = c.after

-- the key and the number of a change
abbrev pub row_of : Option Change → List (ℕ × ℕ)
row_of None = []
row_of (Some c) = (c.key, c.number) ∷ []

-- those of the first change of each number from 1 to n
abbrev pub rows_upto : List Change → ℕ → List (ℕ × ℕ)
rows_upto cs zero = []
rows_upto cs (suc n) = rows_upto cs n ++ row_of (bearer cs (suc n))

-- keys, and then numbers
abbrev pub pair_cmp : ℕ × ℕ → ℕ × ℕ → Ordering
pair_cmp a b = ordering_then (nat_cmp a.0 b.0) (nat_cmp a.1 b.1)

abbrev pub is_upto : ℕ → ℕ → ℕ × ℕ → Bool
is_upto key number row = nat_lt row.0 key || (row.0 == key && nat_le row.1 number)

-- so many rows are of a lower key, or of this key and a number of at most this: the first ones
pub record IsCountUpto (rows : List (ℕ × ℕ)) (key number count : ℕ) : Type 0 where
  pub bound : count ≤ length rows
  pub point : IsPartitionPoint (λ row. is_upto key number row ≡ true) (λ row. is_upto key number row ≡ false) rows count

-- the neighbours of a range tell that the count is in it
abbrev pub is_within : ℕ → ℕ → ℕ → ℕ → List (ℕ × ℕ) → Bool
is_within key number from to rows =
    nat_le from to && nat_le to (length rows) && ((from == 0) || is_upto key number (slice_index_or rows (from - 1) (0, 0)))
    && ((to == length rows) || not (is_upto key number (slice_index_or rows to (0, 0))))

-- what each row leaves of its key
abbrev pub AreLeft : List Change → List (ℕ × ℕ) → List (Option ℕ) → Type 0
AreLeft changes rows left = left ≡ map (λ row. after_of (bearer changes row.1)) rows

-- the lists are an index of the changes
pub record Indexes (places : List (Option ℕ)) (rows : List (ℕ × ℕ)) (changes : List Change) : Type 0 where
  pub placed : ArePlaces changes (length changes) places
  pub kept : IsPermutation (rows_upto changes (length changes)) rows
  pub in_order : IsSorted pair_cmp rows

-- the pairs of the map after all changes
pub record IsLeftBy (changes : List Change) (pairs : List (ℕ × ℕ)) : Type 0 where
  pub ascending : IsAscending pairs
  pub reported : (key : ℕ) → at key pairs ≡ value_at changes (length changes) key

abbrev pub pair_of : ℕ → Option ℕ → Option (ℕ × ℕ)
pair_of key None = None
pair_of key (Some value) = Some (key, value)

-- the next row is of the same key
abbrev pub goes_on : List (ℕ × ℕ) → ℕ → Bool
goes_on rows place = nat_lt (place + 1) (length rows) && ((slice_index_or rows (place + 1) (0, 0)).0 == (slice_index_or rows place (0, 0)).0)

-- the pair that the last row of a key leaves
abbrev pub pair_left : List Change → List (ℕ × ℕ) → ℕ → Option (ℕ × ℕ)
pair_left changes rows place = cond (goes_on rows place) None (pair_of (slice_index_or rows place (0, 0)).0 (after_of (bearer changes (slice_index_or rows place (0, 0)).1)))
