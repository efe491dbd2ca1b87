-- Numbers and words as they stand in the fields of a row.
use Rattle.std.specs.Prelude.{ℕ, ◌+◌, ◌-◌, ◌*◌, ◌&&◌, ◌^◌, Bool, cond, List, [], ◌∷◌, length, Option, Some, None, nat_lt, nat_le}
use Rattle.std.specs.List.{list_all}
use Rattle.std.specs.Bool.{nat_eq}
use Rattle.std.specs.Cmp.Lexicographic.{pointwise}

-- '0' to '9'
abbrev pub is_digit : ℕ → Bool
is_digit b = nat_le 48 b && nat_le b 57

-- what digits go on to write, after those that wrote a number
abbrev pub value_after : ℕ → List ℕ → ℕ
value_after n [] = n
value_after n (b ∷ bs) = value_after (n * 10 + (b - 48)) bs

-- the digits write a number below 2^64
abbrev pub fits : ℕ → List ℕ → Bool
fits n text = list_all is_digit text && nat_lt (value_after n text) (2 ^ 64)

-- one to twenty decimal digits, leading zeros among them, that write a number below 2^64
abbrev pub number_of : List ℕ → Option ℕ
number_of text = cond (nat_lt 0 (length text) && nat_le (length text) 20 && fits 0 text) (Some (value_after 0 text)) None

abbrev pub is_text : List ℕ → List ℕ → Bool
is_text a b = pointwise nat_eq a b

abbrev pub number_below : ℕ → Option ℕ → Option ℕ
number_below bound None = None
number_below bound (Some n) = cond (nat_lt n bound) (Some n) None

-- a worker's number, below the number of workers
abbrev pub worker_of : ℕ → List ℕ → Option ℕ
worker_of workers text = number_below workers (number_of text)
