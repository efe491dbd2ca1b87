-- Which keys lie below a fence and in a range.
use Rattle.std.specs.Prelude.{ℕ, ◌<◌, ◌≤◌, ◌^◌, Bool, ◌&&◌, nat_lt, nat_le}
use Rattle.bw_keys.specs.declared.range.Fence.{Fence}
use Rattle.bw_keys.specs.declared.range.Fence.TheVariants.{Key, Top}
use Rattle.bw_keys.specs.declared.range.Range.{Range}

-- how many keys there are: every number below it is one
abbrev pub key_count : ℕ
key_count = 2 ^ 64

-- the first number that is past the fence: every key lies below Top
abbrev pub end_of : Fence → ℕ
end_of (Key high) = high
end_of Top = key_count

abbrev pub Holds : Range → ℕ → Type 0
Holds range key = (range.low ≤ key) × (key < end_of range.high)

-- the same as a test
abbrev pub is_within : ℕ → Fence → ℕ → Bool
is_within low high key = nat_le low key && nat_lt key (end_of high)
