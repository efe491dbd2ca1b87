-- Numbers of entries, counted up to the greatest number.
use Rattle.std.proofs.Common.{◌≡◌, ℕ, ◌+◌, ◌-◌, ◌^◌, min, List, ◌++◌, length, length-append, arith}

pub counted_twice : {Y : Type 0} → (start middle end : ℕ) (es fs : List Y) → middle ≡ min (start + length es) (2 ^ 64 - 1) → end ≡ min (middle + length fs) (2 ^ 64 - 1) → end ≡ min (start + length (es ++ fs)) (2 ^ 64 - 1)
counted_twice start middle end es fs first second = omega (arith, first, second, length-append es fs)
