-- Steps of a quarter each, as many as comparisons at the ends of three quarters say.
use Rattle.std.proofs.Common.{◌≡◌, ℕ, zero, suc, ◌<◌, ◌≤◌, ◌+◌, ◌-◌, ◌*◌, min, refl, arith}
use Rattle.std.proofs.Math.Nat.{mul-le-mul_right}

pub at_most_three : (first second third quarter : ℕ) → first ≤ 1 → second ≤ 1 → third ≤ 1 → (first + second + third) * quarter ≤ 3 * quarter
at_most_three first second third quarter one two three = mul-le-mul_right quarter (omega (arith, one, two, three))

-- a list of which place entries were passed, and in which count lie below the key
module _ (first second third quarter place count : ℕ)
    (at_first : first ≡ min (count - (place + quarter - 1)) 1)
    (at_second : second ≡ min (count - (place + 2 * quarter - 1)) 1)
    (at_third : third ≡ min (count - (place + 3 * quarter - 1)) 1)
    (some : 0 < quarter) where
  passed_by : (steps : ℕ) → steps ≡ first + second + third → place ≤ count → place + steps * quarter ≤ count
  passed_by zero is from = omega (arith, from)
  passed_by (suc zero) is from = omega (arith, is, at_first, at_second, at_third, some)
  passed_by (suc (suc zero)) is from = omega (arith, is, at_first, at_second, at_third, some)
  passed_by (suc (suc (suc zero))) is from = omega (arith, is, at_first, at_second, at_third, some)
  passed_by (suc (suc (suc (suc n)))) is from = absurd (omega (arith, is, at_first, at_second, at_third))

  left_by : (steps : ℕ) → steps ≡ first + second + third → steps * quarter < 3 * quarter → count < place + steps * quarter + quarter
  left_by zero is less = omega (arith, is, at_first, some)
  left_by (suc zero) is less = omega (arith, is, at_first, at_second, at_third, some)
  left_by (suc (suc zero)) is less = omega (arith, is, at_first, at_second, at_third, some)
  left_by (suc (suc (suc zero))) is less = absurd (omega (arith, less))
  left_by (suc (suc (suc (suc n)))) is less = absurd (omega (arith, is, at_first, at_second, at_third))

  pub passed : place ≤ count → place + (first + second + third) * quarter ≤ count
  passed = passed_by (first + second + third) refl

  pub not_passed : (first + second + third) * quarter < 3 * quarter → count < place + (first + second + third) * quarter + quarter
  not_passed = left_by (first + second + third) refl
