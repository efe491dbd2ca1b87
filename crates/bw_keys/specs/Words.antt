-- Which fence a word tells of.
use Rattle.std.specs.Prelude.{◌≡◌, ℕ, zero, suc, ◌==◌, if◌then◌else◌, refl}
use Rattle.std.proofs.Common.{arith}
use Rattle.bw_keys.specs.declared.range.Fence.{Fence}
use Rattle.bw_keys.specs.declared.range.Fence.TheVariants.{Key, Top}

-- 0 is the top, as no range ends before key 0
abbrev pub fence_in : ℕ → Fence
fence_in word = if word == 0 then Top else Key word

abbrev pub word_for : Fence → ℕ
word_for (Key high) = high
word_for Top = 0

-- the fence in a word gives the word back
pub word_for-fence_in : (word : ℕ) → word_for (fence_in word) ≡ word
word_for-fence_in zero = refl
word_for-fence_in (suc n) = grind arith
