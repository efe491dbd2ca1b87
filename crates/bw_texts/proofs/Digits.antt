-- The number that digits write, digit by digit.
use Rattle.std.proofs.Common.{◌≡◌, ◌≤◌, ◌<◌, ◌+◌, ◌-◌, ◌*◌, ◌^◌, ◌&&◌, ◌==◌, ◌∙◌, ap, sym, ℕ, suc, List, [], ◌∷◌, length, drop, Some, None, true, false, cond, arith, refl, nat_lt, nat_le, slice_index_or}
use Rattle.std.specs.List.{list_all}
use Rattle.std.proofs.lemmas.Bool.{and_right}
use Rattle.std.proofs.lemmas.Bool.Decides.{nat_tests}
use Rattle.std.proofs.lemmas.List.{drop_all}
use Rattle.std.proofs.Math.Seq.{drop-cons}
use Rattle.bw_texts.specs.Numbers.{is_digit, number_of, value_after, fits}

-- more digits write no smaller number
pub value_grows : (n : ℕ) (text : List ℕ) → n ≤ value_after n text
value_grows n [] = omega arith
value_grows n (b ∷ bs) =
    let h = value_grows (n * 10 + (b - 48)) bs in
    omega arith

large : (n b : ℕ) (bs : List ℕ) → 2 ^ 64 ≤ n * 10 + (b - 48) → fits n (b ∷ bs) ≡ false
large n b bs h =
    let grown = value_grows (n * 10 + (b - 48)) bs in
    let over : 2 ^ 64 ≤ value_after (n * 10 + (b - 48)) bs = omega arith in
    let test : nat_lt (value_after (n * 10 + (b - 48)) bs) (2 ^ 64) ≡ false = grind (arith, nat_tests) in
    and_right (list_all is_digit (b ∷ bs)) (nat_lt (value_after (n * 10 + (b - 48)) bs) (2 ^ 64)) test

no_number : (text : List ℕ) → fits 0 text ≡ false → number_of text ≡ None
no_number text e =
    let test = and_right (nat_lt 0 (length text) && nat_le (length text) 20) (fits 0 text) e in
    ap (λ b. cond b (Some (value_after 0 text)) None) test

-- a digit that goes past 2^64 ends it
pub past_the_end : (text : List ℕ) (i n : ℕ) → i < length text → 2 ^ 64 ≤ n * 10 + (slice_index_or text i 0 - 48)
    → fits n (drop i text) ≡ fits 0 text → number_of text ≡ None
past_the_end text i n h over same =
    no_number text (sym same ∙ (ap (λ t. fits n t) (drop-cons text i 0 h) ∙ large n (slice_index_or text i 0) (drop (suc i) text) over))

-- all digits are read
pub all_read : (text : List ℕ) (i n : ℕ) → (length text == 0) ≡ false → length text ≤ 20 → length text ≤ i → n < 2 ^ 64
    → fits n (drop i text) ≡ fits 0 text → value_after n (drop i text) ≡ value_after 0 text → Some n ≡ number_of text
all_read text i n some few h below same value =
    let none : drop i text ≡ [] = drop_all i text h in
    let fit : fits 0 text ≡ true = sym same ∙ (ap (λ t. fits n t) none ∙ grind (arith, nat_tests)) in
    let whole : value_after 0 text ≡ n = sym value ∙ ap (λ t. value_after n t) none in
    let a : nat_lt 0 (length text) ≡ true = grind (arith, nat_tests) in
    let b : nat_le (length text) 20 ≡ true = grind (arith, nat_tests) in
    rw (a, b, fit, whole) refl
