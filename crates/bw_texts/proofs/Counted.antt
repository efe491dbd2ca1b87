-- Each row of a history adds one receipt or one pair.
use Rattle.std.proofs.Common.{◌≡◌, ◌+◌, ◌∙◌, ◌++◌, ◌∷◌, ◌==◌, [], ℕ, zero, suc, List, length, false, refl, ap, arith, slice_index_or, length-append}
use Rattle.std.specs.Prelude.{sum_by}
use Rattle.std.proofs.lemmas.Bool.Decides.{nat_tests}
use Rattle.std.proofs.lemmas.List.{append-nil}
use Rattle.std.proofs.lemmas.List.Sums.{sum_by-cons}
use Rattle.bw_step.specs.declared.receipt.Receipt.{Receipt}
use Rattle.bw_texts.specs.declared.history.line.Line.{Line}
use Rattle.bw_texts.specs.declared.history.line.Line.TheVariants.{Reply, Pair}
use Rattle.bw_texts.specs.Histories.{AddsLine, AddsReceipt, added, row_count}

-- lists that are the same at each place have the same sum
same_sum : (old new : List (List Receipt)) → length new ≡ length old → ((worker : ℕ) → slice_index_or new worker [] ≡ slice_index_or old worker []) → sum_by length new ≡ sum_by length old
same_sum [] [] count each = refl
same_sum [] (y ∷ ys) count each = absurd (omega arith)
same_sum (x ∷ xs) [] count each = absurd (omega arith)
same_sum (x ∷ xs) (y ∷ ys) count each =
    let first : length y ≡ length x = ap length (each 0) in
    let rest = same_sum xs ys (omega arith) (λ worker. each (suc worker)) in
    omega (arith, sum_by-cons length x xs, sum_by-cons length y ys)

-- nothing is added for a worker that isn't the one named
others : (named worker : ℕ) (receipt : Receipt) → (named == worker) ≡ false → (trail : List Receipt) → trail ++ added named receipt worker ≡ trail
others named worker receipt other trail = rw other (append-nil trail)

next : (named worker : ℕ) (receipt : Receipt) → added (suc named) receipt (suc worker) ≡ added named receipt worker
next named worker receipt =
    let same : (suc named == suc worker) ≡ (named == worker) = grind (arith, nat_tests) in
    rw same refl

receipt_counted : (old new : List (List Receipt)) (named : ℕ) (receipt : Receipt) → AddsReceipt old new named receipt → sum_by length new ≡ sum_by length old + 1
receipt_counted old [] named receipt adds = let count = adds.count in absurd (omega arith)
receipt_counted [] (y ∷ ys) zero receipt adds =
    let count = adds.count in
    let first : length y ≡ 1 = ap length (adds.each 0) in
    let none = same_sum [] ys (omega arith) (λ worker. let other : (0 == suc worker) ≡ false = grind (arith, nat_tests) in adds.each (suc worker) ∙ others 0 (suc worker) receipt other []) in
    omega (arith, sum_by-cons length y ys)
receipt_counted (x ∷ xs) (y ∷ ys) zero receipt adds =
    let count = adds.count in
    let first : length y ≡ length x + 1 = ap length (adds.each 0) ∙ length-append x (receipt ∷ []) in
    let rest = same_sum xs ys (omega arith) (λ worker. let other : (0 == suc worker) ≡ false = grind (arith, nat_tests) in adds.each (suc worker) ∙ others 0 (suc worker) receipt other (slice_index_or xs worker [])) in
    omega (arith, sum_by-cons length x xs, sum_by-cons length y ys)
receipt_counted [] (y ∷ ys) (suc named) receipt adds =
    let count = adds.count in
    let other : (suc named == 0) ≡ false = grind (arith, nat_tests) in
    let first : length y ≡ 0 = ap length (adds.each 0 ∙ others (suc named) 0 receipt other []) in
    let rest = receipt_counted [] ys named receipt (record { count = omega arith; each = λ worker. adds.each (suc worker) ∙ next named worker receipt }) in
    omega (arith, sum_by-cons length y ys)
receipt_counted (x ∷ xs) (y ∷ ys) (suc named) receipt adds =
    let count = adds.count in
    let other : (suc named == 0) ≡ false = grind (arith, nat_tests) in
    let first : length y ≡ length x = ap length (adds.each 0 ∙ others (suc named) 0 receipt other x) in
    let rest = receipt_counted xs ys named receipt (record { count = omega arith; each = λ worker. adds.each (suc worker) ∙ ap (λ t. slice_index_or xs worker [] ++ t) (next named worker receipt) }) in
    omega (arith, sum_by-cons length x xs, sum_by-cons length y ys)

pub line_counted : (trails trails2 : List (List Receipt)) (pairs pairs2 : List (ℕ × ℕ)) (line : Line)
    → AddsLine trails trails2 pairs pairs2 line → row_count trails2 pairs2 ≡ row_count trails pairs + 1
line_counted trails trails2 pairs pairs2 (Reply worker receipt) adds =
    let more = receipt_counted trails trails2 worker receipt adds.0 in
    let same = ap length adds.1 in
    omega arith
line_counted trails trails2 pairs pairs2 (Pair key value) adds =
    let same = ap (sum_by length) adds.0 in
    let more = ap length adds.1 ∙ length-append pairs ((key, value) ∷ []) in
    omega arith
