-- The text of trails with one more of them.
use Rattle.std.proofs.Common.{◌≡◌, ◌<◌, ◌+◌, ◌∙◌, ◌++◌, ◌∷◌, [], ℕ, List, length, take, ap, sym, arith, append_assoc, slice_index_or}
use Rattle.std.proofs.lemmas.List.{append-nil, take_more, length-take-le}
use Rattle.bw_step.specs.declared.receipt.Receipt.{Receipt}
use Rattle.bw_texts.specs.WrittenHistories.{trail_text, trails_text}

one_more : (worker : ℕ) (trails : List (List Receipt)) (trail : List Receipt)
    → trails_text worker (trails ++ trail ∷ []) ≡ trails_text worker trails ++ trail_text (worker + length trails) trail
one_more worker [] trail =
    let e : worker + 0 ≡ worker = omega arith in
    append-nil (trail_text worker trail) ∙ ap (λ w. trail_text w trail) (sym e)
one_more worker (first ∷ trails) trail =
    let e : worker + 1 + length trails ≡ worker + length (first ∷ trails) = omega arith in
    ap (λ t. trail_text worker first ++ t) (one_more (worker + 1) trails trail ∙ ap (λ w. trails_text (worker + 1) trails ++ trail_text w trail) e)
    ∙ sym (append_assoc (trail_text worker first) (trails_text (worker + 1) trails) (trail_text (worker + length (first ∷ trails)) trail))

pub trail_added : (trails : List (List Receipt)) (worker : ℕ) (trail : List Receipt) → worker < length trails → trail ≡ slice_index_or trails worker []
    → trails_text 0 (take (worker + 1) trails) ≡ trails_text 0 (take worker trails) ++ trail_text worker trail
trail_added trails worker trail h is_trail =
    let count : 0 + length (take worker trails) ≡ worker = omega (arith, length-take-le worker trails (omega arith)) in
    ap (λ t. trails_text 0 t) (take_more trails worker [] h)
    ∙ (one_more 0 (take worker trails) (slice_index_or trails worker [])
    ∙ (ap (λ w. trails_text 0 (take worker trails) ++ trail_text w (slice_index_or trails worker [])) count
    ∙ ap (λ t. trails_text 0 (take worker trails) ++ trail_text worker t) (sym is_trail)))
