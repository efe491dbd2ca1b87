-- Pairs that rise, joined one list after the other.
use Rattle.std.proofs.Common.{◌≡◌, ◌≢◌, ℕ, ◌+◌, ◌<◌, ◌≤◌, true, List, [], ◌∷◌, ◌++◌, Some, None, refl, ap, ◌∙◌, arith}
use Rattle.std.specs.Prelude.{is_some}
use Rattle.std.proofs.lemmas.Bool.Decides.{nat_tests}
use Rattle.bw_delta.specs.Entries.{at, rises}
use Rattle.bw_delta.proofs.Rises.{there-from, there-below}

at_head : (e : ℕ × ℕ) (es : List (ℕ × ℕ)) → at e.0 (e ∷ es) ≡ Some e.1
at_head e es = grind (arith, nat_tests)

at_tail : (e : ℕ × ℕ) (es : List (ℕ × ℕ)) (key : ℕ) → e.0 ≢ key → at key (e ∷ es) ≡ at key es
at_tail e es key other = grind (arith, nat_tests, other)

tail_rises : (low end : ℕ) (e : ℕ × ℕ) (es : List (ℕ × ℕ)) → rises low end (e ∷ es) ≡ true
    → (low ≤ e.0) × (e.0 < end) × (rises (e.0 + 1) end es ≡ true)
tail_rises low end e es h = (grind (arith, nat_tests, h), grind (arith, nat_tests, h), grind (arith, nat_tests, h))

cons_rises : (low end : ℕ) (e : ℕ × ℕ) (es : List (ℕ × ℕ)) → low ≤ e.0 → e.0 < end → rises (e.0 + 1) end es ≡ true
    → rises low end (e ∷ es) ≡ true
cons_rises low end e es from below rest = grind (arith, nat_tests, from, below, rest)

found_later : (end : ℕ) (e : ℕ × ℕ) (es : List (ℕ × ℕ)) (key value : ℕ) → rises (e.0 + 1) end es ≡ true → at key es ≡ Some value
    → at key (e ∷ es) ≡ Some value
found_later end e es key value rest found =
    let from = there-from end (e.0 + 1) key es (ap is_some found) rest in
    at_tail e es key (omega (arith, from)) ∙ found

-- pairs that rise do so in any range that has all their keys
pub rises_within : (a b low end : ℕ) (es : List (ℕ × ℕ)) → rises a b es ≡ true
    → ((key value : ℕ) → at key es ≡ Some value → (low ≤ key) × (key < end)) → rises low end es ≡ true
rises_within a b low end [] h within = refl
rises_within a b low end (e ∷ es) h within =
    let here = within e.0 e.1 (at_head e es) in
    let parts = tail_rises a b e es h in
    cons_rises low end e es here.0 here.1 (rises_within (e.0 + 1) b (e.0 + 1) end es parts.2
    (λ key value found.
    (there-from b (e.0 + 1) key es (ap is_some found) parts.2, (within key value (found_later b e es key value parts.2 found)).1)))

-- and two lists do, one after the other, if each key of the one is below each of the other
pub rises_join : (low end : ℕ) (es fs : List (ℕ × ℕ)) → rises low end es ≡ true → rises low end fs ≡ true
    → ((k v j w : ℕ) → at k es ≡ Some v → at j fs ≡ Some w → k < j) → rises low end (es ++ fs) ≡ true
rises_join low end [] fs left right apart = right
rises_join low end (e ∷ es) fs left right apart =
    let parts = tail_rises low end e es left in
    let later = rises_within low end (e.0 + 1) end fs right
    (λ j w found. (
      let less = apart e.0 e.1 j w (at_head e es) found in omega (arith, less),
      there-below end low j fs (ap is_some found) right,
    )) in
    cons_rises low end e (es ++ fs) parts.0 parts.1 (rises_join (e.0 + 1) end es fs parts.2 later
    (λ k v j w one other. apart k v j w (found_later end e es k v parts.2 one) other))

-- what stands at a key of the one list, or of the other
pub at_left : (key value : ℕ) (es fs : List (ℕ × ℕ)) → at key es ≡ Some value → at key (es ++ fs) ≡ Some value
at_left key value [] fs found = absurd (cc (found))
at_left key value (e ∷ es) fs found = grind (arith, nat_tests, found, at_left key value es fs)

pub at_right : (key : ℕ) (es fs : List (ℕ × ℕ)) → at key es ≡ None → at key (es ++ fs) ≡ at key fs
at_right key [] fs none = refl
at_right key (e ∷ es) fs none = grind (arith, nat_tests, none, at_right key es fs)
