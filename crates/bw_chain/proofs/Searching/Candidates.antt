-- What one candidate that was tried says of the entries.
use Rattle.std.proofs.Common.{◌≡◌, ℕ, ◌+◌, ◌<◌, ◌≤◌, List, [], ap, sym, arith, ◌∙◌}
use Rattle.std.specs.Prelude.{Some, None}
use Rattle.bw_keys.specs.Ranges.{key_count}
use Rattle.bw_delta.specs.Entries.{at, below, from, first_entry, last_entry, first_from, last_below}
use Rattle.bw_chain.specs.Ascends.{IsAscending}
use Rattle.bw_chain.specs.Searching.Gaps.{HasGap}
use Rattle.bw_chain.proofs.Firsts.{first_from-at, from_past}
use Rattle.bw_chain.proofs.Lasts.{last_below-at, below_zero}
use Rattle.bw_chain.proofs.Searching.Gaps.{HasGap-with_key, HasGap-from_key, from-gap, below-gap}

module _ {X : Type 0} (es : List (ℕ × X)) where
  -- the candidate's key has an entry: it is the first
  pub first_from-held : (fence low key : ℕ) (x : X) → IsAscending es → from fence es ≡ from low es → low ≤ key → HasGap low key es → at key es ≡ Some x → first_from fence es ≡ Some (key, x)
  first_from-held fence low key x ascending same le gap here =
      ap first_entry (same ∙ from-gap low key es le gap) ∙ first_from-at 0 key_count key x es ascending here

  -- it has none: the search goes on after it
  pub from-tried : (fence low key : ℕ) → from fence es ≡ from low es → low ≤ key → HasGap low key es → at key es ≡ None → from fence es ≡ from (key + 1) es
  from-tried fence low key same le gap none = same ∙ from-gap low (key + 1) es (omega arith) (HasGap-with_key low key es gap none)

  -- there is no candidate
  pub first_from-none_left : (fence low end : ℕ) → IsAscending es → from fence es ≡ from low es → low ≤ end → HasGap low end es → key_count ≤ end → first_from fence es ≡ None
  first_from-none_left fence low end ascending same le gap all =
      ap first_entry (same ∙ from-gap low end es le gap ∙ from_past 0 key_count end es ascending all)

  pub last_below-held : (fence end key : ℕ) (x : X) → IsAscending es → below fence es ≡ below end es → key < end → HasGap (key + 1) end es → at key es ≡ Some x → last_below fence es ≡ Some (key, x)
  last_below-held fence end key x ascending same inside gap here =
      ap last_entry (same ∙ sym (below-gap (key + 1) end es (omega arith) gap)) ∙ last_below-at 0 key_count key x es ascending here

  pub below-tried : (fence end key : ℕ) → below fence es ≡ below end es → key < end → HasGap (key + 1) end es → at key es ≡ None → below fence es ≡ below key es
  below-tried fence end key same inside gap none = same ∙ sym (below-gap key end es (omega arith) (HasGap-from_key key end es gap none))

  pub last_below-none_left : (fence end low : ℕ) → below fence es ≡ below end es → low ≤ end → HasGap low end es → low ≡ 0 → last_below fence es ≡ None
  last_below-none_left fence end low same le gap zero_low =
      let none : below low es ≡ [] = rw zero_low (below_zero es) in
      ap last_entry (same ∙ sym (below-gap low end es le gap) ∙ none)
