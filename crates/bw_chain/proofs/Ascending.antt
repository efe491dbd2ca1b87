-- Rising entries stay so in a wider range, and those of a sound chain rise among the keys.
use Rattle.std.proofs.Common.{◌≡◌, ℕ, ◌+◌, ◌≤◌, true, List, [], ◌∷◌, refl, arith}
use Rattle.std.proofs.lemmas.Bool.Decides.{nat_tests}
use Rattle.bw_keys.specs.Ranges.{key_count, end_of}
use Rattle.bw_delta.specs.Entries.{rises}
use Rattle.bw_delta.specs.Records.{Records}
use Rattle.bw_delta.specs.Fence.{fences}
use Rattle.bw_delta.specs.Pairs.{pairs, routes}
use Rattle.bw_delta.specs.Sound.{IsWellBuilt}
use Rattle.bw_delta.proofs.Rises.{rises-lower}
use Rattle.bw_delta.proofs.Stands.{end_among_keys, pairs_rise, routes_rise}
use Rattle.bw_chain.specs.Ascends.{IsAscending}

pub rises-higher : {X : Type 0} → (low end past : ℕ) (es : List (ℕ × X)) → end ≤ past → rises low end es ≡ true → rises low past es ≡ true
rises-higher low end past [] le h = refl
rises-higher low end past (e ∷ es) le h = grind (arith, nat_tests, rises-higher (e.0 + 1) end past es le)

pub ascend_from_rise : {X : Type 0} → (low end : ℕ) (es : List (ℕ × X)) → end ≤ key_count → rises low end es ≡ true → IsAscending es
ascend_from_rise low end es le h = rises-lower key_count 0 low es (omega arith) (rises-higher low end key_count es le h)

pub pairs_ascend : (chain : Records) → IsWellBuilt chain → IsAscending (pairs chain)
pairs_ascend chain built = ascend_from_rise (fences chain).low (end_of (fences chain).high) (pairs chain) (end_among_keys chain built) (pairs_rise chain built)

pub routes_ascend : (chain : Records) → IsWellBuilt chain → IsAscending (routes chain)
routes_ascend chain built = ascend_from_rise (fences chain).low (end_of (fences chain).high) (routes chain) (end_among_keys chain built) (routes_rise chain built)
