-- The pairs of a leaf from a key on.
use Rattle.std.proofs.Common.{◌≡◌, ℕ, ◌-◌, ◌<◌, ◌≤◌, ◌^◌, ◌+◌, true, List, [], ◌∷◌, ◌++◌, take, Option, Some, refl, ap, subst, ◌∙◌, arith}
use Rattle.std.proofs.lemmas.Bool.Decides.{nat_tests}
use Rattle.std.proofs.lemmas.List.{take_all}
use Rattle.bw_keys.specs.declared.range.Fence.{Fence}
use Rattle.bw_keys.specs.declared.range.Fence.TheVariants.{Top}
use Rattle.bw_keys.specs.Ranges.{end_of, key_count}
use Rattle.bw_delta.specs.Entries.{rises, below, from}
use Rattle.bw_delta.specs.Fence.{fences}
use Rattle.bw_delta.specs.Pairs.{pairs}
use Rattle.bw_delta.specs.Records.{Records}
use Rattle.bw_delta.specs.Sound.{IsSound}
use Rattle.bw_delta.proofs.Rises.{rises-from}
use Rattle.bw_delta.proofs.Stands.{pairs_rise}
use Rattle.bw_chain.specs.Leaves.{AppendsLeaf, ReadsLeaf}

pub is_slice : (chain : Records) (key end : ℕ) (list : List (ℕ × ℕ)) → IsSound chain → end ≡ end_of (fences chain).high → list ≡ from key (pairs chain) → rises key end list ≡ true
is_slice chain key end list sound same is =
    rw (same, is) (rises-from (end_of (fences chain).high) (fences chain).low key (pairs chain) (pairs_rise chain sound.built))

-- no key lies past the end of all keys
none_past : (low end bound : ℕ) (es : List (ℕ × ℕ)) → end ≤ bound → rises low end es ≡ true → below bound es ≡ es
none_past low end bound [] le rise = refl
none_past low end bound (e ∷ es) le rise = grind (arith, nat_tests, none_past (e.0 + 1) end bound es)

-- the list has all pairs of a leaf that ends here, from the key on
pub record HasLeaf (shows : ℕ → ℕ → List (ℕ × ℕ) → Type 0) (key end : ℕ) (list : List (ℕ × ℕ)) : Type 0 where
  pub shown : shows key end list
  pub rise : rises key end list ≡ true
  pub above : key < end

-- as it does if it was empty and took the whole leaf
pub has_leaf : (shows : ℕ → ℕ → List (ℕ × ℕ) → Type 0) (key past : ℕ) (end : Fence) (answer : Option Fence) (old new : List (ℕ × ℕ))
    → past ≡ end_of end → end_of end ≤ key_count → answer ≡ Some end → old ≡ [] → ReadsLeaf shows key Top (2 ^ 64 - 1) answer old new
    → HasLeaf shows key past new
has_leaf shows key past end answer old new same within is empty read =
    let it : AppendsLeaf shows key key_count (2 ^ 64 - 1) (end_of end) old new =
    subst (λ a. ReadsLeaf shows key Top (2 ^ 64 - 1) a old new) is read in
    let all : new ≡ it.pairs =
    it.appended
    ∙ (ap (λ l. l ++ take (2 ^ 64 - 1) (below key_count it.pairs)) empty
    ∙ (take_all (2 ^ 64 - 1) (below key_count it.pairs) (omega (arith, it.counted))
    ∙ none_past key (end_of end) key_count it.pairs within it.rise)) in
    let own : HasLeaf shows key (end_of end) new = record { shown = rw all it.shown; rise = rw all it.rise; above = it.above } in
    rw same own
