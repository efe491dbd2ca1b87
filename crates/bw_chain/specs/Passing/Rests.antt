-- A list that is compared with entries as they come: what is left of it once they were found at its front.
-- Entries below the bound are passed over.
use Rattle.std.proofs.Common.{◌≡◌, ◌≢◌, ℕ, List, [], ◌∷◌, ◌++◌, append_assoc, refl, ap, sym, ◌∙◌, subst, arith}
use Rattle.std.proofs.lemmas.Bool.Decides.{nat_tests}
use Rattle.bw_keys.specs.declared.range.Fence.{Fence}
use Rattle.bw_keys.specs.Ranges.{end_of}
use Rattle.bw_delta.specs.Entries.{from}

-- the list begins with the entries, and then comes the rest
abbrev pub Begins : {X : Type 0} → Fence → List (ℕ × X) → List (ℕ × X) → List (ℕ × X) → Type 0
Begins fence list es rest = list ≡ from (end_of fence) es ++ rest

-- the list doesn't begin so
abbrev pub BeginsOtherwise : {X : Type 0} → Fence → List (ℕ × X) → List (ℕ × X) → Type 0
BeginsOtherwise {X} fence list es = (rest : List (ℕ × X)) → list ≢ from (end_of fence) es ++ rest

module _ {X : Type 0} where
  pub from-append : (bound : ℕ) (es fs : List (ℕ × X)) → from bound (es ++ fs) ≡ from bound es ++ from bound fs
  from-append bound [] fs = refl
  from-append bound (e ∷ es) fs = grind (arith, nat_tests, from-append bound es fs)

  cancel : (es fs gs : List (ℕ × X)) → es ++ fs ≡ es ++ gs → fs ≡ gs
  cancel [] fs gs same = same
  cancel (e ∷ es) fs gs same = cancel es fs gs (cc)

  joined : (fence : Fence) (es fs rest : List (ℕ × X)) → from (end_of fence) (es ++ fs) ++ rest ≡ from (end_of fence) es ++ (from (end_of fence) fs ++ rest)
  joined fence es fs rest = ap (λ l. l ++ rest) (from-append (end_of fence) es fs) ∙ append_assoc (from (end_of fence) es) (from (end_of fence) fs) rest

  pub begins_joined : (fence later : Fence) (list middle rest es fs : List (ℕ × X)) → later ≡ fence → Begins fence list es middle → Begins later middle fs rest → Begins fence list (es ++ fs) rest
  begins_joined fence later list middle rest es fs same first second =
      first ∙ ap (λ l. from (end_of fence) es ++ l) (subst (λ f. Begins f middle fs rest) same second) ∙ sym (joined fence es fs rest)

  pub otherwise_more : (fence : Fence) (list es fs : List (ℕ × X)) → BeginsOtherwise fence list es → BeginsOtherwise fence list (es ++ fs)
  otherwise_more fence list es fs other rest same = other (from (end_of fence) fs ++ rest) (same ∙ joined fence es fs rest)

  pub otherwise_later : (fence later : Fence) (list middle es fs : List (ℕ × X)) → later ≡ fence → Begins fence list es middle → BeginsOtherwise later middle fs → BeginsOtherwise fence list (es ++ fs)
  otherwise_later fence later list middle es fs same first other rest whole =
      subst (λ f. BeginsOtherwise f middle fs) same other rest (cancel (from (end_of fence) es) middle (from (end_of fence) fs ++ rest) (sym first ∙ whole ∙ joined fence es fs rest))
