-- Where an edit is noted among falling ones.
use Rattle.std.proofs.Common.{◌≡◌, ℕ, zero, suc, ◌+◌, ◌<◌, ◌≤◌, true, List, [], ◌∷◌, length, take, drop, get_or, refl, arith}
use Rattle.std.specs.Prelude.{Some, nat_le, slice_get}
use Rattle.std.specs.List.{insert}
use Rattle.std.specs.List.Sorted.{IsPartitionedBy}
use Rattle.std.proofs.lemmas.Bool.Decides.{nat_tests}
use Rattle.bw_delta.specs.Entries.{from}
use Rattle.bw_chain.specs.Passing.Edited.{falls, noted}
use Rattle.bw_chain.specs.Passing.Heads.{BeginsWith}
use Rattle.bw_chain.proofs.Passing.Heads.{begins-take}

module _ {X : Type 0} where
  pub length-noted : (key : ℕ) (x : X) (es : List (ℕ × X)) → length (noted key x es) ≤ length es + 1
  length-noted key x [] = omega arith
  length-noted key x (e ∷ es) = grind (arith, nat_tests, length-noted key x es)

  -- all keys lie below the end
  key_below_end : (low end : ℕ) (es : List (ℕ × X)) (i : ℕ) (d : ℕ × X) → falls low end es ≡ true → i < length es → (get_or es i d).0 < end
  key_below_end low end [] i d f inside = absurd (omega arith)
  key_below_end low end (e ∷ es) zero d f inside = grind (arith, nat_tests)
  key_below_end low end (e ∷ es) (suc i) d f inside =
      let rest : falls low e.0 es ≡ true = grind (arith, nat_tests) in
      let first : e.0 < end = grind (arith, nat_tests) in
      omega (arith, key_below_end low e.0 es i d rest (omega arith))

  pub falls-IsPartitionedBy : (low end bound : ℕ) (es : List (ℕ × X)) → falls low end es ≡ true → IsPartitionedBy (λ e. nat_le bound e.0) es
  falls-IsPartitionedBy low end bound [] f i j d le inside passes = absurd (omega arith)
  falls-IsPartitionedBy low end bound (e ∷ es) f zero zero d le inside passes = passes
  falls-IsPartitionedBy low end bound (e ∷ es) f zero (suc j) d le inside passes =
      let rest : falls low e.0 es ≡ true = grind (arith, nat_tests) in
      let later : (get_or es j d).0 < e.0 = key_below_end low e.0 es j d rest (omega arith) in
      grind (arith, nat_tests)
  falls-IsPartitionedBy low end bound (e ∷ es) f (suc i) zero d le inside passes = absurd (omega arith)
  falls-IsPartitionedBy low end bound (e ∷ es) f (suc i) (suc j) d le inside passes =
      let rest : falls low e.0 es ≡ true = grind (arith, nat_tests) in
      falls-IsPartitionedBy low e.0 bound es rest i j d (omega arith) (omega arith) passes

  -- after an edit of a smaller key all keys are smaller
  pub falls-rest : (low end key i : ℕ) (d : ℕ × X) (es : List (ℕ × X)) → falls low end es ≡ true → i < length es → (get_or es i d).0 < key → falls low key (drop i es) ≡ true
  falls-rest low end key i d [] f inside less = absurd (omega arith)
  falls-rest low end key zero d (e ∷ es) f inside less = grind (arith, nat_tests)
  falls-rest low end key (suc i) d (e ∷ es) f inside less =
      let rest : falls low e.0 es ≡ true = grind (arith, nat_tests) in
      falls-rest low e.0 key i d es rest (omega arith) less

  noted-first : (key : ℕ) (x : X) (es : List (ℕ × X)) → falls 0 key es ≡ true → noted key x es ≡ (key, x) ∷ es
  noted-first key x [] f = refl
  noted-first key x (e ∷ es) f = grind (arith, nat_tests)

  -- a key's newer edit stays
  pub noted-there : (low end key i : ℕ) (x : X) (d : ℕ × X) (es : List (ℕ × X)) → falls low end es ≡ true → i < length es → (get_or es i d).0 ≡ key → noted key x es ≡ es
  noted-there low end key i x d [] f inside same = absurd (omega arith)
  noted-there low end key zero x d (e ∷ es) f inside same = grind (arith, nat_tests)
  noted-there low end key (suc i) x d (e ∷ es) f inside same =
      let rest : falls low e.0 es ≡ true = grind (arith, nat_tests) in
      let later : (get_or es i d).0 < e.0 = key_below_end low e.0 es i d rest (omega arith) in
      let first : key < e.0 = omega (arith, later, same) in
      grind (arith, nat_tests, noted-there low e.0 key i x d es rest)

  -- a new one is put in
  pub noted-behind : (low end key i : ℕ) (x : X) (d : ℕ × X) (es : List (ℕ × X)) → falls low end es ≡ true → i < length es → key < (get_or es i d).0 → falls 0 key (drop (suc i) es) ≡ true → noted key x es ≡ insert es (suc i) (key, x)
  noted-behind low end key i x d [] f inside less rest = absurd (omega arith)
  noted-behind low end key zero x d (e ∷ es) f inside less rest = grind (arith, nat_tests, noted-first key x es rest)
  noted-behind low end key (suc i) x d (e ∷ es) f inside less rest =
      let falling : falls low e.0 es ≡ true = grind (arith, nat_tests) in
      let later : (get_or es i d).0 < e.0 = key_below_end low e.0 es i d falling (omega arith) in
      let first : key < e.0 = omega (arith, later, less) in
      grind (arith, nat_tests, noted-behind low e.0 key i x d es falling (omega arith) less rest)

  pub noted-in_front : (key : ℕ) (x : X) (es : List (ℕ × X)) → falls 0 key es ≡ true → noted key x es ≡ insert es 0 (key, x)
  noted-in_front key x es f = noted-first key x es f

  -- where the greatest key lies below a bound, each does
  pub falls-first : (low end bound : ℕ) (e : ℕ × X) (es : List (ℕ × X)) → falls low end es ≡ true → slice_get es 0 ≡ Some e → e.0 < bound → falls low bound es ≡ true
  falls-first low end bound e [] f first less = refl
  falls-first low end bound e (d ∷ es) f first less =
      let same : d ≡ e = cc in
      let lower : d.0 < bound = rw same less in
      grind (arith, nat_tests)

  pub none-from : (low end bound : ℕ) (es : List (ℕ × X)) → end ≤ bound → falls low end es ≡ true → from bound es ≡ []
  none-from low end bound [] le f = refl
  none-from low end bound (e ∷ es) le f = grind (arith, nat_tests, none-from low e.0 bound es)

  -- those from a bound on come first
  pub from-begins : (low end bound : ℕ) (es : List (ℕ × X)) → falls low end es ≡ true → BeginsWith es (from bound es)
  from-begins low end bound [] f = refl
  from-begins low end bound (e ∷ es) f = grind (arith, nat_tests, from-begins low e.0 bound es, none-from low e.0 bound es)

  -- the edits from an end on, which were counted, are still in front
  pub front-kept : (end end' count : ℕ) (noted front edits : List (ℕ × X)) → front ≡ noted → end' ≡ end → from end' front ≡ take count front → count ≤ length front → BeginsWith edits (from end' noted) → take count edits ≡ from end noted
  front-kept end end' count noted front edits same ends counted few begins =
      begins-take count noted (from end noted) edits (rw (same, ends) at counted) (rw same at few) (rw ends at begins)
