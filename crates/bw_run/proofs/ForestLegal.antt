-- Each tree's history, one after the other.
use Rattle.std.proofs.Common.{◌≡◌, ℕ, zero, suc, ◌+◌, ◌<◌, List, [], Some, length, refl, ap, sym, subst, ⊎_elim, arith}
use Rattle.std.specs.Prelude.{slice_get, slice_index_or}
use mathlib.Core.Logic.{◌⊎◌, inl, inr}
use Rattle.bw_step.specs.declared.receipt.Receipt.{Receipt}
use Rattle.bw_law.specs.Tables.{TableValue, joined_pairs}
use Rattle.bw_table.specs.Views.{ArePairsOf}
use Rattle.bw_tree.specs.Trees.{IsTree}
use Rattle.bw_run.specs.declared.fault.RunFault.{RunFault}
use Rattle.bw_run.specs.declared.fault.RunFault.TheVariants.{Memory, Audit, TreeAudit}
use Rattle.bw_run.specs.Faults.{IsVerdictOn}
use Rattle.bw_run.specs.ForestFaults.{IsBadAt, IsTreeVerdictOn, NamesFirstBad}
use Rattle.bw_run.specs.ForestRuns.{IsLegalAt}

at_or_before : (at n : ℕ) → at < n + 1 → (at ≡ n) ⊎ (at < n)
at_or_before zero zero less = inl refl
at_or_before zero (suc n) less = inr (omega arith)
at_or_before (suc at) zero less = absurd (omega (arith, less))
at_or_before (suc at) (suc n) less = ⊎_elim (λ same. inl (ap suc same)) (λ before. inr (omega (arith, before)))
    (at_or_before at n (omega (arith, less)))

pub legal_more : (tables : List TableValue) (trails : List (List (List Receipt))) (n : ℕ) (table : TableValue)
    (own : List (List Receipt))
    → slice_get tables n ≡ Some table → own ≡ slice_index_or trails n [] → IsLegalAt table own
    → ((at : ℕ) → at < n → (t : TableValue) → slice_get tables at ≡ Some t → IsLegalAt t (slice_index_or trails at []))
    → (at : ℕ) → at < n + 1 → (t : TableValue) → slice_get tables at ≡ Some t → IsLegalAt t (slice_index_or trails at [])
legal_more tables trails n table own is own_is legal before at less t there =
    ⊎_elim
    (λ same.
    let one : slice_get tables n ≡ Some t = subst (λ (k : ℕ). slice_get tables k ≡ Some t) same there in
    let equal : table ≡ t = cc (one, is) in
    subst (λ (k : ℕ). IsLegalAt t (slice_index_or trails k [])) (sym same)
    (subst (λ o. IsLegalAt t o) own_is (subst (λ x. IsLegalAt x own) equal legal)))
    (λ earlier. before at earlier t there)
    (at_or_before at n less)

-- the first tree whose history isn't legal
pub first_bad : (tables : List TableValue) (trails : List (List (List Receipt))) (number : ℕ) (table : TableValue)
    (own : List (List Receipt)) (fault : RunFault)
    → slice_get tables number ≡ Some table → own ≡ slice_index_or trails number [] → number < length trails
    → ((at : ℕ) → at < number → (t : TableValue) → slice_get tables at ≡ Some t → IsLegalAt t (slice_index_or trails at []))
    → IsTreeVerdictOn number table own fault → NamesFirstBad tables trails fault
first_bad tables trails number table own Memory there is inside before verdict = tt
first_bad tables trails number table own (TreeAudit tree worker receipt) there is inside before verdict =
    subst (λ (k : ℕ). NamesFirstBad tables trails (TreeAudit k worker receipt)) (sym verdict.0)
    (record {
      within = inside;
      before = before;
      table = table;
      there = there;
      bad = subst (λ o. IsBadAt table o worker receipt) is verdict.1;
    })
first_bad tables trails number table own fault there is inside before verdict = absurd verdict

module _ (number : ℕ) (table : TableValue) (trails : List (List Receipt)) (tree : IsTree table) where
  some_pairs : (pairs : List (ℕ × ℕ)) × ArePairsOf table pairs
  some_pairs = (
    joined_pairs table.slots tree.leaves.row,
    record { row = tree.leaves.row; is_row = tree.leaves.is_row; joined = refl },
  )

  -- what the verdict says of all lists of the table's pairs, it says of some
  pub bad_at : (worker receipt : ℕ)
      → ((pairs : List (ℕ × ℕ)) → ArePairsOf table pairs → IsVerdictOn trails pairs (Audit worker receipt))
      → IsTreeVerdictOn number table trails (TreeAudit number worker receipt)
  bad_at worker receipt verdict =
      (refl, record { pairs = some_pairs.0; of_table = some_pairs.1; verdict = verdict some_pairs.0 some_pairs.1 })

  -- another fault is want of memory
  pub no_verdict : (fault : RunFault) → ((worker receipt : ℕ) → fault ≡ Audit worker receipt → ⊥)
      → ((pairs : List (ℕ × ℕ)) → ArePairsOf table pairs → IsVerdictOn trails pairs fault)
      → IsTreeVerdictOn number table trails fault
  no_verdict Memory other verdict = tt
  no_verdict (Audit worker receipt) other verdict = absurd (other worker receipt refl)
  no_verdict fault other verdict = absurd (verdict some_pairs.0 some_pairs.1)
