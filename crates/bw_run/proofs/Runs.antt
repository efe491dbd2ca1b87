-- What the parts of a run say of the whole.
use Rattle.std.proofs.Common.{◌≡◌, ℕ, ◌<◌, List, ◌∷◌, ◌++◌, length, map, refl, ap, sym, subst, ◌∙◌, Result, Ok, Err}
use Rattle.std.specs.Prelude.{IfErr}
use Rattle.std.specs.Result.{IsErrAnd}
use Rattle.std.proofs.lemmas.List.{length-map}
use Rattle.bw_keys.specs.declared.config.Config.{Config}
use Rattle.bw_step.specs.declared.receipt.Receipt.{Receipt}
use Rattle.bw_law.specs.Tables.{TableValue, joined_pairs}
use Rattle.bw_table.specs.Views.{ArePairsOf}
use Rattle.bw_tree.specs.Trees.{IsTree}
use Rattle.bw_run.specs.declared.fault.RunFault.{RunFault}
use Rattle.bw_run.specs.declared.fault.RunFault.TheVariants.{Config as BadConfig, Workers, Memory, Audit}
use Rattle.bw_texts.specs.declared.trace.row.Row.{Row}
use Rattle.bw_run.specs.Faults.{EndsBadly, IsCrewFault, IsRunFault, IsVerdictOn}

pub same_length : {X Y Z : Type 0} → (f : X → Z) (g : Y → Z) (xs : List X) (ys : List Y) → map f xs ≡ map g ys → length xs ≡ length ys
same_length f g xs ys same = sym (length-map xs f) ∙ (ap length same ∙ length-map ys g)

-- a fault that is passed on is the same
pub passed_on : {T E : Type 0} (r : Result T E) (fault : E) (P : E → Type 0) → IsErrAnd r (λ e. e ≡ fault) → P fault → IfErr r P
passed_on (Ok x) fault P same holds = absurd same
passed_on (Err e) fault P same holds = subst P (sym same) holds

-- a fault of the crew is one of the run
pub crew_in_run : (config : Config) (workers readers : ℕ) (rows : List Row) (fault : RunFault)
    → IsCrewFault config workers fault → IsRunFault config workers readers rows fault
crew_in_run config workers readers rows (BadConfig bad) is = is
crew_in_run config workers readers rows Workers is = is
crew_in_run config workers readers rows fault is = absurd is

verdict_ends : (workers : ℕ) (trails : List (List Receipt)) (pairs : List (ℕ × ℕ)) (fault : RunFault) → length trails ≡ workers → IsVerdictOn trails pairs fault → EndsBadly workers fault
verdict_ends workers trails pairs Memory many verdict = tt
verdict_ends workers trails pairs (Audit worker receipt) many verdict = record { trails = trails; pairs = pairs; count = many; verdict = verdict }
verdict_ends workers trails pairs fault many verdict = absurd verdict

-- a verdict on the pairs of the table is one on some pairs
pub verdict_found : (workers : ℕ) (table : TableValue) (trails : List (List Receipt)) (fault : RunFault) → length trails ≡ workers → IsTree table
    → ((pairs : List (ℕ × ℕ)) → ArePairsOf table pairs → IsVerdictOn trails pairs fault) → EndsBadly workers fault
verdict_found workers table trails fault many tree verdict =
    let pairs = joined_pairs table.slots tree.leaves.row in
    verdict_ends workers trails pairs fault many (verdict pairs (record { row = tree.leaves.row; is_row = tree.leaves.is_row; joined = refl }))
