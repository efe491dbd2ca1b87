-- Lines played one after the other.
use Rattle.std.proofs.Common.{◌≡◌, List, [], ◌∷◌, ◌++◌, Option, Some, None, refl, ap, sym, ◌∙◌, subst}
use Rattle.std.specs.Prelude.{is_none, if◌then◌else◌, IfSome}
use Rattle.bw_step.specs.declared.refused.Refused.{Refused}
use Rattle.bw_step.specs.Proposals.{Proposal}
use Rattle.bw_law.specs.Effects.{after}
use Rattle.bw_law.specs.Refusals.{refusal}
use Rattle.bw_law.specs.Runs.{next_table, run}
use Rattle.bw_law.specs.Tables.{TableValue, new_table}
use Rattle.bw_scripts.specs.declared.answer.Answer.{Answer}
use Rattle.bw_scripts.specs.declared.answer.Answer.TheVariants as answers
use Rattle.bw_scripts.specs.Answers.{IsReported, IsReportedOf, IsAnswer, IsAnswered}
use Rattle.bw_scripts.specs.Played.{IsPlayed}

run_one_more : (table : TableValue) (steps : List Proposal) (step : Proposal) → run table (steps ++ step ∷ []) ≡ next_table (run table steps) step
run_one_more table [] step = refl
run_one_more table (first ∷ steps) step = run_one_more (next_table table first) steps step

taken : (table : TableValue) (step : Proposal) → refusal table step ≡ None → next_table table step ≡ after table step
taken table step accepted = ap (λ (reason : Option Refused). if is_none reason then after table step else table) accepted

stays : (old new : TableValue) → new ≡ old → IsPlayed old → IsPlayed new
stays old new same played = subst (λ (table : TableValue). IsPlayed table) (sym same) played

reported : (old new : TableValue) (answer : Answer) → IsReported old answer new → IsPlayed old → IsPlayed new
reported old new answers.Made t played = absurd t
reported old new (answers.BadConfig bad) t played = absurd t
reported old new answers.BadEntries t played = absurd t
reported old new (answers.RefusalForetold reason receipt) t played = absurd t
reported old new (answers.OtherForetold reason) t played = absurd t
reported old new (answers.Accepted receipt) t played = (
  played.0,
  played.1 ++ t.0 ∷ [],
  played.2,
  run_one_more (new_table played.0) played.1 t.0 ∙ ap (λ (table : TableValue). next_table table t.0) played.3 ∙ taken old t.0 t.1 ∙ sym t.2.leads,
)
reported old new answer t played = stays old new t.0 played

reported_of : (old new : Option TableValue) (answer : Answer) → IsReportedOf old answer new → IfSome old IsPlayed → IfSome new IsPlayed
reported_of (Some old) (Some new) answer t played = reported old new answer t played
reported_of (Some old) None answer t played = absurd t
reported_of None new answer t played = absurd t

same : (old new : Option TableValue) → new ≡ old → IfSome old IsPlayed → IfSome new IsPlayed
same old new is played = subst (λ (table : Option TableValue). IfSome table IsPlayed) (sym is) played

answered : (old new : Option TableValue) (answer : Answer) → IsAnswer old answer new → IfSome old IsPlayed → IfSome new IsPlayed
answered old new answers.Made t played = subst (λ (table : Option TableValue). IfSome table IsPlayed) (sym t.2) (t.0, [], t.1, refl)
answered old new (answers.BadConfig bad) t played = same old new t.0 played
answered old new answers.BadEntries t played = same old new t played
answered old new answer t played = reported_of old new answer t played

-- what a line is answered leaves a table that steps have made of a new one
pub stays_played : (old new : Option TableValue) (answer : Option Answer) → IsAnswered old answer new → IfSome old IsPlayed → IfSome new IsPlayed
stays_played old new None t played = same old new t played
stays_played old new (Some answer) t played = answered old new answer t played
