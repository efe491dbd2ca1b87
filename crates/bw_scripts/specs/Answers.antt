-- What the answer to a line says of the table before and after it.
use Rattle.std.specs.Prelude.{◌≡◌, ℕ, Option, Some, None}
use Rattle.bw_keys.specs.declared.config.Config.{Config}
use Rattle.bw_keys.specs.declared.page.Pid.{Pid}
use Rattle.bw_keys.specs.Limits.{first_bad_field}
use Rattle.bw_step.specs.declared.place.Place.{Place}
use Rattle.bw_step.specs.Proposals.{Proposal}
use Rattle.bw_law.specs.Effects.{TakesStep}
use Rattle.bw_law.specs.Laws.{IsLeafOf, IsTheMap}
use Rattle.bw_law.specs.Refusals.{refusal}
use Rattle.bw_law.specs.Tables.{TableValue, new_table}
use Rattle.bw_table.specs.Views.{view_at, look_at, root_place, IsSurveyOf}
use Rattle.bw_table.specs.Visits.{visit_at}
use Rattle.bw_scripts.specs.declared.answer.Answer.{Answer}
use Rattle.bw_scripts.specs.declared.answer.Answer.TheVariants as answers

-- the answer to a step or a question: a step is taken or refused by the law, and what is said of the
-- table is so; `check` never foretells another answer than `install` returns
abbrev pub IsReported : TableValue → Answer → TableValue → Type 0
IsReported old answers.Made new = ⊥
IsReported old (answers.BadConfig bad) new = ⊥
IsReported old answers.BadEntries new = ⊥
IsReported old (answers.Accepted receipt) new = (step : Proposal) × (refusal old step ≡ None) × TakesStep old step receipt new
IsReported old (answers.Refused reason) new = (new ≡ old) × ((step : Proposal) × (refusal old step ≡ Some reason))
IsReported old (answers.RefusalForetold reason receipt) new = ⊥
IsReported old (answers.OtherForetold reason) new = ⊥
IsReported old (answers.Changed reason) new = (new ≡ old) × ((step : Proposal) × (refusal old step ≡ Some reason))
IsReported old (answers.Page view) new = (new ≡ old) × ((page : Pid) × (view ≡ view_at old page))
IsReported old (answers.Look look) new = (new ≡ old) × ((page key : ℕ) × (look ≡ look_at old page key))
IsReported old (answers.Next next) new = (new ≡ old) × ((place : Place) × (key goal : ℕ) × (next ≡ visit_at old place key goal))
IsReported old (answers.Root place) new = (new ≡ old) × (place ≡ root_place old)
IsReported old (answers.Leaf page) new = (new ≡ old) × ((key : ℕ) × IsLeafOf old key page.0)
IsReported old (answers.Survey survey) new = (new ≡ old) × IsSurveyOf old survey
IsReported old (answers.Pairs pairs) new = (new ≡ old) × IsTheMap old pairs.items

-- the same of a table that is there
abbrev pub IsReportedOf : Option TableValue → Answer → Option TableValue → Type 0
IsReportedOf (Some old) answer (Some new) = IsReported old answer new
IsReportedOf (Some old) answer None = ⊥
IsReportedOf None answer new = ⊥

-- the answer to a line: a new table, none by a bad configuration, or what is said of the table
abbrev pub IsAnswer : Option TableValue → Answer → Option TableValue → Type 0
IsAnswer old answers.Made new = (config : Config) × (first_bad_field config ≡ None) × (new ≡ Some (new_table config))
IsAnswer old (answers.BadConfig bad) new = (new ≡ old) × ((config : Config) × (first_bad_field config ≡ Some bad.0))
IsAnswer old answers.BadEntries new = new ≡ old
IsAnswer old answer new = IsReportedOf old answer new

-- a line that asks for nothing leaves all as it is
abbrev pub IsAnswered : Option TableValue → Option Answer → Option TableValue → Type 0
IsAnswered old None new = new ≡ old
IsAnswered old (Some answer) new = IsAnswer old answer new
