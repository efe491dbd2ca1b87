-- What the workers of a run answer.
use Rattle.std.specs.Prelude.{◌≡◌, ℕ, ◌<◌, Bool, List, [], length, map, slice_index_or}
use Rattle.std.specs.Option.{ForNone, ForSome}
use Rattle.bw_step.specs.declared.receipt.Receipt.{Receipt}
use Rattle.bw_step.specs.Tellings.{reported_in}
use Rattle.bw_procedures.specs.declared.act.Act.{Act}
use Rattle.bw_procedures.specs.declared.reply.Reply.{Reply}
use Rattle.bw_procedures.specs.Reported.{GoWith}
use Rattle.bw_texts.specs.declared.trace.row.Row.{Row}
use Rattle.bw_run.specs.declared.answers.Answers.{Answers}
use Rattle.bw_run.specs.Rows.{AreFull, acts_of}
use Rattle.bw_run.specs.Stops.{MayStop}

-- each worker's replies
abbrev pub columns_of : List Answers → List (List Reply)
columns_of answers = map (λ each. each.replies.items) answers

-- a worker that stopped did so at one of its acts, and as it may
abbrev pub StopsIn : Bool → List Act → Answers → Type 0
StopsIn may_close acts answers = ForSome answers.stop (λ stop. (length answers.replies.items < length acts) × MayStop may_close stop)

-- The trail reports what goes with the acts and their replies: all of them, or, where the worker stopped, those before the act that it gave up.
pub record AreAnswersTo (may_close : Bool) (acts : List Act) (answers : Answers) (trail : List Receipt) : Type 0 where
  pub reported : GoWith acts answers.replies.items (reported_in trail)
  pub all : ForNone answers.stop (length answers.replies.items ≡ length acts)
  pub stops : StopsIn may_close acts answers

-- each worker's trail reports what goes with its rows and its replies, of which there are as many
pub record AreAnswered (rows : List Row) (columns : List (List Reply)) (trails : List (List Receipt)) : Type 0 where
  pub full : AreFull rows columns
  pub reported : (worker : ℕ) → worker < length columns → GoWith (acts_of worker rows) (slice_index_or columns worker []) (reported_in (slice_index_or trails worker []))
