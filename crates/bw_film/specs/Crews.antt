-- What each worker of a trace does.
use Rattle.std.specs.Prelude.{◌≡◌, ◌≢◌, ℕ, ◌+◌, ◌-◌, ◌<◌, ◌≤◌, ◌++◌, [], ◌∷◌, List, length, Option, Some, None, slice_index_or}
use Rattle.bw_procedures.specs.declared.reply.Reply.{Reply}
use Rattle.bw_texts.specs.declared.trace.row.Row.{Row}
use Rattle.bw_film.specs.declared.crew.AnsweredRow.{AnsweredRow}
use Rattle.bw_film.specs.declared.crew.NumberedRow.{NumberedRow}
use Rattle.bw_film.specs.declared.crew.Standing.{Standing}

-- none of the rows from a place on and before another one is the worker's
abbrev pub NoneOf : List Row → ℕ → ℕ → ℕ → Type 0
NoneOf rows worker low high = (i : ℕ) (d : Row) → low ≤ i → i < high → (slice_index_or rows i d).worker ≢ worker

-- the worker's row with this number
pub record IsRowAt (rows : List Row) (worker : ℕ) (it : NumberedRow) : Type 0 where
  pub from_one : 1 ≤ it.number
  pub within : it.number ≤ length rows
  pub row : (d : Row) → slice_index_or rows (it.number - 1) d ≡ it.row
  pub own : it.row.worker ≡ worker

pub record IsFirstAt (rows : List Row) (worker low high : ℕ) (it : NumberedRow) : Type 0 where
  pub at : IsRowAt rows worker it
  pub from : low < it.number
  pub before : it.number ≤ high
  pub first : NoneOf rows worker low (it.number - 1)

-- the worker's first row from a place on and before another one, if it has one there
abbrev pub IsFirst : List Row → ℕ → ℕ → ℕ → Option NumberedRow → Type 0
IsFirst rows worker low high None = NoneOf rows worker low high
IsFirst rows worker low high (Some it) = IsFirstAt rows worker low high it

pub record IsLastAnswer (rows : List Row) (replies : List Reply) (worker : ℕ) (it : AnsweredRow) : Type 0 where
  pub at : IsRowAt rows worker it.row
  pub answered : it.row.number ≤ length replies
  pub reply : (d : Reply) → slice_index_or replies (it.row.number - 1) d ≡ it.reply
  pub last : NoneOf rows worker it.row.number (length replies)

-- the last of the worker's rows that has a reply, and that reply
abbrev pub IsLastDone : List Row → List Reply → ℕ → Option AnsweredRow → Type 0
IsLastDone rows replies worker None = NoneOf rows worker 0 (length replies)
IsLastDone rows replies worker (Some it) = IsLastAnswer rows replies worker it

-- what a worker does where so many rows are begun, and those before them have these replies
pub record IsStanding (rows : List Row) (replies : List Reply) (begun own : ℕ) (it : Standing) : Type 0 where
  pub worker : it.worker ≡ own
  pub done : IsLastDone rows replies own it.done
  pub doing : IsFirst rows own (length replies) begun it.doing
  pub next : IsFirst rows own begun (length rows) it.next

-- what each of the workers does, in the order of their numbers
abbrev pub IsCrew : List Row → List Reply → ℕ → List Standing → Type 0
IsCrew rows replies begun crew = (i : ℕ) (d : Standing) → i < length crew → IsStanding rows replies begun i (slice_index_or crew i d)

-- one row more is begun
pub record BeginsRow (rows : List Row) (place : ℕ) (old new : List Standing) : Type 0 where
  pub many : length new ≡ length old
  pub crew : (replies : List Reply) → length replies ≡ place → IsCrew rows replies place old → IsCrew rows replies (place + 1) new

-- that row has a reply
pub record AnswersRow (rows : List Row) (place : ℕ) (reply : Reply) (old new : List Standing) : Type 0 where
  pub many : length new ≡ length old
  pub crew : (replies : List Reply) → length replies ≡ place → IsCrew rows replies (place + 1) old → IsCrew rows (replies ++ reply ∷ []) (place + 1) new
