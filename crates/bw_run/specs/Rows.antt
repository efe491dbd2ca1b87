-- A trace as its workers see it.
use Rattle.std.specs.Prelude.{◌≡◌, ℕ, ◌-◌, ◌<◌, ◌≤◌, ◌==◌, if◌then◌else◌, List, [], ◌∷◌, length, map, slice_index_or}
use Rattle.bw_procedures.specs.declared.reply.Reply.{Reply}
use Rattle.bw_procedures.specs.declared.act.Act.{Act}
use Rattle.bw_procedures.specs.declared.act.Act.TheVariants as acts
use Rattle.bw_texts.specs.declared.trace.row.Row.{Row}

-- the acts of a worker's rows, in their order
abbrev pub acts_of : ℕ → List Row → List Act
acts_of worker [] = []
acts_of worker (row ∷ rows) = if row.worker == worker then row.act ∷ acts_of worker rows else acts_of worker rows

-- a worker's own replies: those that stand at the places of its rows, in their order
abbrev pub replies_to : ℕ → List Row → List Reply → List Reply
replies_to worker [] replies = []
replies_to worker (row ∷ rows) [] = []
replies_to worker (row ∷ rows) (reply ∷ replies) = if row.worker == worker then reply ∷ replies_to worker rows replies else replies_to worker rows replies

-- the row with this number, counted from 1, is the worker's
pub record IsRowOf (rows : List Row) (worker number : ℕ) : Type 0 where
  pub from_one : 0 < number
  pub within : number ≤ length rows
  pub own : (d : Row) → (slice_index_or rows (number - 1) d).worker ≡ worker

-- the lists have each worker's acts
abbrev pub ArePlanned : List (List Act) → List Row → Type 0
ArePlanned plan rows = (worker : ℕ) → worker < length plan → slice_index_or plan worker [] ≡ acts_of worker rows

-- each worker has as many replies as rows
abbrev pub AreFull : List Row → List (List Reply) → Type 0
AreFull rows columns = (worker : ℕ) → worker < length columns → length (slice_index_or columns worker []) ≡ length (acts_of worker rows)

-- the replies stand in the order of the rows, and each worker's own are those of its list
pub record IsMerged (rows : List Row) (columns : List (List Reply)) (merged : List Reply) : Type 0 where
  pub count : length merged ≡ length rows
  pub own : (worker : ℕ) → worker < length columns → replies_to worker rows merged ≡ slice_index_or columns worker []

-- the key that an act names, and where it clears a range the least one of that
abbrev pub key_of : Act → ℕ
key_of (acts.Put key value) = key
key_of (acts.Set key value) = key
key_of (acts.Get key) = key
key_of (acts.Delete key) = key
key_of (acts.Clear low high) = low

-- the key that each row names
abbrev pub keys_of : List Row → List ℕ
keys_of rows = map (λ row. key_of row.act) rows
