-- What an answer says.
use Rattle.std.specs.Prelude.{◌≡◌, ◌≢◌, ℕ, Bool, true, false, Option, Some, None}
use Rattle.nifforan.specs.declared.change.CompareAndSet.{CompareAndSet}
use Rattle.nifforan.specs.declared.change.CompareAndSet.TheVariants as compared
use Rattle.nifforan_handle.specs.declared.answer.Found.{Found}
use Rattle.nifforan_handle.specs.declared.popped.Popped.{Popped}
use Rattle.nifforan_handle.specs.declared.answer.Read.{Read}
use Rattle.nifforan_handle.specs.declared.answer.Reply.{Reply}
use Rattle.nifforan_handle.specs.declared.optional.Optional.{Optional}
use Rattle.nifforan_handle.specs.declared.status.TheConstants.{OK}
use Rattle.nifforan_handle.specs.Statuses.{TellsFault}

abbrev number_if : Bool → ℕ → Option ℕ
number_if true n = Some n
number_if false n = None

-- the value, if there is one
abbrev pub value_of : Optional → Option ℕ
value_of it = number_if it.is_some it.value

-- the value that the key had before the call, if it had one
abbrev pub had : Reply → Option ℕ
had reply = number_if reply.found reply.value

-- the value that the key had, by the reply to a compare-and-set
abbrev pub before_compare : Option ℕ → CompareAndSet → Option ℕ
before_compare expected compared.Set = expected
before_compare expected (compared.Differs there) = there

-- there is a reply, by which the key had this before
abbrev pub RepliesWith : Option ℕ → Reply → Type 0
RepliesWith before reply = (reply.status ≡ OK) × (had reply ≡ before)

-- if the key had no value, the number in its place is 0
abbrev pub IsZeroWithout : Reply → Type 0
IsZeroWithout reply = reply.found ≡ false → reply.value ≡ 0

-- the care for the pages is reported beside a reply alone: OK, or what cut it short
abbrev pub IsCare : Reply → Type 0
IsCare reply = (reply.status ≢ OK → reply.care ≡ OK) × (reply.care ≢ OK → TellsFault reply.care)

-- the key to go on from, if a pair is left
abbrev pub next_key : Read → Option ℕ
next_key read = number_if read.has_next read.next

-- if no pair is left, the number in its key's place is 0
abbrev pub IsZeroAtEnd : Read → Type 0
IsZeroAtEnd read = read.has_next ≡ false → read.next ≡ 0

abbrev pair_if : Bool → ℕ → ℕ → Option (ℕ × ℕ)
pair_if true key value = Some (key, value)
pair_if false key value = None

-- the pair, if there is one
abbrev pub pair_of : Found → Option (ℕ × ℕ)
pair_of found = pair_if found.found found.key found.value

-- if there is no pair, the numbers in its place are 0
abbrev pub IsZeroWithoutPair : Found → Type 0
IsZeroWithoutPair found = found.found ≡ false → (found.key ≡ 0) × (found.value ≡ 0)

-- the pair that was taken out, if there was one
abbrev pub pair_popped : Popped → Option (ℕ × ℕ)
pair_popped it = pair_if it.found it.key it.value

-- if no pair was taken out, the numbers in its place are 0
abbrev pub IsZeroWithoutPopped : Popped → Type 0
IsZeroWithoutPopped it = it.found ≡ false → (it.key ≡ 0) × (it.value ≡ 0)
