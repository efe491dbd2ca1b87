-- Faults that stand beside replies.
use Rattle.std.specs.Prelude.{ℕ, Bool, true, false, List, Option, Some, None, count_by}
use Rattle.bw_procedures.specs.declared.fault.Fault.{Fault}
use Rattle.bw_procedures.specs.declared.fault.Fault.TheVariants as faults
use Rattle.bw_procedures.specs.declared.reply.Reply.{Reply}
use Rattle.bw_procedures.specs.declared.reply.Reply.TheVariants as replies

-- what ended helping or tending, or the removal of a range, if a fault did
abbrev pub fault_beside : Reply → Option Fault
fault_beside (replies.Put done) = done.fault
fault_beside (replies.Set done) = done.fault
fault_beside (replies.Delete done) = done.fault
fault_beside (replies.Get found) = None
fault_beside (replies.Clear cleared) = cleared.fault

abbrev pub is_same_fault : Fault → Fault → Bool
is_same_fault faults.Contended faults.Contended = true
is_same_fault faults.NoMemory faults.NoMemory = true
is_same_fault faults.TableFull faults.TableFull = true
is_same_fault faults.TooTall faults.TooTall = true
is_same_fault faults.Worn faults.Worn = true
is_same_fault fault other = false

abbrev pub is_same_as : Fault → Option Fault → Bool
is_same_as fault (Some other) = is_same_fault fault other
is_same_as fault None = false

abbrev pub is_beside : Fault → Reply → Bool
is_beside fault reply = is_same_as fault (fault_beside reply)

-- how many of the replies stand beside the fault
abbrev pub count_beside : Fault → List Reply → ℕ
count_beside fault replies = count_by (is_beside fault) replies
