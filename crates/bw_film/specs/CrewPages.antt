-- The text of the table of what the workers do.
use Rattle.std.specs.Prelude.{ℕ, ◌++◌, List, [], ◌∷◌, Bool, true, false, codes, decimal, flat_map, is_some, Option, None, Some}
use Rattle.bw_procedures.specs.Texts.{clear_text, delete_text, get_text, put_text, set_text}
use Rattle.bw_procedures.specs.declared.fault.Fault.{Fault}
use Rattle.bw_procedures.specs.declared.fault.Fault.TheVariants as faults
use Rattle.bw_procedures.specs.declared.reply.Reply.{Reply}
use Rattle.bw_procedures.specs.declared.reply.Reply.TheVariants as replies
use Rattle.bw_texts.specs.Written.{trace_text}
use Rattle.bw_film.specs.declared.crew.AnsweredRow.{AnsweredRow}
use Rattle.bw_film.specs.declared.crew.NumberedRow.{NumberedRow}
use Rattle.bw_film.specs.declared.crew.Standing.{Standing}

-- the beginning of a worker's line: its number, and whether it does a row now
abbrev pub worker_cell : ℕ → Bool → List ℕ
worker_cell worker true = codes "<tr class=\"acts\"><th scope=\"row\">" ++ decimal worker ++ codes " acts</th>"
worker_cell worker false = codes "<tr><th scope=\"row\">" ++ decimal worker ++ codes "</th>"

-- a row's number, and the row as a trace has it
abbrev pub numbered_text : NumberedRow → List ℕ
numbered_text it = decimal it.number ++ codes ": <code>" ++ trace_text (it.row ∷ []) ++ codes "</code>"

-- a reply without the fault that stands beside it
abbrev pub bare_text : Reply → List ℕ
bare_text (replies.Put done) = put_text done.reply
bare_text (replies.Set done) = set_text done.reply
bare_text (replies.Delete done) = delete_text done.reply
bare_text (replies.Get found) = get_text found
bare_text (replies.Clear cleared) = clear_text cleared.removed

abbrev pub fault_of : Reply → Option Fault
fault_of (replies.Put done) = done.fault
fault_of (replies.Set done) = done.fault
fault_of (replies.Delete done) = done.fault
fault_of (replies.Get found) = None
fault_of (replies.Clear cleared) = cleared.fault

abbrev pub fault_words : Fault → List ℕ
fault_words faults.Contended = codes "contended"
fault_words faults.NoMemory = codes "no memory"
fault_words faults.TableFull = codes "table full"
fault_words faults.TooTall = codes "too tall"
fault_words faults.Worn = codes "worn"

abbrev pub fault_text : Option Fault → List ℕ
fault_text None = []
fault_text (Some fault) = codes " (" ++ fault_words fault ++ codes ")"

abbrev pub answer_text : Reply → List ℕ
answer_text reply = codes "<br>answered <code>" ++ bare_text reply ++ fault_text (fault_of reply) ++ codes "</code>"

abbrev pub row_cell : Option NumberedRow → List ℕ
row_cell None = codes "<td></td>"
row_cell (Some it) = codes "<td>" ++ numbered_text it ++ codes "</td>"

abbrev pub done_cell : Option AnsweredRow → List ℕ
done_cell None = codes "<td></td>"
done_cell (Some it) = codes "<td>" ++ numbered_text it.row ++ answer_text it.reply ++ codes "</td>"

-- what a worker does: whether it acts, the last row that it did and the reply, the row that it does, and its next one
abbrev pub standing_text : Standing → List ℕ
standing_text it = worker_cell it.worker (is_some it.doing) ++ done_cell it.done ++ row_cell it.doing ++ row_cell it.next ++ codes "</tr>\n"

-- below the head a line for each worker, where there is one
abbrev pub crew_with : List ℕ → List Standing → List ℕ
crew_with head [] = []
crew_with head (it ∷ more) = head ++ flat_map standing_text (it ∷ more) ++ codes "</tbody>\n</table>\n"
