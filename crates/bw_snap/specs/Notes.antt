-- What the published copies absorb.
use Rattle.std.specs.Prelude.{List, [], ◌∷◌, ◌++◌, Option, Some, None}
use Rattle.bw_keys.specs.declared.page.Pid.{Pid}
use Rattle.bw_keys.specs.declared.wished.Wished.TheVariants.{Put}
use Rattle.bw_step.specs.declared.receipt.Receipt.{Receipt}
use Rattle.bw_step.specs.declared.receipt.Receipt.TheVariants.{Inserted, Looked}
use Rattle.bw_step.specs.Proposals.{Proposal}
use Rattle.bw_step.specs.ProposalView.{proposal_of}
use Rattle.bw_law.specs.Runs.{next_table, run}
use Rattle.bw_law.specs.Tables.{TableValue}
use Rattle.bw_table.specs.Actions.{steps_for}
use Rattle.bw_step.specs.declared.action.Action.{Action}
use Rattle.bw_step.specs.declared.action.Action.TheVariants.{Record}
use Rattle.bw_snap.specs.Fronts.{Announced}
use Rattle.bw_snap.specs.declared.note.Note.{Note}
use Rattle.bw_snap.specs.declared.note.Note.TheVariants as notes

-- the table after an action on the page that it found
abbrev pub table_with : TableValue → Pid → Action → TableValue
table_with table page action = run table (steps_for table page.0 action)

-- a published table with its list, after a note: a step or an action
-- changes the table, and a mark names the list
abbrev pub noted : TableValue × Announced → Note → TableValue × Announced
noted shown (notes.Step step) = (next_table shown.0 (proposal_of step), shown.1)
noted shown (notes.Action page action) = (table_with shown.0 page action, shown.1)
noted shown (notes.Mark front) = (shown.0, front)

-- the steps that a note stands for on the table
abbrev pub noted_steps : TableValue → Note → List Proposal
noted_steps table (notes.Step step) = proposal_of step ∷ []
noted_steps table (notes.Action page action) = steps_for table page.0 action
noted_steps table (notes.Mark front) = []

-- the steps that the notes stand for, one note after the other, from the table on
abbrev pub steps_of : TableValue → List Note → List Proposal
steps_of table [] = []
steps_of table (note ∷ rest) =
    let steps = noted_steps table note in steps ++ steps_of (run table steps) rest

-- the action as the copies carry it out on its page: none for a look,
-- and that of a put for a record that inserted
abbrev pub held_note : Pid → Receipt → Action → Option (Pid × Action)
held_note page (Looked at key found) action = None
held_note page (Inserted number at value) (Record key wished) = Some (page, Record key (Put value))
held_note page receipt action = Some (page, action)

-- the note of an action, if one is held back
abbrev pub held_notes : Option (Pid × Action) → List Note
held_notes None = []
held_notes (Some it) = notes.Action it.0 it.1 ∷ []
