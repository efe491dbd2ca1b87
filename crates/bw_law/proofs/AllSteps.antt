-- All ten steps.
use Rattle.std.proofs.Common.{◌≡◌, suc, cond, List, [], ◌∷◌, Option, Some, None, is_none, refl, arith}
use Rattle.bw_step.specs.declared.refused.Refused.{Refused}
use Rattle.bw_step.specs.declared.survey.Book.{Book}
use Rattle.bw_law.specs.Tables.{TableValue, Lawful, Booked, number_of, book_with}
use Rattle.bw_law.specs.Refusals.{refusal}
use Rattle.bw_law.specs.Effects.{after, receipt_of}
use Rattle.bw_law.specs.Runs.{next_table, run}
use Rattle.bw_step.specs.Proposals.{Proposal, insert, delete, modify, consolidate, split, term_add, grow, mark, merge, term_delete}
use Rattle.bw_step.specs.Tellings.{Telling, change, look, shape, telling_of}
use Rattle.bw_law.specs.Laws.{StepLaw}
use Rattle.bw_law.proofs.Accepted.{insert_accepted, found_accepted, consolidate_accepted, split_accepted, term_add_accepted, grow_accepted, mark_accepted, merge_accepted, term_delete_accepted}
use Rattle.bw_law.proofs.InsertStep.{insert_keeps}
use Rattle.bw_law.proofs.DeleteStep.{delete_keeps}
use Rattle.bw_law.proofs.ModifyStep.{modify_keeps}
use Rattle.bw_law.proofs.ConsolidateStep.{consolidate_keeps}
use Rattle.bw_law.proofs.SplitStep.{split_keeps}
use Rattle.bw_law.proofs.TermAddStep.{term_add_keeps}
use Rattle.bw_law.proofs.GrowStep.{grow_keeps}
use Rattle.bw_law.proofs.MarkStep.{mark_keeps}
use Rattle.bw_law.proofs.MergeStep.{merge_keeps}
use Rattle.bw_law.proofs.TermDeleteStep.{term_delete_keeps}

-- each kind of step keeps the law, the book and the map
pub step_law : StepLaw
step_law table (insert page seen key value) law booked none = insert_keeps table page seen key value law (insert_accepted table page seen key value none) booked
step_law table (delete page seen key) law booked none = delete_keeps table page seen key law (found_accepted table page seen key none) booked
step_law table (modify page seen key value) law booked none = modify_keeps table page seen key value law (found_accepted table page seen key none) booked
step_law table (consolidate page seen base) law booked none = consolidate_keeps table page seen base law (consolidate_accepted table page seen base none) booked
step_law table (split page seen separator base) law booked none = split_keeps table page seen separator base law (split_accepted table page seen separator base none) booked
step_law table (term_add parent parent_seen child child_seen) law booked none = term_add_keeps table parent parent_seen child child_seen law (term_add_accepted table parent parent_seen child child_seen none) booked
step_law table (grow child seen base) law booked none = grow_keeps table child seen base law (grow_accepted table child seen base none) booked
step_law table (mark page seen parent) law booked none = mark_keeps table page seen parent law (mark_accepted table page seen parent none) booked
step_law table (merge left left_seen page page_seen) law booked none = merge_keeps table left left_seen page page_seen law (merge_accepted table left left_seen page page_seen none) booked
step_law table (term_delete parent parent_seen child child_seen) law booked none = term_delete_keeps table parent parent_seen child child_seen law (term_delete_accepted table parent parent_seen child child_seen none) booked

-- a change of the map has the next number, and is counted
abbrev pub IsNext : Book → Telling → Type 0
IsNext book (change number key before after) = (number ≡ suc (number_of book)) × (number_of (book_with book (change number key before after)) ≡ number)
IsNext book (look at key found) = ⊥
IsNext book shape = Unit {0}

-- each step is the next change, or changes the shape alone
pub step_is_next : (table : TableValue) (step : Proposal) → IsNext table.book (telling_of (receipt_of table step))
step_is_next table (insert page seen key value) = (refl, omega arith)
step_is_next table (delete page seen key) = (refl, omega arith)
step_is_next table (modify page seen key value) = (refl, omega arith)
step_is_next table step = tt

-- a proposed step keeps the law and the book, accepted or refused
next_keeps : (table : TableValue) (step : Proposal) → Lawful table → Booked table → Lawful (next_table table step) × Booked (next_table table step)
next_keeps table step law booked = by_answer (refusal table step) (λ _. refusal table step)
  where
    by_answer : (answer : Option Refused) → refusal table step ≡ answer → Lawful (cond (is_none answer) (after table step) table) × Booked (cond (is_none answer) (after table step) table)
    by_answer None none = let kept = step_law table step law booked none in (kept.lawful, kept.booked)
    by_answer (Some reason) refused = (law, booked)

pub run_keeps : (table : TableValue) (steps : List Proposal) → Lawful table → Booked table → Lawful (run table steps) × Booked (run table steps)
run_keeps table [] law booked = (law, booked)
run_keeps table (step ∷ steps) law booked = let next = next_keeps table step law booked in run_keeps (next_table table step) steps next.0 next.1
