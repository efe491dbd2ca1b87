-- What a step proposes, whatever the allocator of its memory.
use Rattle.std.specs.Prelude.{ℕ, Bool, true, false}
use Rattle.bw_keys.specs.declared.wished.Wished.{Wished}
use Rattle.bw_keys.specs.declared.wished.Wished.TheVariants as wishes
use Rattle.bw_step.specs.declared.step.Step.{Step}
use Rattle.bw_step.specs.declared.step.Step.TheVariants as steps
use Rattle.bw_step.specs.declared.steps.insert.Insert.{Insert}
use Rattle.bw_step.specs.declared.steps.delete.Delete.{Delete}
use Rattle.bw_step.specs.declared.steps.modify.Modify.{Modify}
use Rattle.bw_step.specs.declared.steps.consolidate.Consolidate.{Consolidate}
use Rattle.bw_step.specs.declared.steps.split.Split.{Split}
use Rattle.bw_step.specs.declared.steps.term_add.TermAdd.{TermAdd}
use Rattle.bw_step.specs.declared.steps.grow.Grow.{Grow}
use Rattle.bw_step.specs.declared.steps.mark.Mark.{Mark}
use Rattle.bw_step.specs.declared.steps.merge.Merge.{Merge}
use Rattle.bw_step.specs.declared.steps.term_delete.TermDelete.{TermDelete}
use Rattle.bw_step.specs.Proposals.{Proposal, insert, delete, modify, consolidate, split, term_add, grow, mark, merge, term_delete}

abbrev pub insert_of : {A : Type 0} → Insert A → Proposal
insert_of step = insert step.page.0 step.seen.0 step.key step.value

abbrev pub delete_of : {A : Type 0} → Delete A → Proposal
delete_of step = delete step.page.0 step.seen.0 step.key

abbrev pub modify_of : {A : Type 0} → Modify A → Proposal
modify_of step = modify step.page.0 step.seen.0 step.key step.value

abbrev pub consolidate_of : {A : Type 0} → Consolidate A → Proposal
consolidate_of step = consolidate step.page.0 step.seen.0 step.base

abbrev pub split_of : {A : Type 0} → Split A → Proposal
split_of step = split step.page.0 step.seen.0 step.separator step.base

abbrev pub term_add_of : {A : Type 0} → TermAdd A → Proposal
term_add_of step = term_add step.parent.0 step.parent_seen.0 step.child.0 step.child_seen.0

abbrev pub grow_of : {A : Type 0} → Grow A → Proposal
grow_of step = grow step.child.0 step.seen.0 step.base

abbrev pub mark_of : {A : Type 0} → Mark A → Proposal
mark_of step = mark step.page.0 step.seen.0 step.parent.0

abbrev pub merge_of : {A : Type 0} → Merge A → Proposal
merge_of step = merge step.left.0 step.left_seen.0 step.page.0 step.page_seen.0

abbrev pub term_delete_of : {A : Type 0} → TermDelete A → Proposal
term_delete_of step = term_delete step.parent.0 step.parent_seen.0 step.child.0 step.child_seen.0

abbrev pub proposal_of : {A : Type 0} → Step A → Proposal
proposal_of (steps.Insert step) = insert_of step
proposal_of (steps.Delete step) = delete_of step
proposal_of (steps.Modify step) = modify_of step
proposal_of (steps.Consolidate step) = consolidate_of step
proposal_of (steps.Split step) = split_of step
proposal_of (steps.TermAdd step) = term_add_of step
proposal_of (steps.Grow step) = grow_of step
proposal_of (steps.Mark step) = mark_of step
proposal_of (steps.Merge step) = merge_of step
proposal_of (steps.TermDelete step) = term_delete_of step

-- the step by which a wish comes true for a key of the page that is there or isn't
abbrev pub step_of_wish : ℕ → ℕ → ℕ → Wished → Bool → Proposal
step_of_wish page seen key (wishes.Put value) there = insert page seen key value
step_of_wish page seen key (wishes.Set value) true = modify page seen key value
step_of_wish page seen key (wishes.Set value) false = insert page seen key value
step_of_wish page seen key wishes.Delete there = delete page seen key
