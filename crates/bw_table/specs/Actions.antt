-- What a table does in one hold of its lock, and the steps of the law that it stands for.
use Rattle.std.specs.Prelude.{◌≡◌, ◌≢◌, ◌⊎◌, ℕ, ◌+◌, ◌≤◌, ◌^◌, Bool, true, false, IsSome, List, [], ◌∷◌, Option, Some, None, Result, IfOk, IfErr, OnErr, map, unwrap_or, option_to_list}
use Rattle.bw_chain.specs.Pages.Halves.{listed_middle_key}
use Rattle.bw_keys.specs.declared.wished.Wished.{Wished}
use Rattle.bw_chain.specs.InPlaces.{inserts, is_flat}
use Rattle.bw_delta.specs.Entries.{at}
use Rattle.bw_delta.specs.Sound.{page_for}
use Rattle.bw_keys.specs.declared.page.Pid.{Pid}
use Rattle.bw_keys.specs.Reasons.{first_reason}
use Rattle.bw_step.specs.Proposals.{Proposal, term_add}
use Rattle.bw_step.specs.declared.receipt.Kind.TheVariants as kinds
use Rattle.bw_step.specs.declared.receipt.Receipt.{Receipt}
use Rattle.bw_step.specs.declared.receipt.Receipt.TheVariants.{Looked, Shaped}
use Rattle.bw_step.specs.declared.fault.Denied.TheVariants as denials
use Rattle.bw_step.specs.declared.refused.Refused.{Refused}
use Rattle.bw_step.specs.declared.view.Stage.TheVariants.{Unposted}
use Rattle.bw_step.specs.Stages.{is_in_row}
use Rattle.bw_law.specs.Effects.{after}
use Rattle.bw_law.specs.Laws.{IsLeafOf}
use Rattle.bw_law.specs.Refusals.{refusal}
use Rattle.bw_law.specs.Rows.{Spans}
use Rattle.bw_law.specs.Runs.{TakesInTurn}
use Rattle.bw_law.specs.Slots.{chain_in, pairs_in}
use Rattle.bw_law.specs.Tables.{TableValue, slot_at, number_of, outlines}
use Rattle.bw_table.specs.Answers.{IsDenialFor}
use Rattle.bw_table.specs.InPlaces.{MayPost, MaySplitAtOnce, step_for, consolidating, halving, half_reasons}
use Rattle.bw_table.specs.Rests.{MeetsTodo}
use Rattle.bw_step.specs.declared.action.Action.{Action}
use Rattle.bw_step.specs.declared.action.Action.TheVariants as actions
use Rattle.bw_step.specs.declared.action.Performed.{Performed}
use Rattle.bw_step.specs.declared.action.Reshaping.{Reshaping}
use Rattle.bw_step.specs.declared.action.Reshaping.TheVariants as reshapings
use Rattle.bw_step.specs.declared.action.Unperformed.{Unperformed}
use Rattle.bw_step.specs.declared.action.Unperformed.TheVariants.{Denied, StepByStep}

-- the consolidation of the page as it is in the table
abbrev pub consolidation_of : TableValue → ℕ → Proposal
consolidation_of table page = consolidating table page (slot_at table page).version

-- a step, and after it the consolidation of a page; nothing where there is no step
abbrev pub consolidated_behind : TableValue → ℕ → Option Proposal → List Proposal
consolidated_behind table page None = []
consolidated_behind table page (Some step) = step ∷ consolidation_of (after table step) page ∷ []

-- what the page has at the key
abbrev pub had_at : TableValue → ℕ → ℕ → Option ℕ
had_at table page key = at key (pairs_in (slot_at table page))

-- the step that carries out the wish for the key on the page as it is, if there is anything to do
abbrev pub wished_step : TableValue → ℕ → ℕ → Wished → Option Proposal
wished_step table page key wished =
    step_for page (slot_at table page).version key wished (had_at table page key)

-- the key of the page's middle entry, or 0, where no page can be split, if it has no two entries
abbrev pub middle_of : TableValue → ℕ → ℕ
middle_of table page =
    unwrap_or (listed_middle_key (page_for (chain_in (slot_at table page))).listed) 0

-- the step by which the page is reshaped as it is in the table
abbrev pub reshaping : TableValue → ℕ → ℕ → Reshaping → Proposal
reshaping table page seen reshapings.Consolidate = consolidating table page seen
reshaping table page seen reshapings.Halve = halving table page seen (middle_of table page)

-- the key where it is reshaped: its low, or where it is split
abbrev pub reshaped_at : TableValue → ℕ → Reshaping → ℕ
reshaped_at table page reshapings.Consolidate = (slot_at table page).low
reshaped_at table page reshapings.Halve = middle_of table page

-- why it is refused, if it is
abbrev pub reshaping_refusal : TableValue → ℕ → ℕ → Reshaping → Option Refused
reshaping_refusal table page seen reshapings.Consolidate =
    refusal table (consolidating table page seen)
reshaping_refusal table page seen reshapings.Halve = first_reason (half_reasons table page seen)

-- the term of the child in the parent, as both are in the table
abbrev pub term_of : TableValue → ℕ → ℕ → Proposal
term_of table parent child =
    term_add parent (slot_at table parent).version child (slot_at table child).version

-- the steps that the action stands for, where this is the page that it finds
abbrev pub steps_for : TableValue → ℕ → Action → List Proposal
steps_for table page (actions.Change key wished) =
    consolidated_behind table page (wished_step table page key wished)
steps_for table page (actions.Record key wished) =
    option_to_list (wished_step table page key wished)
steps_for table page (actions.Reshape at seen how) = reshaping table at.0 seen.0 how ∷ []
steps_for table page (actions.AddTerm child) = term_of table page child.0 ∷ []
steps_for table page (actions.Cut at seen) =
    consolidated_behind table at.0 (Some (reshaping table at.0 seen.0 reshapings.Halve))
steps_for table page (actions.Post child) =
    consolidated_behind table page (Some (term_of table page child.0))

-- the action finds this page and this key
abbrev pub Finds : TableValue → Action → Pid → ℕ → Type 0
Finds table (actions.Change key wished) page found = IsLeafOf table key page.0 × (found ≡ key)
Finds table (actions.Record key wished) page found = IsLeafOf table key page.0 × (found ≡ key)
Finds table (actions.Reshape at seen how) page found =
    (page ≡ at) × (found ≡ reshaped_at table at.0 how)
Finds table (actions.AddTerm child) page found = found ≡ (slot_at table child.0).low
Finds table (actions.Cut at seen) page found =
    (page ≡ at) × (found ≡ reshaped_at table at.0 reshapings.Halve)
Finds table (actions.Post child) page found = found ≡ (slot_at table child.0).low

-- the receipt of a look for the key at the page
abbrev pub look_at : TableValue → ℕ → ℕ → Receipt
look_at table page key = Looked (number_of table.book) key (had_at table page key)

-- each step is the consolidation of the page
abbrev pub with_receipts : Pid → List Proposal → List (Proposal × Receipt)
with_receipts page steps = map (λ step. (step, Shaped kinds.Consolidate page None)) steps

-- the steps were taken, the first with this receipt; or, where there
-- are none, the receipt is that of a look
abbrev pub Takes : TableValue → Performed → TableValue → List Proposal → Type 0
Takes old it new [] = (it.receipt ≡ look_at old it.page.0 it.key) × (new ≡ old)
Takes old it new (step ∷ behind) =
    TakesInTurn old ((step, it.receipt) ∷ with_receipts it.page behind) new

-- the action was performed, and this is what it came to
pub record IsPerformed (old : TableValue) (action : Action) (new : TableValue)
    (it : Performed) : Type 0 where
  pub finds : Finds old action it.page it.key
  pub takes : Takes old it new (steps_for old it.page.0 action)
  pub count : it.count ≡ (slot_at new it.page.0).count
  pub depth : it.depth ≡ (slot_at new it.page.0).depth

-- the book's number can't rise, or the page's version can't rise twice
abbrev pub IsUsedUp : TableValue → ℕ → Type 0
IsUsedUp table page =
    (2 ^ 64 ≤ number_of table.book + 1) ⊎ (2 ^ 64 ≤ (slot_at table page).version + 2)

-- a change of the leaf and its consolidation aren't done at once: more than the record of its split
-- stands on it, or a number is used up
abbrev pub IsUnfit : TableValue → ℕ → Type 0
IsUnfit table page = (is_flat (chain_in (slot_at table page)) ≡ false) ⊎ IsUsedUp table page

-- there is such a step, and it is refused
abbrev pub IsRefused : TableValue → Option Proposal → Type 0
IsRefused table None = ⊥
IsRefused table (Some step) = IsSome (refusal table step)

-- a search for the key meets something unfinished, or that is true of the leaf that it finds
abbrev pub StopsAt : TableValue → ℕ → (ℕ → Type 0) → Type 0
StopsAt table key Why = MeetsTodo table key ⊎ ((page : ℕ) × IsLeafOf table key page × Why page)

-- a page in the row of the next level, whose range holds the key
pub record IsAbove (table : TableValue) (key level page : ℕ) : Type 0 where
  pub in_row : is_in_row (slot_at table page).stage ≡ true
  pub above : (slot_at table page).level ≡ level + 1
  pub spans : Spans (outlines table.slots page) key

-- the page is the parent of the child, and that is true of it
abbrev pub HasParent : TableValue → ℕ → (ℕ → Type 0) → Type 0
HasParent table child Why =
    (parent : ℕ) × IsAbove table (slot_at table child).low (slot_at table child).level parent
    × Why parent

-- the page isn't unposted, or it is on the root's level, or that is true of its parent
abbrev pub StaysUnposted : TableValue → ℕ → (ℕ → Type 0) → Type 0
StaysUnposted table child Why =
    ((slot_at table child).stage ≢ Unposted)
    ⊎ ((slot_at table table.root).level ≤ (slot_at table child).level)
    ⊎ HasParent table child Why

-- the page isn't unposted, or it is on the root's level, or its term is refused in its parent
abbrev pub TakesNoTerm : TableValue → ℕ → Type 0
TakesNoTerm table child =
    StaysUnposted table child (λ parent. IsRefused table (Some (term_of table parent child)))

-- the split of the page in half is accepted, and may be done in one hold with its consolidation
pub record MayCutInHalf (table : TableValue) (page seen : ℕ) : Type 0 where
  pub accepted : reshaping_refusal table page seen reshapings.Halve ≡ None
  pub splits : MaySplitAtOnce table page (middle_of table page)

-- why the action isn't done in one hold, where there is memory
abbrev pub IsStepByStep : TableValue → Action → Type 0
IsStepByStep table (actions.Change key wished) = StopsAt table key (IsUnfit table)
IsStepByStep table (actions.Record key wished) =
    StopsAt table key (λ page. IsRefused table (wished_step table page key wished))
IsStepByStep table (actions.Reshape page seen how) = ⊥
IsStepByStep table (actions.AddTerm child) = TakesNoTerm table child.0
IsStepByStep table (actions.Cut page seen) = MayCutInHalf table page.0 seen.0 → ⊥
IsStepByStep table (actions.Post child) =
    StaysUnposted table child.0 (λ parent. MayPost table.slots parent child.0 → ⊥)

-- Why it isn't performed: a page that is named is reshaped unless the step is refused or memory is
-- short, and the others are done at once unless there is a reason to go step by step or memory is
-- short.
abbrev pub IsWhyNot : TableValue → Action → Unperformed → Type 0
IsWhyNot table (actions.Reshape page seen how) (Denied denied) =
    IsDenialFor (reshaping_refusal table page.0 seen.0 how) denied
IsWhyNot table action (Denied (denials.Refused reason)) = ⊥
IsWhyNot table (actions.Change key wished) (Denied denials.NoMemory) =
    (page : ℕ) × IsLeafOf table key page × (inserts wished (had_at table page key) ≡ true)
IsWhyNot table (actions.Cut page seen) (Denied denials.NoMemory) =
    MayCutInHalf table page.0 seen.0
IsWhyNot table (actions.Post child) (Denied denials.NoMemory) =
    HasParent table child.0 (λ parent. MayPost table.slots parent child.0)
IsWhyNot table action (Denied denials.NoMemory) = Unit {0}
IsWhyNot table action StepByStep = IsStepByStep table action

-- memory is wanting only where no spare memory was given
abbrev pub LacksSpare : Unperformed → Bool → Type 0
LacksSpare (Denied (denials.Refused reason)) no_spare = Unit {0}
LacksSpare (Denied denials.NoMemory) no_spare = no_spare ≡ true
LacksSpare StepByStep no_spare = Unit {0}

-- the action was performed, or this is why not, and then the table is as it was
pub record Performs (action : Action) (old : TableValue) (answer : Result Performed Unperformed)
    (new : TableValue) : Type 0 where
  pub done : IfOk answer (IsPerformed old action new)
  pub why : IfErr answer (IsWhyNot old action)
  pub unchanged : OnErr answer (new ≡ old)
