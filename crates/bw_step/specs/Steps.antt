-- What an atomic step answers, whatever the table was when its lock was taken.
use Rattle.std.specs.Prelude.{◌≡◌, ℕ, ◌+◌, ◌<◌, ◌≤◌, true, Some, None}
use Rattle.bw_keys.specs.declared.page.Pid.{Pid}
use Rattle.bw_keys.specs.Ranges.{end_of}
use Rattle.bw_step.specs.declared.place.Place.{Place}
use Rattle.bw_step.specs.declared.place.Go.{Go}
use Rattle.bw_step.specs.declared.place.Go.TheVariants.{Gone, Right, Down, Here}
use Rattle.bw_step.specs.declared.receipt.Kind.TheVariants as kinds
use Rattle.bw_step.specs.declared.receipt.Receipt.{Receipt}
use Rattle.bw_step.specs.declared.receipt.Receipt.TheVariants.{Inserted, Deleted, Modified, Shaped}
use Rattle.bw_step.specs.declared.view.View.{View}
use Rattle.bw_step.specs.Proposals.{Proposal, insert, delete, modify, consolidate, split, term_add, grow, mark, merge, term_delete}
use Rattle.bw_step.specs.Stages.{is_in_row}
use Rattle.bw_step.specs.declared.fault.Denied.{Denied}
use Rattle.bw_step.specs.declared.fault.Denied.TheVariants.{Refused, NoMemory}

-- the page of the place, which was in its row on the goal's level, with a range that holds the key
pub record IsViewAt (place : Place) (key goal : ℕ) (view : View) : Type 0 where
  pub page : view.pid ≡ place.pid
  pub in_row : is_in_row view.stage ≡ true
  pub level : view.level ≡ goal
  pub low_from : place.from ≤ view.low
  pub low_upto : view.low ≤ key
  pub below_high : key < end_of view.high

-- right leads to a greater key on the same level, down leads one level lower, and the
-- page that is found is on the goal's level
abbrev pub IsNext : Place → ℕ → ℕ → Go → Type 0
IsNext place key goal Gone = Unit {0}
IsNext place key goal (Right next) =
    (next.level ≡ place.level) × (place.from < next.from) × (next.from ≤ key)
IsNext place key goal (Down next) =
    (next.level + 1 ≡ place.level) × (goal ≤ next.level) × (next.from ≤ key)
IsNext place key goal (Here view) = IsViewAt place key goal view

-- the step changes the tree's shape, and no pair
abbrev pub ChangesShape : Proposal → Type 0
ChangesShape (insert page seen key value) = ⊥
ChangesShape (delete page seen key) = ⊥
ChangesShape (modify page seen key value) = ⊥
ChangesShape (consolidate page seen base) = Unit {0}
ChangesShape (split page seen separator base) = Unit {0}
ChangesShape (term_add parent parent_seen child child_seen) = Unit {0}
ChangesShape (grow child seen base) = Unit {0}
ChangesShape (mark page seen parent) = Unit {0}
ChangesShape (merge left left_seen page page_seen) = Unit {0}
ChangesShape (term_delete parent parent_seen child child_seen) = Unit {0}

-- the receipt of the step: it reports the step's kind, pages, key and value
abbrev pub IsReceiptOf : Proposal → Receipt → Type 0
IsReceiptOf (insert page seen key value) (Inserted number k v) = (k ≡ key) × (v ≡ value)
IsReceiptOf (delete page seen key) (Deleted number k v) = k ≡ key
IsReceiptOf (modify page seen key value) (Modified number k old v) = (k ≡ key) × (v ≡ value)
IsReceiptOf (consolidate page seen base) (Shaped kind at other) =
    (kind ≡ kinds.Consolidate) × (at.0 ≡ page) × (other ≡ None)
IsReceiptOf (split page seen separator base) (Shaped kind at other) =
    (kind ≡ kinds.Split) × (at.0 ≡ page) × (new : Pid) × (other ≡ Some new)
IsReceiptOf (term_add parent parent_seen child child_seen) (Shaped kind at other) =
    (kind ≡ kinds.TermAdd) × (at.0 ≡ parent) × (other ≡ Some (record { 0 = child }))
IsReceiptOf (grow child seen base) (Shaped kind at other) =
    (kind ≡ kinds.Grow) × (other ≡ Some (record { 0 = child }))
IsReceiptOf (mark page seen parent) (Shaped kind at other) =
    (kind ≡ kinds.Mark) × (at.0 ≡ page) × (other ≡ None)
IsReceiptOf (merge left left_seen page page_seen) (Shaped kind at other) =
    (kind ≡ kinds.Merge) × (at.0 ≡ left) × (other ≡ Some (record { 0 = page }))
IsReceiptOf (term_delete parent parent_seen child child_seen) (Shaped kind at other) =
    (kind ≡ kinds.TermDelete) × (at.0 ≡ parent) × (other ≡ Some (record { 0 = child }))
IsReceiptOf _ _ = ⊥

-- the table refused, and nothing else was wanting
abbrev pub IsRefusal : Denied → Type 0
IsRefusal (Refused reason) = Unit {0}
IsRefusal NoMemory = ⊥
