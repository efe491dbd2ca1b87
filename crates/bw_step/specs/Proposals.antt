-- A proposed step as plain data: its pages by their ids, the versions seen, and no memory.
use Rattle.std.specs.Prelude.{ℕ}
use Rattle.bw_delta.specs.Pages.{Page}

pub data Proposal : Type 0 where
  insert : (page seen key value : ℕ) → Proposal
  delete : (page seen key : ℕ) → Proposal
  modify : (page seen key value : ℕ) → Proposal
  consolidate : (page seen : ℕ) (base : Page) → Proposal
  split : (page seen separator : ℕ) (base : Page) → Proposal
  term_add : (parent parent_seen child child_seen : ℕ) → Proposal
  grow : (child seen : ℕ) (base : Page) → Proposal
  mark : (page seen parent : ℕ) → Proposal
  merge : (left left_seen page page_seen : ℕ) → Proposal
  term_delete : (parent parent_seen child child_seen : ℕ) → Proposal
