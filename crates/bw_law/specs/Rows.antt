-- What the pages of a table show to one another: the rows of
-- the levels, and the terms between them.
use Rattle.std.specs.Prelude.{◌≡◌, ◌≢◌, ℕ, ◌+◌, ◌<◌, ◌≤◌, true, Option, Some, None}
use Rattle.bw_step.specs.declared.view.Stage.{Stage}
use Rattle.bw_step.specs.declared.view.Stage.TheVariants.{Unposted, Posted}
use Rattle.bw_step.specs.Stages.{is_in_row, has_term, is_leaving}

-- What a page shows to the others. Its high is a number: the number of
-- keys where the range ends at the top.
pub record Outline : Type 0 where
  pub stage : Stage
  pub low : ℕ
  pub high : ℕ
  pub right : Option ℕ
  pub level : ℕ
  pub routes : ℕ → Option ℕ

abbrev pub Spans : Outline → ℕ → Type 0
Spans page key = (page.low ≤ key) × (key < page.high)

abbrev pub InRow : Outline → Type 0
InRow page = is_in_row page.stage ≡ true

-- the child is to have a term on the level of the parent, at the key
pub record IsTerm (parent child : Outline) (key : ℕ) : Type 0 where
  pub posted : has_term child.stage ≡ true
  pub above : parent.level ≡ child.level + 1
  pub at_low : child.low ≡ key

-- the rows of the levels from 0 to the root's, over the keys below `top`
pub record Rows (top : ℕ) (at : ℕ → Outline) (root : ℕ) : Type 0 where
  -- each key is held by just one page of each level, and no range is empty or reaches past the keys
  pub held : (level key : ℕ) → level ≤ (at root).level → key < top
      → (p : ℕ) × InRow (at p) × ((at p).level ≡ level) × Spans (at p) key
  pub apart : (p q key : ℕ) → InRow (at p) → InRow (at q) → (at p).level ≡ (at q).level
      → Spans (at p) key → Spans (at q) key → p ≡ q
  pub some_key : (p : ℕ) → InRow (at p) → (at p).low < (at p).high
  pub within : (p : ℕ) → InRow (at p) → (at p).high ≤ top
  -- a right link leads to the page of the level that begins where this one
  -- ends; a page without one ends at the top
  pub linked : (p q : ℕ) → InRow (at p) → (at p).right ≡ Some q
      → InRow (at q) × ((at q).level ≡ (at p).level) × ((at q).low ≡ (at p).high)
  pub ends : (p : ℕ) → InRow (at p) → (at p).right ≡ None → (at p).high ≡ top
  -- no page is above the root's level; the root is the first of its row, and alone posted there
  pub under_root : (p : ℕ) → InRow (at p) → (at p).level ≤ (at root).level
  pub root_posted : (at root).stage ≡ Posted
  pub root_first : (at root).low ≡ 0
  pub others_unposted : (p : ℕ) → InRow (at p) → (at p).level ≡ (at root).level → p ≢ root
      → (at p).stage ≡ Unposted
  -- the routes in a page's range are just the terms of the posted,
  -- marked and merged pages one level below
  pub routed : (p c key : ℕ) → InRow (at p) → Spans (at p) key → (at p).routes key ≡ Some c
      → IsTerm (at p) (at c) key
  pub termed : (p c key : ℕ) → InRow (at p) → Spans (at p) key → IsTerm (at p) (at c) key
      → (at p).routes key ≡ Some c
  -- an inner page routes its own low
  pub own_low : (p level : ℕ) → InRow (at p) → (at p).level ≡ level + 1
      → (c : ℕ) × ((at p).routes (at p).low ≡ Some c)
  -- no page that is being removed begins where a page one level
  -- above begins, or is on the root's level
  pub leaving_low : (p c : ℕ) → InRow (at p) → is_leaving (at c).stage ≡ true
      → (at p).level ≡ (at c).level + 1 → (at p).low ≢ (at c).low
  pub leaving_under : (c : ℕ) → is_leaving (at c).stage ≡ true → (at c).level < (at root).level
