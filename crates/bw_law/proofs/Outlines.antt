-- What the steps make of the outlines of the pages that they name.
use Rattle.std.proofs.Common.{◌≡◌, ℕ, ◌+◌, true, Some, None, cond, eqb, ltb, arith}
use Rattle.bw_step.specs.declared.view.Stage.{Stage}
use Rattle.bw_step.specs.declared.view.Stage.TheVariants.{Unposted, Posted}
use Rattle.bw_step.specs.Stages.{has_term, is_leaving}
use Rattle.bw_law.specs.Rows.{Outline, Spans, InRow, Rows}

-- the outlines with one page written
abbrev pub write : (ℕ → Outline) → ℕ → Outline → ℕ → Outline
write at page new x = cond (eqb x page) new (at x)

abbrev pub with_stage : Stage → Outline → Outline
with_stage stage page = record page { stage = stage }

-- the page that keeps the keys below the separator
abbrev pub lower : ℕ → ℕ → Outline → Outline
lower separator new page = record page { high = separator; right = Some new; routes = λ k. cond (ltb k separator) (page.routes k) None }

-- the page that takes the keys from the separator on
abbrev pub upper : ℕ → Outline → Outline
upper separator page = record page { stage = Unposted; low = separator; routes = λ k. cond (ltb k separator) None (page.routes k) }

-- the page that has taken in its right neighbour
abbrev pub joined : Outline → Outline → Outline
joined left right = record left { high = right.high; right = right.right; routes = λ k. cond (ltb k right.low) (left.routes k) (right.routes k) }

-- a page in no row, which a term may still lead to
abbrev pub gone : Stage → ℕ → ℕ → ℕ → Outline
gone stage top low level = record { stage = stage; low = low; high = top; right = None; level = level; routes = λ _. None }

abbrev pub with_term : ℕ → ℕ → Outline → Outline
with_term key child page = record page { routes = λ k. cond (eqb k key) (Some child) (page.routes k) }

abbrev pub without_term : ℕ → Outline → Outline
without_term key page = record page { routes = λ k. cond (eqb k key) None (page.routes k) }

-- a root for all keys over two pages
abbrev pub over_two : ℕ → ℕ → ℕ → ℕ → ℕ → Outline
over_two top level root key child = record {
  stage = Posted;
  low = 0;
  high = top;
  right = None;
  level = level + 1;
  routes = λ k. cond (eqb k 0) (Some root) (cond (eqb k key) (Some child) None);
}

-- the level above has a term for a page that is being removed
pub leaving_has_term : (stage : Stage) → is_leaving stage ≡ true → has_term stage ≡ true
leaving_has_term stage leaving = grind arith

-- the page of the level above that spans the low of a page that is being removed routes it there
pub leaving_is_routed : (top : ℕ) (at : ℕ → Outline) (root : ℕ) (law : Rows top at root) (p c : ℕ) → InRow (at p) → is_leaving (at c).stage ≡ true → (at p).level ≡ (at c).level + 1 → Spans (at p) (at c).low → (at p).routes (at c).low ≡ Some c
leaving_is_routed top at root law p c in_row leaving above spans =
    law.termed p c (at c).low in_row spans (record { posted = leaving_has_term _ leaving; above = above; at_low = λ _. (at c).low })
