use Rattle.std.proofs.Common.{◌≡◌, ◌+◌, ◌≤◌, drop}
use Rattle.std.specs.Prelude.{count_by}
use Rattle.bw_draw.specs.Figures.{is_at}
use Rattle.bw_draw.proofs.stats.pages.pages_at.Given as goal

abbrev pub invariant-loop-page : goal.invariant-loop-page
invariant-loop-page l = record {
  rest : l.found + count_by (is_at l.stage) (drop l.page-index l.pages) ≡ count_by (is_at l.stage) l.pages;
  few : l.found ≤ l.page-index;
}
