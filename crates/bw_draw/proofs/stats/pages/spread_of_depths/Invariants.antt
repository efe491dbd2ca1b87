use Rattle.std.proofs.Common.{◌≡◌, ◌++◌, drop}
use Rattle.bw_draw.specs.Figures.{depths_of}
use Rattle.bw_draw.proofs.stats.pages.spread_of_depths.Given as goal

abbrev pub invariant-loop-page : goal.invariant-loop-page
invariant-loop-page l = l.depths.items ++ depths_of (drop l.page-index l.pages) ≡ depths_of l.pages
