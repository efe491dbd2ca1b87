use Rattle.std.proofs.Common.{◌≡◌, ◌++◌, drop}
use Rattle.bw_draw.specs.Figures.{counts_of}
use Rattle.bw_draw.proofs.stats.pages.spread_in.Given as goal

abbrev pub invariant-loop-page : goal.invariant-loop-page
invariant-loop-page l = l.counts.items ++ counts_of l.leaves (drop l.page-index l.pages) ≡ counts_of l.leaves l.pages
