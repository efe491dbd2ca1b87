use Rattle.std.proofs.Common.{◌≡◌, ◌+◌, ◌^◌, ◌<◌, drop}
use Rattle.std.specs.Prelude.{sum_by}
use Rattle.bw_draw.specs.Figures.{capped, links_of}
use Rattle.bw_draw.proofs.stats.memory.stored_links.Given as goal

abbrev pub invariant-loop-page : goal.invariant-loop-page
invariant-loop-page l = record {
  rest : capped (l.links + sum_by links_of (drop l.page-index l.pages)) ≡ capped (sum_by links_of l.pages);
  fits : l.links < 2 ^ 64;
}
