use Rattle.std.proofs.Common.{◌≡◌, ◌+◌, ◌^◌, ◌<◌, drop}
use Rattle.std.specs.Prelude.{sum_by}
use Rattle.bw_draw.specs.Figures.{capped, entries_of}
use Rattle.bw_draw.proofs.stats.memory.stored_entries.Given as goal

abbrev pub invariant-loop-page : goal.invariant-loop-page
invariant-loop-page l = record {
  rest : capped (l.stored + sum_by entries_of (drop l.page-index l.pages)) ≡ capped (sum_by entries_of l.pages);
  fits : l.stored < 2 ^ 64;
}
