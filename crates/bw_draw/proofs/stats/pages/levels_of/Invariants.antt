use Rattle.std.proofs.Common.{◌≡◌, map}
use Rattle.std.specs.List.{range_with_len}
use Rattle.bw_draw.specs.Figures.{pages_on}
use Rattle.bw_draw.proofs.stats.pages.levels_of.Given as goal

abbrev pub invariant-loop-level : goal.invariant-loop-level
invariant-loop-level l = l.levels.items ≡ map (pages_on l.pages) (range_with_len 0 l.level)
