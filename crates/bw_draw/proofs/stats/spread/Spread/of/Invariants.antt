use Rattle.std.proofs.Common.{◌≡◌, ◌+◌, ◌^◌, ◌<◌, drop}
use Rattle.std.specs.Prelude.{fold, max, min, sum}
use Rattle.bw_draw.specs.Figures.{capped, greatest, least}
use Rattle.bw_draw.proofs.stats.spread.Spread.of.Given as goal

abbrev pub invariant-loop-number : goal.invariant-loop-number
invariant-loop-number l = record {
  least : fold min l.least (drop l.number-index l.rest) ≡ least l.numbers;
  greatest : fold max l.greatest (drop l.number-index l.rest) ≡ greatest l.numbers;
  sum : capped (l.sum + sum (drop l.number-index l.rest)) ≡ capped (sum l.numbers);
  fits : l.sum < 2 ^ 64;
}
