use Rattle.std.proofs.Common.{◌≡◌, ◌<◌, length}
use Rattle.std.specs.List.{AllByRecursion}
use Rattle.bw_texts.proofs.trace.varied.make_varied.Given as goal

abbrev pub invariant-loop-number : goal.invariant-loop-number
invariant-loop-number l = record {
  count : length l.made.items ≡ l.number;
  workers : AllByRecursion (λ row. row.worker < l.workers) l.made.items;
}
