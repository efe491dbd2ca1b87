use Rattle.std.proofs.Common.{◌≡◌, ◌≤◌}
use Rattle.bw_draw.specs.Figures.{free_below}
use Rattle.bw_draw.proofs.stats.free_slots.Given as goal

abbrev pub invariant-loop-id : goal.invariant-loop-id
invariant-loop-id l = record {
  counted : l.free ≡ free_below l.table l.id;
  few : l.free ≤ l.id;
}
