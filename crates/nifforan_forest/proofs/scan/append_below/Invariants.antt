use Rattle.std.proofs.Common.{◌-◌, ◌≤◌, length, take}
use Rattle.bw_keys.specs.Ranges.{end_of}
use Rattle.bw_procedures.specs.Clearing.{LieBelow}
use Rattle.nifforan_forest.proofs.scan.append_below.Given as goal

abbrev pub invariant-loop-count : goal.invariant-loop-count
invariant-loop-count l = record {
  few : l.count ≤ l.limit;
  some : l.count ≤ length l.pairs;
  below : LieBelow (end_of l.high) (take l.count l.pairs);
}

abbrev pub decreases-loop-count : goal.decreases-loop-count
decreases-loop-count l = l.limit - l.count
