use Rattle.std.proofs.Common.{◌-◌}
use Rattle.bw_keys.specs.Ranges.{key_count}
use Rattle.bench_tree.proofs.index.ByCallsIndex.scan_from.Given as goal

abbrev pub decreases-leaves : goal.decreases-leaves
decreases-leaves g l = key_count - l.key
