use Rattle.std.proofs.Common.{◌≡◌, ◌+◌, drop}
use Rattle.bw_keys.specs.Ranges.{key_count}
use Rattle.bw_delta.specs.Entries.{rises}
use Rattle.bw_audit.proofs.auditor.is_ascending.Given as goal

abbrev pub invariant-loop-pair : goal.invariant-loop-pair
invariant-loop-pair l = rises (l.last + 1) key_count (drop l.pair-index l.rest) ≡ rises (l.initial.last + 1) key_count l.rest
