use Rattle.std.proofs.Common.{◌≡◌, drop}
use Rattle.bw_keys.specs.Ranges.{end_of}
use Rattle.bw_delta.specs.Entries.{rises}
use Rattle.bw_delta.proofs.Following.{next_from}
use Rattle.bw_delta.proofs.base.rises_inside.Given as goal

abbrev pub invariant-loop-key : goal.invariant-loop-key
invariant-loop-key g l = rises l.low (end_of l.high) l.entries ≡ rises (next_from l.low l.last) (end_of l.high) (drop l.key-index l.entries)
