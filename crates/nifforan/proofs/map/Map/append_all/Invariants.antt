use Rattle.std.proofs.Common.{◌≡◌, ◌++◌, true}
use Rattle.bw_keys.specs.Ranges.{key_count}
use Rattle.bw_delta.specs.Entries.{rises}
use Rattle.nifforan.proofs.Appending.{last_key}
use Rattle.nifforan.proofs.map.Map.append_all.Given as goal

abbrev pub invariant-loop-key : goal.invariant-loop-key
invariant-loop-key g l =
    (goal.iterator-loop-key g).can_next l.left × (goal.iterator-loop-key g).is_finite l.left
    × (l.self.pairs ++ l.run ≡ l.yielded) × (l.last ≡ last_key l.yielded) × (rises 0 key_count l.yielded ≡ true)
    × (l.self.config ≡ l.fn.self.config)
