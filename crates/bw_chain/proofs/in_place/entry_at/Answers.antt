use Rattle.std.proofs.Common.{sym, arith}
use Rattle.bw_keys.specs.Ranges.{key_count}
use Rattle.bw_delta.specs.Slices.{list_of}
use Rattle.bw_chain.proofs.Places.{at-read, at-read_other, at-no_place}
use Rattle.bw_chain.proofs.in_place.entry_at.Goals as goal
use Rattle.bw_chain.proofs.in_place.entry_at.Goals.{then-place-len+else-entry-key, else-place-len}

pub returns-then-entry-key-clause-value : goal.returns-then-entry-key-clause-value
returns-then-entry-key-clause-value g c =
    at-read c.args.key c.args.place c.entry-entry.result (list_of c.args.entries) c.requires.ascending c.requires.place (omega arith) c.entry-entry.ensures c.if-entry-key.true

pub returns-clause-value : goal.returns-clause-value
returns-clause-value g c = elim c.if-place-len.branch [
  | then-place-len+else-entry-key w ↦ at-read_other c.args.key c.args.place w.entry-entry.result (list_of c.args.entries) c.requires.ascending c.requires.place (omega arith) w.entry-entry.ensures w.if-entry-key.false
  | else-place-len w ↦ sym (at-no_place 0 key_count c.args.key (list_of c.args.entries) c.requires.ascending (omega arith))
]
