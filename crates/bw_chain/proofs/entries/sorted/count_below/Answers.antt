use Rattle.std.proofs.Common.{sym, ◌∙◌, arith}
use Rattle.std.proofs.Math.Seq.{take-length, drop-length}
use Rattle.bw_keys.specs.Ranges.{key_count}
use Rattle.bw_delta.specs.Slices.{list_of}
use Rattle.bw_chain.proofs.Sorted.{below-front, from-behind, below-few, below_end, from_end}
use Rattle.bw_chain.proofs.entries.sorted.count_below.Goals as goal

pub returns-in-Key-clause-within : goal.returns-in-Key-clause-within
returns-in-Key-clause-within g c = rw c.count_below_key.ensures (below-few c.in-Key.key (list_of c.args.entries))

pub returns-in-Key-clause-before : goal.returns-in-Key-clause-before
returns-in-Key-clause-before g c = rw (c.in-Key.is, c.count_below_key.ensures) (below-front 0 key_count c.in-Key.key (list_of c.args.entries) c.requires.ascending)

pub returns-in-Key-clause-after : goal.returns-in-Key-clause-after
returns-in-Key-clause-after g c = rw (c.in-Key.is, c.count_below_key.ensures) (from-behind 0 key_count c.in-Key.key (list_of c.args.entries) c.requires.ascending)

pub returns-in-Top-clause-before : goal.returns-in-Top-clause-before
returns-in-Top-clause-before g c = rw (c.in-Top.is, c.len.ensures) (below_end 0 key_count key_count (list_of c.args.entries) c.requires.ascending (omega arith) ∙ sym (take-length (list_of c.args.entries)))

pub returns-in-Top-clause-after : goal.returns-in-Top-clause-after
returns-in-Top-clause-after g c = rw (c.in-Top.is, c.len.ensures) (from_end 0 key_count key_count (list_of c.args.entries) c.requires.ascending (omega arith) ∙ sym (drop-length (list_of c.args.entries)))
