use Rattle.std.proofs.Common.{◌≡◌, ◌+◌, length}
use Rattle.nifforan_shared.proofs.reading.readings_of.Given as goal

abbrev pub invariant-loop-reader : goal.invariant-loop-reader
invariant-loop-reader g l = length l.readings.items + length l.reader-iterator.rest.items ≡ length l.fn.readers.items
