use Rattle.bw_delta.specs.Slices.{list_of}
use Rattle.nifforan_handle.proofs.Filling.{IsWritten}
use Rattle.nifforan_handle.proofs.read.write_run.Given as goal

abbrev pub invariant-loop-number : goal.invariant-loop-number
invariant-loop-number l = IsWritten l.fn.places l.places (list_of l.run) l.first l.number
