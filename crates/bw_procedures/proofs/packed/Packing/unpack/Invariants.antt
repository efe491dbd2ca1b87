use Rattle.std.proofs.Common.{◌≡◌, ◌++◌, reverse, length}
use Rattle.bw_procedures.specs.Packed.{latest}
use Rattle.bw_procedures.proofs.packed.Packing.unpack.Given as goal

-- the receipts that were read, and then those that are left, are all, from the last to the first
abbrev pub invariant-marks : goal.invariant-marks
invariant-marks l =
    l.receipts.items ++ latest l.rest.number (reverse l.marks) (reverse l.rest.words.now) (reverse l.rest.wholes.now)
    ≡ latest l.fn.self.number (reverse l.fn.self.marks.items) (reverse l.fn.self.words.items) (reverse l.fn.self.wholes.items)

abbrev pub decreases-marks : goal.decreases-marks
decreases-marks l = length l.marks
