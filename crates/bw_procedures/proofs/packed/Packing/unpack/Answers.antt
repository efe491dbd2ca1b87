use Rattle.std.proofs.Common.{◌∙◌}
use Rattle.bw_procedures.specs.Packed.{told}
use Rattle.bw_procedures.proofs.Packing.{all_read}
use Rattle.bw_procedures.proofs.packed.Packing.unpack.Goals as goal

pub returns : goal.returns
unfolding told
returns c = c.reverse.ensures.items ∙ all_read _ _ _ _ _ _ c.in_default.ensures.cases c.marks.invariant
