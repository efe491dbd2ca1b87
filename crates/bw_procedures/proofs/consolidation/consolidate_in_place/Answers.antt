use Rattle.std.proofs.Common.{◌∷◌, [], ap}
use Rattle.bw_step.specs.declared.receipt.Receipt.{Receipt}
use Rattle.bw_step.specs.Tellings.{without_shapes}
use Rattle.bw_procedures.proofs.Performing.{performed_reshapes}
use Rattle.bw_procedures.proofs.consolidation.consolidate_in_place.Goals as goal

pub returns-in-Ok-clause-consolidates : goal.returns-in-Ok-clause-consolidates
returns-in-Ok-clause-consolidates g c =
    let performed = c.in-Ok.ensures.seen in
    performed_reshapes _ _ _ _ (ap (λ (r : Receipt). without_shapes (r ∷ [])) performed.reported.1) performed
