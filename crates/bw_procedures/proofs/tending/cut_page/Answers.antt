use Rattle.std.proofs.Common.{◌<◌, ◌∷◌, [], ap, arith}
use Rattle.std.proofs.lemmas.Grind.{common_steps}
use Rattle.bw_step.specs.declared.receipt.Receipt.{Receipt}
use Rattle.bw_step.specs.Tellings.{without_shapes}
use Rattle.bw_procedures.proofs.Performing.{performed_nears}
use Rattle.bw_procedures.proofs.tending.cut_page.Goals as goal

pub returns-in-Shaped-default-default-Some-clause-tended : goal.returns-in-Shaped-default-default-Some-clause-tended
returns-in-Shaped-default-default-Some-clause-tended g c =
    let before : (g.S.Steps.seen c.args.steps.now).effort < c.args.limit = grind (arith, common_steps) in
    let performed = c.in-Ok.ensures.seen in
    performed_nears c.args.limit _ _ _ _ c.ranges.limit.fits before (ap (λ (r : Receipt). without_shapes (r ∷ [])) performed.reported.1.1) performed
