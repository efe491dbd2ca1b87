use Rattle.std.proofs.Common.{◌∙◌}
use Rattle.nifforan.proofs.map.Map.delete_found.Goals as goal

pub returns-in-Some-clause-deletes : goal.returns-in-Some-clause-deletes
returns-in-Some-clause-deletes g c =
    let by = c.in-Some.ensures.change c.of.result (c.of.ensures c.args.key c.in-Some.ensures.reported) in
    (by.0, c.tend_changed.ensures.same ∙ by.1)
