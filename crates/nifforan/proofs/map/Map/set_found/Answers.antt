use Rattle.std.proofs.Common.{◌∙◌}
use Rattle.nifforan.proofs.map.Map.set_found.Goals as goal

pub returns-in-Some-clause-sets : goal.returns-in-Some-clause-sets
returns-in-Some-clause-sets g c =
    let by = c.in-Some.ensures.change c.of.result (c.of.ensures c.args.key c.args.value c.in-Some.ensures.reported) in
    (by.0, c.tend_changed.ensures.same ∙ by.1)
