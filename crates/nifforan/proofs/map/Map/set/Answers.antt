use Rattle.std.proofs.Common.{◌∙◌}
use Rattle.bw_keys.specs.declared.wished.Wished.TheVariants as wishes
use Rattle.nifforan.proofs.AtOnce.{made_at_once}
use Rattle.nifforan.proofs.map.Map.set.Goals as goal

pub returns-in-Ok-clause-sets : goal.returns-in-Ok-clause-sets
returns-in-Ok-clause-sets g c =
    let by = c.in-Ok.ensures.change c.of.result (c.of.ensures c.args.key c.args.value c.in-Ok.ensures.reported) in
    (by.0, c.tend_changed.ensures.same ∙ by.1)

pub returns-in-Ok-clause-at_rest : goal.returns-in-Ok-clause-at_rest
returns-in-Ok-clause-at_rest g c rests =
    made_at_once c.args.key (wishes.Set c.args.value) c.args.self.now c.change.new.self c.tend_changed.new.self c.in-Ok.done
    c.tend_changed.result c.in-Ok.ensures.done c.change.ensures.map c.tend_changed.ensures.same c.tend_changed.ensures.stays
