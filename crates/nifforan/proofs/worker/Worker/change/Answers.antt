use Rattle.nifforan.proofs.AtOnce.{reported, same_config, tells}
use Rattle.nifforan.proofs.worker.Worker.change.Goals as goal

pub returns-clause-reported : goal.returns-clause-reported
returns-clause-reported g c = reported c.args.key c.args.wished _ _ c.perform-result.result c.perform-result.ensures.done

pub returns-clause-map : goal.returns-clause-map
returns-clause-map g c =
    let law = c.law.ensures in
    tells c.args.key c.args.wished _ _ c.perform-result.result law.lawful law.booked c.perform-result.ensures.done

pub returns-clause-config : goal.returns-clause-config
returns-clause-config g c =
    let action = c.perform-result in
    same_config c.args.key c.args.wished _ _ action.result action.ensures.done action.ensures.unchanged
