use Rattle.bw_step.specs.Trails.{lists_of}
use Rattle.bw_audit.proofs.Interleaved.{refused_leads}
use Rattle.bw_audit.proofs.replayer.take_turn.Goals as goal

pub returns-in_default : goal.returns-in_default
returns-in_default c =
    rw c.in-Step.is (refused_leads c.args.table.now _ c.in_default.field-0 c.install.new.self (lists_of c.args.trails.now.items) c.args.event.worker c.in_default.ensures.refused c.in_default.ensures.unchanged)
