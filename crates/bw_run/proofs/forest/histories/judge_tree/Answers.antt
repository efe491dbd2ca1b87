use Rattle.bw_step.specs.Trails.{lists_of}
use Rattle.bw_run.proofs.ForestLegal.{bad_at, no_verdict}
use Rattle.bw_run.proofs.forest.histories.judge_tree.Goals as goal

pub returns-in-Audit-clause-fault : goal.returns-in-Audit-clause-fault
returns-in-Audit-clause-fault c =
    bad_at c.args.number c.args.table.now (lists_of c.args.trails.now) c.requires c.in-Audit.worker c.in-Audit.receipt
    (rw c.in-Audit.is at c.in-Err.ensures.fault)

pub returns-in_default-fault-clause-fault : goal.returns-in_default-fault-clause-fault
returns-in_default-fault-clause-fault c =
    no_verdict c.args.number c.args.table.now (lists_of c.args.trails.now) c.requires c.in-Err.fault c.in_default-fault.not-Audit
    c.in-Err.ensures.fault
