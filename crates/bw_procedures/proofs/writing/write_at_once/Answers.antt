use Rattle.bw_procedures.proofs.Changing.{adds_at_once}
use Rattle.bw_procedures.proofs.writing.write_at_once.Goals as goal

pub returns-then-from-config-clause-attempts : goal.returns-then-from-config-clause-attempts
returns-then-from-config-clause-attempts g c = adds_at_once c.args.key c.args.wished c.in_ok-done.done _ _ c.in_ok-done.ensures.made _ c.had-reply.ensures

pub returns-else-from-config-clause-attempts : goal.returns-else-from-config-clause-attempts
returns-else-from-config-clause-attempts g c = adds_at_once c.args.key c.args.wished c.in_ok-done.done _ _ c.in_ok-done.ensures.made _ c.had-reply.ensures
