use Rattle.std.proofs.Common.{None}
use Rattle.bw_procedures.specs.Writing.{IsReplyOf}
use Rattle.bw_procedures.proofs.Writes.{replied_writes, reshapes_none, tended_writes}
use Rattle.bw_procedures.proofs.writing.write.Goals as goal

pub returns-in-Some-Tend-clause-follows : goal.returns-in-Some-Tend-clause-follows
returns-in-Some-Tend-clause-follows g c = g.met.S.Steps.joins _ _ _ c.in-Some-Tend.ensures.follows c.finish.ensures.follows

pub returns-in-Some-Reply-clause-write : goal.returns-in-Some-Reply-clause-write
returns-in-Some-Reply-clause-write g c =
    replied_writes (IsReplyOf c.args.key c.args.wished) _ _ _ c.limit-limit.ensures (reshapes_none _) c.in-Some-Reply.reply None _ tt (rw c.in-Some-Reply.field-0-is at c.in-Some-Reply.ensures.attempts)

pub returns-in-Some-Tend-clause-write : goal.returns-in-Some-Tend-clause-write
returns-in-Some-Tend-clause-write g c =
    let ended = c.finish.ensures in
    let done = rw c.in-Some-Tend.field-0-is at c.in-Some-Tend.ensures.attempts in
    tended_writes (IsReplyOf c.args.key c.args.wished) _ _ _ c.limit-limit.ensures (reshapes_none _) c.finish.result c.in-Some-Tend.reply None _ _ ended.reply tt done ended.reshapes ended.fault
