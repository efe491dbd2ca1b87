use Rattle.bw_procedures.specs.Writing.{IsReplyOf}
use Rattle.bw_procedures.proofs.Writes.{failed_writes, fails_writes, replied_writes, tended_writes}
use Rattle.bw_procedures.proofs.writing.write_by_steps.Goals.{in-Again, in-Kept}
use Rattle.bw_procedures.proofs.writing.write_by_steps.Goals as goal

pub returns-in_err-reply-clause-follows : goal.returns-in_err-reply-clause-follows
returns-in_err-reply-clause-follows g c = g.met.S.Steps.joins _ _ _ c.again.invariant.follows c.in_err-reply.ensures.follows

pub returns-in-Reply-clause-follows : goal.returns-in-Reply-clause-follows
returns-in-Reply-clause-follows g c = g.met.S.Steps.joins _ _ _ c.again.invariant.follows c.in_ok-reply.ensures.follows

pub returns-in-Tend-clause-follows : goal.returns-in-Tend-clause-follows
returns-in-Tend-clause-follows g c = g.met.S.Steps.joins _ _ _ c.again.invariant.follows (g.met.S.Steps.joins _ _ _ c.in_ok-reply.ensures.follows c.finish.ensures.follows)

pub returns-then-is_spent-clause-follows : goal.returns-then-is_spent-clause-follows
returns-then-is_spent-clause-follows g c = g.met.S.Steps.joins _ _ _ c.again.invariant.follows c.in_ok-reply.ensures.follows

pub returns-in_err-reply-clause-write : goal.returns-in_err-reply-clause-write
returns-in_err-reply-clause-write g c =
    fails_writes (IsReplyOf c.args.key c.args.wished) _ _ _ c.limit-limit.ensures c.again.invariant.reshapes c.from_residual.result _ _ c.from_residual.ensures.1 c.in_err-reply.ensures.attempts

pub returns-in-Reply-clause-write : goal.returns-in-Reply-clause-write
returns-in-Reply-clause-write g c =
    let inv = c.again.invariant in
    replied_writes (IsReplyOf c.args.key c.args.wished) _ _ _ c.limit-limit.ensures inv.reshapes c.in-Reply.reply c.again.kept _ inv.kept (rw c.in-Reply.is at c.in_ok-reply.ensures.attempts)

pub returns-in-Tend-clause-write : goal.returns-in-Tend-clause-write
returns-in-Tend-clause-write g c =
    let inv = c.again.invariant in
    let ended = c.finish.ensures in
    let done = rw c.in-Tend.is at c.in_ok-reply.ensures.attempts in
    tended_writes (IsReplyOf c.args.key c.args.wished) _ _ _ c.limit-limit.ensures inv.reshapes c.finish.result c.in-Tend.reply c.again.kept _ _ ended.reply inv.kept done ended.reshapes ended.fault

pub returns-then-is_spent-clause-write : goal.returns-then-is_spent-clause-write
returns-then-is_spent-clause-write g c =
    elim c.match-branch-2.branch [
      | in-Again w ↦ let tried = rw w.in-Again.is at c.in_ok-reply.ensures.attempts in failed_writes (IsReplyOf c.args.key c.args.wished) _ _ _ c.limit-limit.ensures c.again.invariant.reshapes _ _ (tried.0, c.is_spent.ensures.0 c.if-is_spent.true)
      | in-Kept w ↦ let tried = rw w.in-Kept.is at c.in_ok-reply.ensures.attempts in failed_writes (IsReplyOf c.args.key c.args.wished) _ _ _ c.limit-limit.ensures c.again.invariant.reshapes _ _ (tried.0, c.is_spent.ensures.0 c.if-is_spent.true)
    ]
