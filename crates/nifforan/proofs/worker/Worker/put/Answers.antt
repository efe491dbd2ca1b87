use Rattle.nifforan.proofs.Replies.{put_is, fault_keeps}
use Rattle.nifforan.proofs.worker.Worker.put.Goals as goal

pub returns-clause-change : goal.returns-clause-change
returns-clause-change g c =
    let call = c.put-result in
    rw c.forget.ensures.table (put_is c.args.key c.args.value call.result c.args.self.now.owner.account.seen call.new.self.account.seen c.args.self.now.owner.table.value call.new.self.table.value c.requires
    call.ensures.follows.leads call.ensures.write.receipt)

pub returns-clause-unchanged : goal.returns-clause-unchanged
returns-clause-unchanged g c =
    let call = c.put-result in
    rw c.forget.ensures.table (fault_keeps call.result c.args.self.now.owner.account.seen call.new.self.account.seen c.args.self.now.owner.table.value call.new.self.table.value c.requires
    call.ensures.follows.leads call.ensures.write.no_receipt)
