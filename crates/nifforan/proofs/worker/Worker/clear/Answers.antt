use Rattle.nifforan.proofs.Clearing.{receipts_lose}
use Rattle.nifforan.proofs.worker.Worker.clear.Goals as goal

pub returns-clause-cleared : goal.returns-clause-cleared
returns-clause-cleared g c ended = rw c.begin_anew.ensures.table (c.clear-result.ensures.map ended)

pub returns-clause-loses : goal.returns-clause-loses
returns-clause-loses g c =
    let call = c.clear-result in
    rw c.begin_anew.ensures.table (receipts_lose _ _ _ c.args.self.now.owner.account.seen call.new.self.account.seen _ _ call.ensures.follows.leads call.ensures.receipts)
