use Rattle.nifforan.proofs.AtOnce.{found_is_for}
use Rattle.nifforan.proofs.worker.Worker.change_found.Goals as goal

pub returns-clause-reported : goal.returns-clause-reported
returns-clause-reported g c =
    found_is_for c.args.key c.args.self.now.owner.table.value c.change_leaf.new.self c.in_ok-page.page.0
    c.in_ok-receipt.receipt c.args.wished c.in_ok-receipt.ensures.done
