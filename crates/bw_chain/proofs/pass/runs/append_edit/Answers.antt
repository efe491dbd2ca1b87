use Rattle.std.proofs.Common.{append-nil, sym}
use Rattle.bw_chain.proofs.pass.runs.append_edit.Goals as goal

pub returns-in-None : goal.returns-in-None
returns-in-None g c = rw c.in-None.is (sym (append-nil c.args.list.now.items))
