use Rattle.bw_delta.proofs.Zips.{zip-set}
use Rattle.bw_chain.proofs.pass.writing.write.Goals as goal

pub returns-clause-written : goal.returns-clause-written
returns-clause-written g c = zip-set c.args.place c.args.entry.0 c.args.entry.1 c.args.keys.now c.args.values.now
