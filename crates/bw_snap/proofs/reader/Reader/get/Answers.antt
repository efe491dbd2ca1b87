use Rattle.std.proofs.Common.{rules}
use Rattle.bw_snap.proofs.reader.Reader.get.Goals as goal

pub returns-in-Ok-clause-found : goal.returns-in-Ok-clause-found
returns-in-Ok-clause-found g c = search rules
