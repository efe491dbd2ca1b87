use Rattle.std.proofs.Common.{rules}
use Rattle.bw_texts.proofs.history.write.put_modified.Goals as goal

pub returns : goal.returns
returns g c = search rules
