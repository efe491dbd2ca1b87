use Rattle.std.proofs.Common.{rules}
use Rattle.bw_snap.proofs.read_tree.ReadTreeSharedGlobalStepGlobal.copy_page.Goals as goal

pub returns : goal.returns
returns g c = search rules
