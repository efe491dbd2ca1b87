use Rattle.std.proofs.Common.{rules}
use Rattle.bw_snap.proofs.read_tree.ReadTreeSharedGlobalStepGlobal.install.Goals as goal

pub install-requires : goal.install-requires
install-requires g c = search rules
