use denote.Param.Send.{sendable}
use Rattle.std.proofs.Crossing.{crosses}
use Rattle.bw_tree.proofs.Crossing.{ForestTree-sync}
use Rattle.nifforan_forest.proofs.sharing.share_open.Goals as goal

pub work_all-gathered-requires-sync-S : goal.work_all-gathered-requires-sync-S
work_all-gathered-requires-sync-S g c κs within = search (ForestTree-sync, sendable, crosses) depth 60 fits 10000
