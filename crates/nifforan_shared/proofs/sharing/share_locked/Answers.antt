use denote.Param.Send.{sendable}
use Rattle.std.proofs.Crossing.{crosses}
use Rattle.bw_crew.proofs.Workers.{all_so}
use Rattle.bw_tree.proofs.Crossing.{Tree-sync}
use Rattle.nifforan_shared.proofs.sharing.share_locked.Goals as goal

pub work_all-gathered-requires-sync-T : goal.work_all-gathered-requires-sync-T
work_all-gathered-requires-sync-T g c κs within = search (Tree-sync, sendable, crosses) depth 60 fits 10000

pub work_all-gathered-requires-clause-given : goal.work_all-gathered-requires-clause-given
work_all-gathered-requires-clause-given g c κs within = all_so 0 c.in-Ok.kits.items tt

pub returns-in-Err-clause-back : goal.returns-in-Err-clause-back
returns-in-Err-clause-back g c = rw c.in-Err.ensures.back at c.out_of_memory-in-Err.ensures.back
