use denote.Param.Send.{sendable}
use Rattle.std.proofs.Crossing.{crosses}
use Rattle.bw_tree.proofs.share.Share.TheSendSync as share
use Rattle.bw_tree.proofs.Crossing.{Tree-sync}
use Rattle.test_trees.proofs.crew.work_both.Goals as goal

pub join-requires-send-F : goal.join-requires-send-F
join-requires-send-F g c κs within = search (Tree-sync, share.the_send, sendable, crosses) depth 60 fits 10000
