use denote.Param.Send.{sendable}
use Rattle.std.proofs.Crossing.{crosses}
use Rattle.bw_tree.proofs.share.Share.TheSendSync as share
use Rattle.bw_snap.proofs.Crossing.{ReadTree-sync}
use Rattle.test_trees.proofs.crew.work_both_beside.Goals as goal

pub join-requires-send-F : goal.join-requires-send-F
join-requires-send-F g c κs within = search (ReadTree-sync, share.the_send, sendable, crosses) depth 60 fits 10000
