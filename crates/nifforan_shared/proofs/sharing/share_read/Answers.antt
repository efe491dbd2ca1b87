use denote.Param.Send.{sendable}
use Rattle.std.proofs.Common.{rules, ◌≡◌, length, ◌∙◌}
use Rattle.std.proofs.Crossing.{crosses}
use Rattle.bw_snap.proofs.Crossing.{Reader-send, ReadTree-sync}
use Rattle.nifforan_shared.proofs.Trails.{counts_trails}
use Rattle.bw_crew.proofs.Workers.{all_so}
use Rattle.nifforan_shared.proofs.sharing.share_read.Goals as goal

pub work_all-requires-send-K : goal.work_all-requires-send-K
work_all-requires-send-K g c κs within = search (Reader-send, ReadTree-sync, sendable, crosses) depth 60 fits 10000

pub work_all-requires-sync-T : goal.work_all-requires-sync-T
work_all-requires-sync-T g c κs within = search (ReadTree-sync, sendable, crosses) depth 60 fits 10000

pub work_all-requires-clause-given : goal.work_all-requires-clause-given
work_all-requires-clause-given g c κs within = all_so 0 c.in_ok-kits.kits.items tt

pub returns-clause-shared : goal.returns-clause-shared
returns-clause-shared g c =
    let all = c.in_ok-shares.field-0 in
    let closed = c.in-Ok-close.ensures.closed in
    let many : length c.in_ok-kits.kits.items ≡ c.args.workers = search rules in
    record {
      tree = closed.tree;
      config = closed.config ∙ c.requires.ledgers.made;
      outputs = all.answered ∙ (c.in_ok-shares.ensures.count ∙ many);
      trails = all.trailed ∙ (c.in_ok-shares.ensures.count ∙ many);
      pairs = counts_trails g.L.Trail.added c.in-Ok-close.table all.shares.items all.trails.items all.counted closed.pairs;
      promised = c.in_ok-shares.ensures.promised;
    }
