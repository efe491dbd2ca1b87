use Rattle.bw_step.specs.ProposalView.{merge_of}
use Rattle.bw_table.proofs.Doing.{does_merge, stays_whole}
use Rattle.bw_table.proofs.table.Table.merge.Goals as goal

pub merge_at-requires : goal.merge_at-requires
merge_at-requires g c =
    let does = does_merge c.self.invariant c.self.view_is c.args.step c.requires in
    record {
      left_exists = does.left_exists;
      exists = does.exists;
      apart = does.apart;
      deeper = does.deeper;
      page_deeper = does.page_deeper;
      count = does.count;
    }

pub invariant_of-self : goal.invariant_of-self
invariant_of-self g c =
    rw c.merge_at.ensures (stays_whole c.self.invariant c.self.view_is (merge_of c.args.step) c.requires)
