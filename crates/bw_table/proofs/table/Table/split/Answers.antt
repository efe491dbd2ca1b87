use Rattle.std.proofs.Common.{unwrap_or, refl, ap}
use Rattle.bw_step.specs.ProposalView.{split_of}
use Rattle.bw_table.proofs.Doing.{does_split, stays_whole}
use Rattle.bw_table.proofs.table.Table.split.Goals as goal

pub take_last-requires : goal.take_last-requires
take_last-requires g c = rw (does_split c.self.invariant c.self.view_is c.args.step c.requires).room refl

pub split_at-requires : goal.split_at-requires
split_at-requires g c =
    let does = does_split c.self.invariant c.self.view_is c.args.step c.requires in
    let new = ap (λ o. unwrap_or o 0) c.take_last.ensures.id in
    rw (← new)
    (record {
      exists = does.exists;
      new_exists = does.new_exists;
      apart = does.apart;
      deeper = does.deeper;
      new_version = does.new_version;
      count = does.count;
      later = does.later;
      link = does.link;
    })

pub invariant_of-self : goal.invariant_of-self
invariant_of-self g c =
    let new = ap (λ o. unwrap_or o 0) c.take_last.ensures.id in
    rw (c.split_at.ensures, c.take_last.ensures.rest, c.take_last.ensures.room, ← new) (stays_whole c.self.invariant c.self.view_is (split_of c.args.step) c.requires)
