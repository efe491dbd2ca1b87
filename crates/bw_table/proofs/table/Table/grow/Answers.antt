use Rattle.std.proofs.Common.{unwrap_or, refl, ap}
use Rattle.bw_step.specs.ProposalView.{grow_of}
use Rattle.bw_table.proofs.Doing.{does_grow, root_level, stays_whole}
use Rattle.bw_table.proofs.table.Table.grow.Goals as goal

pub take_last-requires : goal.take_last-requires
take_last-requires g c = rw (does_grow c.self.invariant c.self.view_is c.args.step c.requires).room refl

pub grow_at-requires : goal.grow_at-requires
grow_at-requires g c =
    let does = does_grow c.self.invariant c.self.view_is c.args.step c.requires in
    let new = ap (λ o. unwrap_or o 0) c.take_last.ensures.id in
    let level = root_level c.self.invariant c.self.view_is c.root-level.result c.root-level.ensures.place in
    rw (← new, level)
    (record {
      child_exists = does.child_exists;
      child_here = does.child_here;
      new_exists = does.new_exists;
      apart = does.apart;
      child_version = does.child_version;
      new_version = does.new_version;
      level = does.level;
    })

pub invariant_of-self : goal.invariant_of-self
invariant_of-self g c =
    let new = ap (λ o. unwrap_or o 0) c.take_last.ensures.id in
    let level = root_level c.self.invariant c.self.view_is c.root-level.result c.root-level.ensures.place in
    rw (c.grow_at.ensures, c.take_last.ensures.rest, c.take_last.ensures.room, level, ← new) (stays_whole c.self.invariant c.self.view_is (grow_of c.args.step) c.requires)
