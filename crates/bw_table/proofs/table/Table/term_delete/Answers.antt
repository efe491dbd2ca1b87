use Rattle.std.proofs.Common.{refl, arith}
use Rattle.bw_step.specs.ProposalView.{term_delete_of}
use Rattle.bw_table.proofs.Doing.{does_term_delete, stays_whole}
use Rattle.bw_table.proofs.table.Table.term_delete.Goals as goal

pub term_delete_at-version-requires : goal.term_delete_at-version-requires
term_delete_at-version-requires g c =
    let does = does_term_delete c.self.invariant c.self.view_is c.args.step c.requires in
    record {
      exists = does.exists;
      child_exists = does.child_exists;
      apart = does.apart;
      deeper = does.deeper;
      child_version = does.child_version;
      count = does.count;
    }

pub give_back-requires : goal.give_back-requires
give_back-requires g c =
    omega (arith, (does_term_delete c.self.invariant c.self.view_is c.args.step c.requires).free_room, c.self.invariant.free_room)

pub invariant_of-self : goal.invariant_of-self
invariant_of-self g c =
    rw (c.term_delete_at-version.ensures.slots, c.give_back.ensures.ids, c.give_back.ensures.room, c.term_delete_at-version.ensures.version)
    (stays_whole c.self.invariant c.self.view_is (term_delete_of c.args.step) c.requires)

pub returns : goal.returns
returns g c =
    rw (← c.self.view_is)
    (record {
      leads = rw (c.page_finished.ensures, c.term_delete_at-version.ensures.slots, c.give_back.ensures.ids, c.term_delete_at-version.ensures.version) refl;
      reported = refl;
    })
