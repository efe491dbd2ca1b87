use Rattle.std.proofs.Common.{refl}
use Rattle.bw_step.specs.ProposalView.{term_add_of}
use Rattle.bw_table.proofs.Doing.{does_term_add, stays_whole}
use Rattle.bw_table.proofs.table.Table.term_add.Goals as goal

pub term_add_at-requires : goal.term_add_at-requires
term_add_at-requires g c =
    let does = does_term_add c.self.invariant c.self.view_is c.args.step c.requires in
    record {
      exists = does.exists;
      child_exists = does.child_exists;
      child_here = does.child_here;
      apart = does.apart;
      deeper = does.deeper;
      child_version = does.child_version;
      count = does.count;
    }

pub returns : goal.returns
returns g c = rw (← c.self.view_is) (record { leads = rw (c.page_finished.ensures, c.term_add_at.ensures) refl; reported = refl })

pub invariant_of-self : goal.invariant_of-self
invariant_of-self g c =
    rw c.term_add_at.ensures (stays_whole c.self.invariant c.self.view_is (term_add_of c.args.step) c.requires)
