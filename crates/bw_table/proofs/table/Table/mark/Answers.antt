use Rattle.std.proofs.Common.{refl, arith}
use Rattle.bw_step.specs.ProposalView.{mark_of}
use Rattle.bw_table.proofs.Doing.{does_mark, stays_whole}
use Rattle.bw_table.proofs.Writes.{reads}
use Rattle.bw_table.proofs.table.Table.mark.Goals as goal

pub index_mut-requires : goal.index_mut-requires
index_mut-requires g c = omega (arith, (does_mark c.self.invariant c.self.view_is c.args.step c.requires).0)

pub mark-requires : goal.mark-requires
mark-requires g c =
    let does = does_mark c.self.invariant c.self.view_is c.args.step c.requires in
    let read = reads _ _ _ does.0 c.index_mut.ensures.value in
    record { deeper = rw read does.1 }

pub invariant_of-self : goal.invariant_of-self
invariant_of-self g c =
    let does = does_mark c.self.invariant c.self.view_is c.args.step c.requires in
    rw (c.mark.ensures, reads _ _ _ does.0 c.index_mut.ensures.value) (stays_whole c.self.invariant c.self.view_is (mark_of c.args.step) c.requires)

pub returns : goal.returns
returns g c =
    let does = does_mark c.self.invariant c.self.view_is c.args.step c.requires in
    let read = reads _ _ _ does.0 c.index_mut.ensures.value in
    rw (← c.self.view_is) (record { leads = rw (c.mark.ensures, read) refl; reported = refl })
