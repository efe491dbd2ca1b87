use Rattle.std.proofs.Common.{refl, arith}
use Rattle.bw_step.specs.ProposalView.{consolidate_of}
use Rattle.bw_table.proofs.Doing.{does_consolidate, stays_whole}
use Rattle.bw_table.proofs.Writes.{reads}
use Rattle.bw_table.proofs.table.Table.consolidate.Goals as goal

pub index_mut-requires : goal.index_mut-requires
index_mut-requires g c = omega (arith, (does_consolidate c.self.invariant c.self.view_is c.args.step c.requires).inside)

pub consolidate-requires : goal.consolidate-requires
consolidate-requires g c =
    let does = does_consolidate c.self.invariant c.self.view_is c.args.step c.requires in
    let read = reads _ _ _ does.inside c.index_mut.ensures.value in
    record { in_row = rw read does.in_row; version = rw read does.version }

pub invariant_of-self : goal.invariant_of-self
invariant_of-self g c =
    let does = does_consolidate c.self.invariant c.self.view_is c.args.step c.requires in
    rw (c.consolidate.ensures, reads _ _ _ does.inside c.index_mut.ensures.value) (stays_whole c.self.invariant c.self.view_is (consolidate_of c.args.step) c.requires)

pub returns : goal.returns
returns g c =
    let does = does_consolidate c.self.invariant c.self.view_is c.args.step c.requires in
    let read = reads _ _ _ does.inside c.index_mut.ensures.value in
    rw (← c.self.view_is) (record { leads = rw (c.consolidate.ensures, read) refl; reported = refl })
