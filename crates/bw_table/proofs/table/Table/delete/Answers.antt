use Rattle.std.proofs.Common.{◌≡◌, suc, refl, arith}
use Rattle.bw_step.specs.ProposalView.{delete_of}
use Rattle.bw_law.specs.Tables.{number_of}
use Rattle.bw_table.proofs.Doing.{does_delete, stays_whole}
use Rattle.bw_table.proofs.Writes.{reads}
use Rattle.bw_table.proofs.table.Table.delete.Goals as goal

pub index_mut-requires : goal.index_mut-requires
index_mut-requires g c = omega (arith, (does_delete c.self.invariant c.self.view_is c.args.step c.requires).exists)

pub delete-value-requires : goal.delete-value-requires
delete-value-requires g c =
    let does = does_delete c.self.invariant c.self.view_is c.args.step c.requires in
    let read = reads _ _ _ does.exists c.index_mut.ensures.value in
    record { deeper = rw read does.deeper; count = rw read does.count }

pub number_of-requires : goal.number_of-requires
number_of-requires g c =
    omega (arith, (does_delete c.self.invariant c.self.view_is c.args.step c.requires).number)

pub invariant_of-self : goal.invariant_of-self
invariant_of-self g c =
    let does = does_delete c.self.invariant c.self.view_is c.args.step c.requires in
    rw (c.delete-value.ensures.slot, reads _ _ _ does.exists c.index_mut.ensures.value) (stays_whole c.self.invariant c.self.view_is (delete_of c.args.step) c.requires)

pub returns : goal.returns
returns g c =
    let does = does_delete c.self.invariant c.self.view_is c.args.step c.requires in
    let read = reads _ _ _ does.exists c.index_mut.ensures.value in
    let number : c.number_of.result ≡ suc (number_of c.self.inside.book) = omega (arith, c.number_of.ensures) in
    rw (← c.self.view_is)
    (record {
      leads = rw (c.delete-value.ensures.slot, read) refl;
      reported = rw (number, c.delete-value.ensures.value, read) refl;
    })
