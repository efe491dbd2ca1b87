use Rattle.std.proofs.Common.{◌≡◌, suc, refl, arith}
use Rattle.bw_step.specs.ProposalView.{modify_of}
use Rattle.bw_law.specs.Tables.{number_of}
use Rattle.bw_table.proofs.Doing.{does_modify, stays_whole}
use Rattle.bw_table.proofs.Writes.{reads}
use Rattle.bw_table.proofs.table.Table.modify.Goals as goal

pub index_mut-requires : goal.index_mut-requires
index_mut-requires g c = omega (arith, (does_modify c.self.invariant c.self.view_is c.args.step c.requires).exists)

pub modify-old-requires : goal.modify-old-requires
modify-old-requires g c =
    let does = does_modify c.self.invariant c.self.view_is c.args.step c.requires in
    let read = reads _ _ _ does.exists c.index_mut.ensures.value in
    record { deeper = rw read does.deeper }

pub overflow_add-self : goal.overflow_add-self
overflow_add-self g c =
    omega (arith, (does_modify c.self.invariant c.self.view_is c.args.step c.requires).number)

pub number_of-requires : goal.number_of-requires
number_of-requires g c =
    omega (arith, (does_modify c.self.invariant c.self.view_is c.args.step c.requires).number)

pub invariant_of-self : goal.invariant_of-self
invariant_of-self g c =
    let does = does_modify c.self.invariant c.self.view_is c.args.step c.requires in
    rw (c.modify-old.ensures.slot, reads _ _ _ does.exists c.index_mut.ensures.value) (stays_whole c.self.invariant c.self.view_is (modify_of c.args.step) c.requires)

pub returns : goal.returns
returns g c =
    let does = does_modify c.self.invariant c.self.view_is c.args.step c.requires in
    let read = reads _ _ _ does.exists c.index_mut.ensures.value in
    let number : c.number_of.result ≡ suc (number_of c.self.inside.book) = omega (arith, c.number_of.ensures) in
    rw (← c.self.view_is)
    (record {
      leads = rw (c.modify-old.ensures.slot, read) refl;
      reported = rw (number, c.modify-old.ensures.value, read) refl;
    })
