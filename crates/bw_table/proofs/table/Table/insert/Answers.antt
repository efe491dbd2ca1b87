use Rattle.std.proofs.Common.{ℕ, ap, refl, arith}
use Rattle.bw_step.specs.declared.receipt.Receipt.TheVariants.{Inserted}
use Rattle.bw_step.specs.ProposalView.{insert_of}
use Rattle.bw_table.proofs.Doing.{does_insert, stays_whole}
use Rattle.bw_table.proofs.Writes.{reads}
use Rattle.bw_table.proofs.table.Table.insert.Goals as goal

pub index_mut-requires : goal.index_mut-requires
index_mut-requires g c = omega (arith, (does_insert c.self.invariant c.self.view_is c.args.step c.requires).exists)

pub insert-requires : goal.insert-requires
insert-requires g c =
    let does = does_insert c.self.invariant c.self.view_is c.args.step c.requires in
    let read = reads _ _ _ does.exists c.index_mut.ensures.value in
    record { deeper = rw read does.deeper; count = rw read does.count }

pub overflow_add-self : goal.overflow_add-self
overflow_add-self g c =
    omega (arith, (does_insert c.self.invariant c.self.view_is c.args.step c.requires).number)

pub number_of-requires : goal.number_of-requires
number_of-requires g c =
    omega (arith, (does_insert c.self.invariant c.self.view_is c.args.step c.requires).number)

pub invariant_of-self : goal.invariant_of-self
invariant_of-self g c =
    let does = does_insert c.self.invariant c.self.view_is c.args.step c.requires in
    rw (c.insert.ensures, reads _ _ _ does.exists c.index_mut.ensures.value) (stays_whole c.self.invariant c.self.view_is (insert_of c.args.step) c.requires)

pub returns : goal.returns
returns g c =
    let does = does_insert c.self.invariant c.self.view_is c.args.step c.requires in
    let read = reads _ _ _ does.exists c.index_mut.ensures.value in
    rw (← c.self.view_is)
    (record {
      leads = rw (c.insert.ensures, read) refl;
      reported = ap (λ (n : ℕ). Inserted n c.args.step.key c.args.step.value) (omega (arith, c.number_of.ensures));
    })
