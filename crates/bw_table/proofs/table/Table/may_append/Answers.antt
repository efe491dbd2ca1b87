use Rattle.bw_law.specs.Tables.{number_of}
use Rattle.bw_table.proofs.table.Table.may_append.Goals as goal

pub returns-then-not-may_append-clause-unfit : goal.returns-then-not-may_append-clause-unfit
returns-then-not-may_append-clause-unfit g c = λ so may.
    let unfit = rw c.in-Some.ensures.there at c.may_append.ensures.unfit in
    unfit c.if-not-may_append.true (number_of c.args.self.now.book) may
