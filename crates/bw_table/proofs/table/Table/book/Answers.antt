use Rattle.std.proofs.Common.{◌-◌, subst}
use Rattle.bw_law.specs.Tables.{TableValue}
use Rattle.bw_table.specs.Orders.{HasPairs}
use Rattle.bw_table.proofs.Orders.{book_counts}
use Rattle.bw_table.proofs.table.Table.book.Goals as goal

pub returns-clause-pairs : goal.returns-clause-pairs
returns-clause-pairs g c =
    let book = c.self.inside.book in
    subst (λ (table : TableValue). HasPairs table (book.inserted - book.removed)) c.self.view_is (book_counts _ c.self.invariant.lawful c.self.invariant.booked)
