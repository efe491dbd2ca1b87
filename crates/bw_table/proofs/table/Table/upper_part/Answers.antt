use Rattle.bw_table.proofs.table.Table.upper_part.Goals as goal

pub returns-clause-separator : goal.returns-clause-separator
returns-clause-separator g c = rw c.in_ok-slot.ensures.there at c.upper_part.ensures.separator

pub returns-clause-page : goal.returns-clause-page
returns-clause-page g c = rw c.in_ok-slot.ensures.there at c.upper_part.ensures.page
