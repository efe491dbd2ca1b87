use Rattle.std.proofs.Common.{refl}
use Rattle.bw_table.proofs.table.Table.check_consolidate.Goals as goal

pub returns : goal.returns
returns g c = rw (c.may_consolidate.ensures, c.in-Some.ensures.there) refl
