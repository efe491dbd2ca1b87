use Rattle.std.proofs.Common.{refl}
use Rattle.bw_table.proofs.table.Table.check_modify.Goals as goal

pub returns : goal.returns
returns g c = rw (c.check_found.ensures, c.number.ensures, c.in-Some.ensures.there) refl
