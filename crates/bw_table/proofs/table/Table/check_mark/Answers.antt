use Rattle.std.proofs.Common.{refl}
use Rattle.bw_table.proofs.table.Table.check_mark.Goals as goal

pub returns : goal.returns
returns g c = rw (c.may_mark.ensures, c.in-Some-Some.ensures.there, c.in-Some-Some.ensures'.there) refl
