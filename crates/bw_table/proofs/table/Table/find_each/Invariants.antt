use Rattle.std.proofs.Common.{◌≡◌, length, take}
use Rattle.std.specs.List.{AllZip}
use Rattle.bw_table.specs.Gets.{IsMapAt}
use Rattle.bw_table.proofs.table.Table.find_each.Given as goal

abbrev pub invariant-keys : goal.invariant-keys
invariant-keys g l = (length l.found ≡ g.row.N) × AllZip (IsMapAt l.self) (take l.place l.keys) (take l.place l.found)
