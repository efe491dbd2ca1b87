use Rattle.std.proofs.Common.{◌≡◌, length, take}
use Rattle.std.specs.List.{AllZip}
use Rattle.bw_table.specs.Gets.{HasLeaf}
use Rattle.bw_table.proofs.table.Table.leaves_for.Given as goal

abbrev pub invariant-keys : goal.invariant-keys
invariant-keys g l = (length l.leaves ≡ g.row.N) × AllZip (HasLeaf l.self) (take l.place l.keys) (take l.place l.leaves)
