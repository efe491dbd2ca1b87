use Rattle.bw_keys.specs.Ranges.{end_of}
use Rattle.nifforan_forest.proofs.Leaves.{appends_first}
use Rattle.nifforan_forest.proofs.scan.scan_leaf.Goals as goal

pub returns-in-Some-clause-read : goal.returns-in-Some-clause-read
returns-in-Some-clause-read g c =
    appends_first (g.H.Steps.shows c.read_at_once.new.self) c.args.key (end_of c.args.high) c.args.limit (end_of c.in-Some.end)
    c.args.list.now.items c.read_at_once.new._list.items (rw c.in-Some.is at c.in_ok-end.ensures.read)
