use Rattle.std.proofs.lemmas.Slice.Eq.{slice_eq-Decides}
use Rattle.bw_audit.specs.Indexed.{IsLeftBy}
use Rattle.bw_audit.proofs.Leaving.{leaves_decided, pair_decides}
use Rattle.bw_audit.proofs.auditor.does_leave.Goals as goal

pub returns : goal.returns
returns c =
    let decides = slice_eq-Decides pair_decides c.as_slice.result.now c.args.pairs.now c.eq.result c.eq.ensures in
    let left : IsLeftBy c.args.index.now c.in_ok-left.left.items = c.in_ok-left.ensures in
    leaves_decided c.args.index.now c.in_ok-left.left.items c.args.pairs.now c.eq.result left c.requires.ascending (rw c.as_slice.ensures.value at decides)
