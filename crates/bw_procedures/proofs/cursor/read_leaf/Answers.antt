use Rattle.bw_procedures.specs.Slices.{end_of_slice}
use Rattle.bw_procedures.proofs.Slicing.{has_leaf}
use Rattle.bw_procedures.proofs.cursor.read_leaf.Goals as goal

pub returns-clause-shows : goal.returns-clause-shows
returns-clause-shows g c =
    (has_leaf (g.S.Steps.shows c.read_at_once.new.self) c.args.key (end_of_slice c.next_leaf-next.result) c.in-Some.high
    c.in_ok-high.field-0 c.new-pairs.result.items c.read_at_once.new._list.items c.next_leaf-next.ensures.same
    c.next_leaf-next.ensures.among_keys c.in-Some.is c.new-pairs.ensures.items c.in_ok-high.ensures.read).shown

pub returns-clause-slice : goal.returns-clause-slice
returns-clause-slice g c =
    let it =
    (has_leaf (g.S.Steps.shows c.read_at_once.new.self) c.args.key (end_of_slice c.next_leaf-next.result) c.in-Some.high
    c.in_ok-high.field-0 c.new-pairs.result.items c.read_at_once.new._list.items c.next_leaf-next.ensures.same
    c.next_leaf-next.ensures.among_keys c.in-Some.is c.new-pairs.ensures.items c.in_ok-high.ensures.read) in
    record { rises = it.rise; next_above = it.above }
