use Rattle.std.proofs.Common.{◌<◌, sym, ◌∙◌}
use Rattle.bw_keys.specs.Ranges.{key_count, end_of}
use Rattle.bw_delta.specs.Slices.{list_of}
use Rattle.bw_delta.proofs.Rises.{below_all}
use Rattle.bw_chain.proofs.Lasts.{rises-last}
use Rattle.bw_chain.proofs.Partitions.{last_entry-slice_get}
use Rattle.bw_chain.proofs.Sorted.{below-nothing}
use Rattle.bw_chain.proofs.pass.below_end.Goals as goal

pub returns-then-is_above : goal.returns-then-is_above
returns-then-is_above g c =
    let bound = end_of c.args.end in
    let less : c.in-Some.greatest.0 < bound = c.is_above.ensures.0 c.if-is_above.true in
    let last = last_entry-slice_get (list_of c.args.entries) ∙ sym c.in-Some.ensures in
    sym (below_all 0 bound (list_of c.args.entries) (rises-last 0 key_count bound c.in-Some.greatest (list_of c.args.entries) c.requires.ascending last less))

pub returns-in_default : goal.returns-in_default
returns-in_default g c = below-nothing (end_of c.args.end) (list_of c.args.entries) (sym c.last.ensures ∙ c.in_default.is)
