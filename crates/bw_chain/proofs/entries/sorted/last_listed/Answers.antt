use Rattle.std.proofs.Common.{◌∙◌, sym, ap}
use Rattle.bw_delta.specs.Entries.{last_entry}
use Rattle.bw_delta.specs.Slices.{list_of}
use Rattle.bw_chain.proofs.Partitions.{last_entry-slice_get}
use Rattle.bw_chain.proofs.entries.sorted.last_listed.Goals as goal

pub returns : goal.returns
returns g c =
    c.last.ensures ∙ sym (last_entry-slice_get (list_of c.below_fence.result)) ∙ ap last_entry c.below_fence.ensures
