use Rattle.std.proofs.Common.{◌++◌, sym, ◌∙◌, ap, append-nil}
use Rattle.bw_table.proofs.FreeIds.{no_ids}
use Rattle.bw_table.proofs.free.FreeList.new.Goals as goal

pub returns-clause-ids : goal.returns-clause-ids
returns-clause-ids c = sym (append-nil _) ∙ ap (λ rest. c.loop-id.ids.items ++ rest) (sym (no_ids c.loop-id.id c.loop-id-test.false)) ∙ c.loop-id.invariant.ids
