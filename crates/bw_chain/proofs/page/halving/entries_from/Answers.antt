use Rattle.std.proofs.Common.{arith}
use Rattle.bw_delta.specs.Slices.{list_of}
use Rattle.bw_chain.proofs.KeysAt.{key_at-here}
use Rattle.bw_chain.proofs.page.halving.entries_from.Goals as goal

pub returns-in-Ok-clause-separator : goal.returns-in-Ok-clause-separator
returns-in-Ok-clause-separator g c = key_at-here c.args.number c.key-separator.result (list_of c.args.entries) (omega arith) c.key-separator.ensures
