use Rattle.std.proofs.Common.{sym}
use Rattle.bw_audit.proofs.Interleaved.{look_is}
use Rattle.bw_audit.proofs.replayer.look.Goals as goal

pub returns : goal.returns
returns c = look_is c.args.table.now c.args.key c.locate.result.0 c.in-Some.look c.requires.lawful c.locate.ensures.leaf (sym c.in-Some.ensures.look)
